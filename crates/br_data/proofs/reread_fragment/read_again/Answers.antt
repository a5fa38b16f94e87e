use Rattle.std.proofs.Common.{◌≡◌, ℕ, List, Ok, subst}
use Rattle.std.proofs.lemmas.Result.{err_from_is_err_and}
use Rattle.br_model.specs.Block.{read_block}
use Rattle.br_volume.proofs.ExtendLaws.{grows_more}
use Rattle.std.specs.Prelude.{OnOk}
use Rattle.br_data.specs.Rereading.{IsBlock}
use Rattle.br_data.specs.declared.reread_fault.AgainFault.TheVariants.{Changed}
use Rattle.br_data.specs.StandingHits.{ShowsBlock}
use Rattle.br_data.proofs.ReadLaws.{gone_earlier, gone_if_torn, gone_on, on_err_is, on_ok_then, whole_first, shows_whole}
use Rattle.br_data.proofs.reread_fragment.read_again.Goals as goal

pub returns-in_err-size-clause-gone : goal.returns-in_err-size-clause-gone
returns-in_err-size-clause-gone g c =
    let p = err_from_is_err_and c.from_residual.result c.from_residual.ensures.1 in
    rw (p.1, p.2) (gone_on _ _ _ c.in_err-size.field-0.0 c.in_err-size.ensures.gone)

pub returns-in_err-read_bytes-clause-gone : goal.returns-in_err-read_bytes-clause-gone
returns-in_err-read_bytes-clause-gone g c =
    let p = err_from_is_err_and c.from_residual-in_err-read_bytes.result c.from_residual-in_err-read_bytes.ensures.1 in
    rw (p.1, p.2) (gone_earlier _ _ _ _ c.in_err-read_bytes.field-0.0 c.block_len.ensures.grows c.in_err-read_bytes.ensures.gone)

pub returns-in_err-read_bytes-clause-grows : goal.returns-in_err-read_bytes-clause-grows
returns-in_err-read_bytes-clause-grows g c =
    grows_more (g.D.Drive.shows c.args.drive.now) (g.D.Drive.shows c.block_len.new.drive) (g.D.Drive.shows c.read_bytes.new.drive) c.block_len.ensures.grows c.read_bytes.ensures.grows

pub returns-clause-same : goal.returns-clause-same
returns-clause-same g c =
    let earlier = g.D.Drive.shows c.args.drive.now in
    let later = g.D.Drive.shows c.block_len.new.drive in
    let vol = c.args.vol.now in
    let buffer = c.read_bytes.new.buf.items in
    on_ok_then c.check_whole.result _ (IsBlock earlier vol c.args.addr buffer) c.check_whole.ensures.whole
    (λ _. whole_first earlier later vol c.args.addr c.in_ok-size.size buffer c.block_len.ensures.grows c.in_ok-size.ensures.length c.in_ok-read_bytes.ensures.first)

pub returns-clause-shown : goal.returns-clause-shown
returns-clause-shown g c =
    let shown = g.D.Drive.shows c.read_bytes.new.drive in
    let vol = c.args.vol.now in
    let buffer = c.read_bytes.new.buf.items in
    on_ok_then c.check_whole.result _ (ShowsBlock shown vol c.args.addr buffer)
    (subst (λ (bs : List ℕ). OnOk c.check_whole.result (read_block bs ≡ Ok bs)) c.deref.ensures.value c.check_whole.ensures.whole)
    (shows_whole shown vol c.args.addr c.in_ok-size.size buffer c.in_ok-read_bytes.ensures.shown)

pub returns-clause-gone : goal.returns-clause-gone
returns-clause-gone g c is =
    let earlier = g.D.Drive.shows c.args.drive.now in
    let later = g.D.Drive.shows c.block_len.new.drive in
    gone_if_torn earlier later c.args.vol.now c.args.addr c.in_ok-size.size c.read_bytes.new.buf.items
    c.block_len.ensures.grows c.in_ok-size.ensures.length c.in_ok-read_bytes.ensures.first
    (subst (λ (bs : List ℕ). read_block bs ≡ Ok bs → ⊥) c.deref.ensures.value
    (on_err_is c.check_whole.result Changed (read_block c.deref.result.now ≡ Ok c.deref.result.now → ⊥) is c.check_whole.ensures.refused))

pub returns-clause-grows : goal.returns-clause-grows
returns-clause-grows g c =
    grows_more (g.D.Drive.shows c.args.drive.now) (g.D.Drive.shows c.block_len.new.drive) (g.D.Drive.shows c.read_bytes.new.drive) c.block_len.ensures.grows c.read_bytes.ensures.grows
