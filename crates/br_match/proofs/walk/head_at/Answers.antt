use Rattle.std.proofs.Common.{◌≡◌, Ok, Err, Some, None, ap, sym, ◌∙◌}
use Rattle.std.proofs.lemmas.Result.{err_from_is_err_and}
use Rattle.br_model.specs.Block.{read_header}
use Rattle.br_model.specs.Meaning.{Piece}
use Rattle.br_match.specs.Fault.{cause}
use Rattle.br_match.specs.Walk.{HeadAnswers, step_on}
use Rattle.br_match.proofs.OverLaws.{IsCall, of_head, refused_for, read_is_refused, ends_there, head_there, bad_head_there}
use Rattle.br_match.proofs.walk.head_at.Goals as goal

pub returns-in_err-read_bytes-clause-head : goal.returns-in_err-read_bytes-clause-head
returns-in_err-read_bytes-clause-head g c =
    let piece = c.args.piece.now in
    let call : IsCall (g.D.Drive.shows c.args.drive.now) (g.D.Drive.shows c.read_bytes.new.drive) piece c.piece.inside.vol c.args.addr 24 c.read_bytes.new.buf.items c.read_bytes.result =
    record { near = c.requires.near; volume_is = ap (λ (q : Piece). q.volume) c.piece.view_is; grows = c.read_bytes.ensures.grows; reads = c.read_bytes.ensures.read } in
    let p = err_from_is_err_and c.from_residual.result c.from_residual.ensures.1 in
    rw (p.1, p.2)
    (of_head (HeadAnswers piece c.args.addr (Err c.in_err-read_bytes.field-0.0)) call (c.in_err-read_bytes.was) (λ volumes bytes same reads. read_is_refused volumes piece c.args.addr 24 bytes c.in_err-read_bytes.field-0.0 reads))

pub returns-in-End-clause-head : goal.returns-in-End-clause-head
returns-in-End-clause-head g c =
    let piece = c.args.piece.now in
    let call : IsCall (g.D.Drive.shows c.args.drive.now) (g.D.Drive.shows c.read_bytes.new.drive) piece c.piece.inside.vol c.args.addr 24 c.read_bytes.new.buf.items c.read_bytes.result =
    record { near = c.requires.near; volume_is = ap (λ (q : Piece). q.volume) c.piece.view_is; grows = c.read_bytes.ensures.grows; reads = c.read_bytes.ensures.read } in
    of_head (HeadAnswers piece c.args.addr (Ok None)) call (c.in_ok-read_bytes.was ∙ ap (λ g. Ok g) c.in-End.is) (λ volumes bytes same reads. ends_there volumes piece c.args.addr bytes reads)

pub returns-in-Ok-clause-head : goal.returns-in-Ok-clause-head
returns-in-Ok-clause-head g c =
    let piece = c.args.piece.now in
    let call : IsCall (g.D.Drive.shows c.args.drive.now) (g.D.Drive.shows c.read_bytes.new.drive) piece c.piece.inside.vol c.args.addr 24 c.read_bytes.new.buf.items c.read_bytes.result =
    record { near = c.requires.near; volume_is = ap (λ (q : Piece). q.volume) c.piece.view_is; grows = c.read_bytes.ensures.grows; reads = c.read_bytes.ensures.read } in
    of_head (HeadAnswers piece c.args.addr (Ok (Some c.in-Ok.head))) call (c.in_ok-read_bytes.was ∙ ap (λ g. Ok g) c.in-Block.is)
    (λ volumes bytes same reads. head_there volumes piece c.args.addr c.in-Block.field-0 bytes c.in-Ok.head (same ∙ ap read_header (sym c.deref.ensures.value) ∙ c.in-Ok.ensures.exact) reads)

pub returns-in-Err-clause-head : goal.returns-in-Err-clause-head
returns-in-Err-clause-head g c =
    let piece = c.args.piece.now in
    let volume : c.piece.inside.vol ≡ piece.volume = ap (λ (q : Piece). q.volume) c.piece.view_is in
    let call : IsCall (g.D.Drive.shows c.args.drive.now) (g.D.Drive.shows c.read_bytes.new.drive) piece c.piece.inside.vol c.args.addr 24 c.read_bytes.new.buf.items c.read_bytes.result =
    record { near = c.requires.near; volume_is = volume; grows = c.read_bytes.ensures.grows; reads = c.read_bytes.ensures.read } in
    of_head (HeadAnswers piece c.args.addr (Err c.refused.result)) call (c.in_ok-read_bytes.was ∙ ap (λ g. Ok g) c.in-Block.is)
    (λ volumes bytes same reads.
    refused_for _ (cause c.refused.result) (step_on volumes piece c.args.addr) c.refused.ensures.why
    (rw (c.of_block.ensures.told c.piece.inside.vol c.args.addr, volume) (bad_head_there volumes piece c.args.addr c.in-Block.field-0 _ bytes c.requires.near (same ∙ ap read_header (sym c.deref.ensures.value) ∙ c.in-Err.ensures.exact) reads)))
