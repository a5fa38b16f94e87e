use Rattle.std.proofs.Common.{rules, ◌≡◌, Ok, Err, ap, sym, ◌∙◌}
use Rattle.std.proofs.lemmas.Result.{err_from_is_err_and}
use Rattle.br_model.proofs.AnswerLaws.{err_is, ok_is}
use Rattle.br_data.specs.declared.reread_fault.AgainFault.{AgainFault}
use Rattle.br_data.specs.KnownBlocks.{bytes_of}
use Rattle.br_data.specs.StandingHits.{FragmentPlace}
use Rattle.br_data.proofs.ManyLaws.{has_ready, never_gone}
use Rattle.br_data.proofs.reread_data.read_by.Goals as goal

pub returns-in_err-prepare-clause-changed : goal.returns-in_err-prepare-clause-changed
returns-in_err-prepare-clause-changed g c =
    let p = err_from_is_err_and c.from_residual.result c.from_residual.ensures.1 in
    rw (p.1, p.2) (λ is has. never_gone _ _ _ (c.in_err-prepare.ensures.gone (ap (λ (f : AgainFault). Err f) (err_is _ _ is))) has)

pub returns-in_err-bytes-clause-changed : goal.returns-in_err-bytes-clause-changed
returns-in_err-bytes-clause-changed g c = λ is has.
    let known = c.prepare.new.self in
    let kept = c.args.found.now in
    let ready = has_ready (g.D.Drive.shows c.args.drive.now) c.args.place.now kept known c.in_ok-prepare.ensures.same has in
    let both : Err c.in_err-bytes.field-0.0 ≡ Ok kept.bytes =
    sym c.in_err-bytes.ensures ∙ ap (λ (p : FragmentPlace). bytes_of known p.ordinal kept) c.place.view_is ∙ ready in
    absurd cc

pub returns-clause-same : goal.returns-clause-same
returns-clause-same g c = λ has.
    let known = c.prepare.new.self in
    let kept = c.args.found.now in
    let ready = has_ready (g.D.Drive.shows c.args.drive.now) c.args.place.now kept known c.in_ok-prepare.ensures.same has in
    let got : bytes_of known c.place.inside.ordinal kept ≡ Ok c.in_ok-bytes.bytes.now = c.in_ok-bytes.ensures in
    let same : c.in_ok-bytes.bytes.now ≡ kept.bytes =
    ok_is _ _ (sym got ∙ ap (λ (p : FragmentPlace). bytes_of known p.ordinal kept) c.place.view_is ∙ ready) in
    search (rules, same)
