use Rattle.std.proofs.Common.{◌≡◌, ◌+◌, Ok, Err, Some, ap, sym, ◌∙◌}
use Rattle.std.proofs.lemmas.Result.{err_from_is_err_and}
use Rattle.br_model.specs.Block.{Header}
use Rattle.br_match.specs.Walk.{AfterWalk, BlockAnswers, Follows, HasHead, HeadAnswers, IsStep, StepAnswers}
use Rattle.br_match.specs.declared.walk.Step.TheVariants.{Passed, End}
use Rattle.br_match.proofs.FoundLaws.{ends_above}
use Rattle.br_volume.proofs.ExtendLaws.{grows_more}
use Rattle.br_match.proofs.OverLaws.{over_any, over_join}
use Rattle.br_match.proofs.walk.Walk.step.Goals as goal

pub returns-then-is_above-clause-hits : goal.returns-then-is_above-clause-hits
returns-then-is_above-clause-hits g c =
    let piece = c.args.self.now.piece.now in
    let a = c.args.self.now.addr in
    let hits = c.args.hits.now.items in
    let shows = g.D.Drive.shows c.args.drive.now in
    over_any shows shows piece (λ volumes. Follows volumes piece a → StepAnswers piece a a hits hits (Ok End) volumes)
    (λ volumes follows. ends_above volumes piece a hits (sym c.is_above.ensures ∙ c.if-is_above.true) follows)

pub returns-in_err-head-clause-hits : goal.returns-in_err-head-clause-hits
returns-in_err-head-clause-hits g c =
    let p = err_from_is_err_and c.from_residual.result c.from_residual.ensures.1 in
    rw (p.1, p.2) c.in_err-head.ensures.head

pub returns-in_err-push_block-clause-hits : goal.returns-in_err-push_block-clause-hits
returns-in_err-push_block-clause-hits g c =
    let piece = c.args.self.now.piece.now in
    let a = c.args.self.now.addr in
    let h = c.in-Some.head in
    let before = c.args.hits.now.items in
    let after = c.push_block.new.hits.items in
    let e = c.in_err-push_block.field-0.0 in
    let first = g.D.Drive.shows c.args.drive.now in
    let second = g.D.Drive.shows c.head_at.new.drive in
    let third = g.D.Drive.shows c.push_block.new.drive in
    let p = err_from_is_err_and c.from_residual-in_err-push_block.result c.from_residual-in_err-push_block.ensures.1 in
    let head : AfterWalk first second piece a (HeadAnswers piece a (Ok (Some h))) = rw (c.in-Some.is) at c.in_ok-head.ensures.head in
    rw (p.1, p.2)
    (over_join first second third piece (λ volumes. Follows volumes piece a → HasHead volumes piece a h)
    (λ volumes. Follows volumes piece a → HasHead volumes piece a h → BlockAnswers piece a (a + h.size) before after (Err e) volumes)
    (λ volumes. Follows volumes piece a → StepAnswers piece a a before after (Err e) volumes)
    c.head_at.ensures.grows c.push_block.ensures.grows head c.in_err-push_block.ensures.hits
    (λ volumes has block follows. block follows (has follows)))

pub returns-in_err-push_block-clause-grows : goal.returns-in_err-push_block-clause-grows
returns-in_err-push_block-clause-grows g c =
    grows_more (g.D.Drive.shows c.args.drive.now) (g.D.Drive.shows c.head_at.new.drive) (g.D.Drive.shows c.push_block.new.drive) c.head_at.ensures.grows c.push_block.ensures.grows

pub returns-clause-hits : goal.returns-clause-hits
returns-clause-hits g c =
    let piece = c.args.self.now.piece.now in
    let a = c.args.self.now.addr in
    let h = c.in-Some.head in
    let before = c.args.hits.now.items in
    let after = c.push_block.new.hits.items in
    let first = g.D.Drive.shows c.args.drive.now in
    let second = g.D.Drive.shows c.head_at.new.drive in
    let third = g.D.Drive.shows c.push_block.new.drive in
    let head : AfterWalk first second piece a (HeadAnswers piece a (Ok (Some h))) = rw (c.in-Some.is) at c.in_ok-head.ensures.head in
    let size : c.from.result ≡ h.size = c.from.ensures ∙ ap (λ (x : Header). x.size) c.head.view_is in
    rw size
    (over_join first second third piece (λ volumes. Follows volumes piece a → HasHead volumes piece a h)
    (λ volumes. Follows volumes piece a → HasHead volumes piece a h → IsStep volumes piece a (a + h.size) before after)
    (λ volumes. Follows volumes piece a → StepAnswers piece a (a + h.size) before after (Ok Passed) volumes)
    c.head_at.ensures.grows c.push_block.ensures.grows head c.in_ok-push_block.ensures.hits
    (λ volumes has block follows. block follows (has follows)))

pub returns-clause-grows : goal.returns-clause-grows
returns-clause-grows g c =
    grows_more (g.D.Drive.shows c.args.drive.now) (g.D.Drive.shows c.head_at.new.drive) (g.D.Drive.shows c.push_block.new.drive) c.head_at.ensures.grows c.push_block.ensures.grows
