use Rattle.std.proofs.Common.{Some, None, Ok}
use Rattle.std.proofs.lemmas.Result.{err_from_is_err_and}
use Rattle.br_match.specs.declared.hit.Batch.{Batch}
use Rattle.br_match.specs.declared.walk.Step.TheVariants.{Passed, End}
use Rattle.br_match.specs.Walk.{AfterWalk, BlockGiven, Follows, StepAnswers}
use Rattle.br_match.proofs.FoundLaws.{block_given}
use Rattle.br_match.proofs.OverLaws.{over_weaker}
use Rattle.br_match.proofs.walk.Walk.next.Goals as goal

pub returns-in_err-step-clause-hits : goal.returns-in_err-step-clause-hits
returns-in_err-step-clause-hits g c =
    let p = err_from_is_err_and c.from_residual.result c.from_residual.ensures.1 in
    rw (p.1, p.2) c.in_err-step.ensures.hits

pub returns-in-Passed-clause-hits : goal.returns-in-Passed-clause-hits
returns-in-Passed-clause-hits g c =
    let piece = c.args.self.now.piece.now in
    let a = c.args.self.now.addr in
    let next = c.step.new.self.addr in
    let none = c.new-hits.result.items in
    let batch : Batch = record { hits = c.step.new.hits } in
    let first = g.D.Drive.shows c.args.drive.now in
    let second = g.D.Drive.shows c.step.new.drive in
    let answer : AfterWalk first second piece a (StepAnswers piece a next none batch.hits.items (Ok Passed)) = rw (c.in-Passed.is) at c.in_ok-step.ensures.hits in
    over_weaker first second piece (λ volumes. Follows volumes piece a → StepAnswers piece a next none batch.hits.items (Ok Passed) volumes)
    (λ volumes. Follows volumes piece a → BlockGiven piece a next (Ok (Some batch)) volumes)
    (λ volumes was follows. block_given volumes piece a next none batch c.new-hits.ensures.items (was follows)) answer

pub returns-in-End-clause-hits : goal.returns-in-End-clause-hits
returns-in-End-clause-hits g c =
    let piece = c.args.self.now.piece.now in
    let a = c.args.self.now.addr in
    let next = c.step.new.self.addr in
    let none = c.new-hits.result.items in
    let after = c.step.new.hits.items in
    let first = g.D.Drive.shows c.args.drive.now in
    let second = g.D.Drive.shows c.step.new.drive in
    let answer : AfterWalk first second piece a (StepAnswers piece a next none after (Ok End)) = rw (c.in-End.is) at c.in_ok-step.ensures.hits in
    over_weaker first second piece (λ volumes. Follows volumes piece a → StepAnswers piece a next none after (Ok End) volumes)
    (λ volumes. Follows volumes piece a → BlockGiven piece a next (Ok None) volumes)
    (λ volumes was follows. (was follows).0) answer
