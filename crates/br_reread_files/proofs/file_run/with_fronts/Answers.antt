use Rattle.std.proofs.Common.{◌++◌, ◌∷◌, [], take, sym, ap, ◌∙◌}
use Rattle.std.proofs.lemmas.List.{take_all, take_more}
use Rattle.br_join.specs.Runs.{Run}
use Rattle.br_reread_parts.proofs.GivenLaws.{one_of}
use Rattle.br_reread_files.specs.FileHits.{FitsFront}
use Rattle.br_reread_files.proofs.file_run.with_fronts.Goals as goal

pub new-requires : goal.new-requires
new-requires c =
    one_of (FitsFront c.args.fronts.now) c.args.runs.now c.loop-run.run-index c.run-item.result c.loop-run-test.true c.run-item.is c.requires

pub loop-run-preserved : goal.loop-run-preserved
loop-run-preserved c =
    let runs = c.args.runs.now in
    let i = c.loop-run.run-index in
    let x = c.run-item.result in
    c.in_ok-push_run.ensures
    ∙ (λ k. c.loop-run.invariant k ++ c.new.ensures k ∷ [])
    ∙ ap (λ (r : Run). take i runs ++ r ∷ []) c.run-item.is
    ∙ sym (take_more runs i x c.loop-run-test.true)

pub returns : goal.returns
returns c = c.loop-run.invariant ∙ take_all c.loop-run.run-index c.args.runs.now c.loop-run-test.false
