use Rattle.std.proofs.Common.{ap, sym, subst, ◌∙◌, ◌-◌, drop}
use Rattle.br_model.specs.Console.{begins_with}
use Rattle.br_tree.specs.Walk.{seen_paths, is_picked, IsRising, IsStep, AllPassing}
use Rattle.br_tree.proofs.RunLaws.{seen_part, rising_drop, rising_take}
use Rattle.br_tree.proofs.StepLaws.{step_within}
use Rattle.br_tree.proofs.tree_walk.step_at.Goals as goal

pub step-requires-clause-sorted : goal.step-requires-clause-sorted
step-requires-clause-sorted c =
    let a = c.args.place in
    let b = c.args.last in
    subst IsRising (sym (ap seen_paths c.part_of.ensures ∙ seen_part a b c.args.entries.now)) (rising_take (b - a) (drop a (seen_paths c.args.entries.now)) (rising_drop a (seen_paths c.args.entries.now) c.requires.sorted))

pub step-requires-clause-begins : goal.step-requires-clause-begins
step-requires-clause-begins c =
    subst (AllPassing (λ p. begins_with p c.args.directory.now)) (sym (ap seen_paths c.part_of.ensures ∙ seen_part c.args.place c.args.last c.args.entries.now)) c.requires.begins

pub returns : goal.returns
returns c =
    let a = c.args.place in
    let b = c.args.last in
    let test = is_picked c.args.deep c.args.directory.now c.args.pattern.now in
    step_within test (b - a) (drop a (seen_paths c.args.entries.now)) c.step.result.0 c.step.result.1
    (subst (λ ps. IsStep test ps c.step.result.0 c.step.result.1) (ap seen_paths c.part_of.ensures ∙ seen_part a b c.args.entries.now) c.step.ensures)
