use Rattle.std.proofs.Common.{ap, sym, ◌∙◌}
use Rattle.br_tree.specs.Walk.{seen_paths}
use Rattle.std.specs.Prelude.{bytes_eq}
use Rattle.br_tree.proofs.StepLaws.{behind_own, none_own}
use Rattle.br_tree.proofs.tree_walk.own_len.Goals as goal

pub returns-then-eq-clause-after : goal.returns-then-eq-clause-after
returns-then-eq-clause-after c =
    behind_own c.args.directory.now (seen_paths c.args.entries.now) c.in-Some.first.now.0.now (seen_paths c.in-Some.field-0-1.now) (ap seen_paths c.in-Some.ensures.cases.0) c.requires.sorted c.requires.from

pub returns-else-eq-clause-after : goal.returns-else-eq-clause-after
returns-else-eq-clause-after c =
    let other = c.eq.ensures ∙ ap (bytes_eq c.args.directory.now) c.bytes.ensures.same in
    none_own c.args.directory.now (seen_paths c.args.entries.now) c.in-Some.first.now.0.now (seen_paths c.in-Some.field-0-1.now) (ap seen_paths c.in-Some.ensures.cases.0) c.requires.sorted c.requires.from (sym other ∙ c.if-eq.false)
