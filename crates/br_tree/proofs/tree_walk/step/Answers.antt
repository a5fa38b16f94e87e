use Rattle.std.proofs.Common.{ap, sym, subst, ◌≤◌}
use Rattle.br_tree.specs.Walk.{seen_paths}
use Rattle.br_tree.proofs.RunLaws.{seen_length}
use Rattle.br_tree.proofs.PickLaws.{none_before, step_is}
use Rattle.br_tree.proofs.tree_walk.step.Goals as goal

pub child_len-len-requires-clause-first : goal.child_len-len-requires-clause-first
child_len-len-requires-clause-first c =
    none_before c.args.deep c.args.directory.now c.args.pattern.now (seen_paths c.args.entries.now) c.in-Some.first.now.0.now (seen_paths c.in-Some.field-0-1.now) c.bytes-path.result.now c.child_name-name.result.now
    (ap seen_paths c.in-Some.ensures.cases.0) c.bytes-path.ensures.same c.child_name-name.ensures c.requires.sorted c.requires.begins

pub returns-in-Some : goal.returns-in-Some
returns-in-Some c =
    step_is c.args.deep c.args.directory.now c.args.pattern.now (seen_paths c.args.entries.now) c.in-Some.first.now.0.now (seen_paths c.in-Some.field-0-1.now) c.bytes-path.result.now c.child_name-name.result.now
    (ap seen_paths c.in-Some.ensures.cases.0) c.bytes-path.ensures.same c.child_name-name.ensures c.requires.sorted c.requires.begins
    c.child_len-len.result c.reach_of.result
    (subst (λ k. c.child_len-len.result ≤ k) (sym (seen_length c.args.entries.now)) c.child_len-len.ensures.bound) c.child_len-len.ensures.within c.child_len-len.ensures.after c.reach_of.ensures
