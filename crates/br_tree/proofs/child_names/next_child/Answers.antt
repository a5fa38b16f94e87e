use Rattle.std.proofs.Common.{[], true, sym, ap, subst, ◌≤◌, drop}
use Rattle.br_tree.specs.Walk.{seen_paths}
use Rattle.br_tree.proofs.RunLaws.{seen_length}
use Rattle.br_tree.proofs.PickLaws.{none_before}
use Rattle.br_tree.proofs.ChildLaws.{first_names}
use Rattle.br_tree.proofs.child_names.next_child.Goals as goal

pub child_len-requires-clause-first : goal.child_len-requires-clause-first
child_len-requires-clause-first c =
    let xs = c.args.entries.now in
    none_before true c.args.directory.now [] (seen_paths xs) c.pair_at.result.0.now (seen_paths (drop 1 xs)) c.bytes-path.result.now c.child_name.result.now
    (ap seen_paths c.pair_at.ensures) c.bytes-path.ensures.same c.child_name.ensures c.requires.sorted c.requires.begins

pub returns : goal.returns
returns c =
    let xs = c.args.entries.now in
    let d = c.args.directory.now in
    let p = c.pair_at.result.0.now in
    let shape = ap seen_paths c.pair_at.ensures in
    first_names d (seen_paths xs) p (seen_paths (drop 1 xs)) c.bytes-path.result.now c.child_name.result.now c.child_len.result
    shape c.bytes-path.ensures.same c.child_name.ensures c.requires.begins
    (none_before true d [] (seen_paths xs) p (seen_paths (drop 1 xs)) c.bytes-path.result.now c.child_name.result.now shape c.bytes-path.ensures.same c.child_name.ensures c.requires.sorted c.requires.begins)
    (subst (λ k. c.child_len.result ≤ k) (sym (seen_length xs)) c.child_len.ensures.bound) c.child_len.ensures.within c.child_len.ensures.after
