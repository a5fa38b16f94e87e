use Rattle.std.proofs.Common.{ℕ, Bool, List, rules, arith}
use Rattle.std.proofs.lemmas.List.Sorted.{IsPartitionPoint-from_clause}
use Rattle.br_tree.specs.Walk.{Pair, seen_paths}
use Rattle.br_tree.specs.Cut.{passes}
use Rattle.br_tree.proofs.RunLaws.{parted, passing_taken, none_dropped, seen_length}
use Rattle.br_tree.proofs.CutLaws.{pairs_fall}
use Rattle.br_tree.proofs.cut.cut.Goals as goal

pub returns-else-is_cut : goal.returns-else-is_cut
returns-else-is_cut c =
    let test : List ℕ → Bool = passes c.args.test in
    let xs = c.args.entries.now in
    let point = IsPartitionPoint-from_clause (λ (x : Pair). test x.0.now) _ _ c.partition_point.ensures.partitioned (parted test xs (pairs_fall test (seen_paths xs) c.requires)) (λ a r q k. search rules) in
    record {
      bound = omega (arith, seen_length xs, c.partition_point.ensures.bound);
      before = passing_taken test xs c.partition_point.result point.0;
      after = none_dropped test xs c.partition_point.result point.1;
    }
