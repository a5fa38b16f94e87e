use Rattle.std.proofs.Common.{leb, ℕ, rules}
use Rattle.std.proofs.lemmas.Bool.{leb-true, leb-false}
use Rattle.std.proofs.lemmas.List.Sorted.{IsPartitionPoint-from_clause, IsPartitionedBy-leb}
use Rattle.br_match.proofs.matchers.begun.Goals as goal

pub returns-clause-point : goal.returns-clause-point
returns-clause-point c =
    let parted = IsPartitionedBy-leb (λ (n : ℕ). n) _ c.args.addr c.requires in
    let point = IsPartitionPoint-from_clause (λ (n : ℕ). leb n c.args.addr) _ _ c.partition_point.ensures.partitioned parted (λ a r q k. search rules) in
    (λ k d le lt. leb-true _ _ (point.0 k d le lt), λ k d le lt. leb-false _ _ (point.1 k d le lt))
