use Rattle.std.proofs.Common.{leb, leb-true, rules}
use Rattle.std.proofs.lemmas.Bool.{leb-false}
use Rattle.std.proofs.lemmas.List.Sorted.{IsPartitionPoint-from_clause, IsPartitionedBy-leb}
use Rattle.br_model.specs.Bootstrap.{Range}
use Rattle.br_match.proofs.admitted.begun.Goals as goal

pub returns-clause-point : goal.returns-clause-point
returns-clause-point c =
    let parted = IsPartitionedBy-leb (λ (r : Range). r.low) _ c.args.number c.requires.low in
    let point = IsPartitionPoint-from_clause (λ (r : Range). leb r.low c.args.number) _ _ c.partition_point.ensures.partitioned parted (λ a r q k. search rules) in
    (λ k d le lt. leb-true _ _ (point.0 k d le lt), λ k d le lt. leb-false _ _ (point.1 k d le lt))
