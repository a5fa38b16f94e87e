use Rattle.std.proofs.Common.{rules, tests, ltb, get_or}
use Rattle.std.proofs.lemmas.Bool.{ltb-false}
use Rattle.std.proofs.lemmas.List.Sorted.{IsNonDecreasingBy-take, IsPartitionPoint-from_clause, IsPartitionedBy-ltb}
use Rattle.br_damage.specs.declared.lost_files.Span.{Span}
use Rattle.br_damage.proofs.SpanLaws.{later_have_none}
use Rattle.br_damage.proofs.lost_files.before.Goals as goal

pub returns-clause-rising : goal.returns-clause-rising
returns-clause-rising c = IsNonDecreasingBy-take (λ (s : Span). s.low) c.partition_point.result c.args.spans.now c.requires

pub returns-clause-same : goal.returns-clause-same
returns-clause-same c p lt =
    let spans = c.args.spans.now in
    let i = c.partition_point.result in
    let n = c.args.place in
    let at =
    IsPartitionPoint-from_clause (λ (s : Span). ltb s.low n) spans i c.partition_point.ensures.partitioned (IsPartitionedBy-ltb (λ (s : Span). s.low) spans n c.requires) (λ a r f k. search (rules, tests)) in
    later_have_none p n spans i lt (λ k d le l. ltb-false (get_or spans k d).low n (at.1 k d le l))
