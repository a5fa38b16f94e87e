use Rattle.std.proofs.Common.{rules}
use Rattle.std.proofs.lemmas.List.Sorted.{IsNonDecreasingBy-from_sort_by_key}
use Rattle.br_damage.specs.declared.lost_files.Span.{Span}
use Rattle.br_damage.proofs.lost_files.in_order.Goals as goal

pub returns-clause-rising : goal.returns-clause-rising
returns-clause-rising c = IsNonDecreasingBy-from_sort_by_key (λ (s : Span). s.low) _ c.in_ok-sort_by_key.ensures.sorted (λ a r q k. search rules)
