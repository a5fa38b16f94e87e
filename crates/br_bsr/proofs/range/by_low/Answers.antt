use Rattle.std.proofs.Common.{rules}
use Rattle.std.proofs.lemmas.List.Sorted.{IsNonDecreasingBy-from_sort_by_key}
use Rattle.br_model.specs.Bootstrap.{Range}
use Rattle.br_bsr.proofs.range.by_low.Goals as goal

pub returns-clause-rising : goal.returns-clause-rising
returns-clause-rising c = IsNonDecreasingBy-from_sort_by_key (λ (r : Range). r.low) _ c.in_ok-sort_by_key.ensures.sorted (λ a r q k. search rules)
