use Rattle.std.proofs.Common.{List, true, ◌≡◌, ◌≤◌, ℕ, length, map, rules, tests, sym, subst, ap, ◌∙◌, ltb, arith, get_or}
use Rattle.std.proofs.lemmas.Bool.{ltb-true}
use Rattle.std.proofs.lemmas.List.{length-map, drop-map}
use Rattle.std.proofs.lemmas.List.Sorted.{IsPartitionPoint-from_clause, IsPartitionedBy-ltb}
use Rattle.std.specs.List.Sorted.{IsNonDecreasingBy}
use Rattle.br_cli_target.specs.FirstAsking.{first_asked, reaches_from, shown}
use Rattle.br_cli_target.proofs.AskingLaws.{as_many, ended_are_passed, reaches_rise}
use Rattle.br_cli_target.proofs.first_asking.ended.Goals as goal

pub returns-clause-bound : goal.returns-clause-bound
returns-clause-bound c =
    let asked = map shown c.args.asked.now in
    let i = c.partition_point.result in
    subst (λ (m : ℕ). i ≤ m) (as_many 0 asked ∙ length-map c.args.asked.now shown) (subst (λ (rs : List ℕ). i ≤ length rs) c.requires c.partition_point.ensures.bound)

pub returns-clause-before : goal.returns-clause-before
returns-clause-before c =
    let reaches = c.args.reaches.now in
    let asked = map shown c.args.asked.now in
    let i = c.partition_point.result in
    let n = c.args.index in
    let rising : IsNonDecreasingBy (λ (r : ℕ). r) reaches = subst (IsNonDecreasingBy (λ (r : ℕ). r)) (sym c.requires) (reaches_rise 0 asked) in
    let at =
    IsPartitionPoint-from_clause (λ (r : ℕ). ltb r n) reaches i c.partition_point.ensures.partitioned (IsPartitionedBy-ltb (λ (r : ℕ). r) reaches n rising) (λ a r f k. search (rules, tests)) in
    let few : i ≤ length asked = subst (λ (m : ℕ). i ≤ m) (as_many 0 asked) (subst (λ (rs : List ℕ). i ≤ length rs) c.requires c.partition_point.ensures.bound) in
    ended_are_passed n 0 asked i few (λ k d lt. ltb-true (get_or (reaches_from 0 asked) k d) n (subst (λ (rs : List ℕ). ltb (get_or rs k d) n ≡ true) c.requires (at.0 k d (omega arith) lt)))
    ∙ ap (first_asked n) (drop-map shown i c.args.asked.now)
