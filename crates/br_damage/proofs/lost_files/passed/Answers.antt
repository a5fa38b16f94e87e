use Rattle.std.proofs.Common.{List, true, ◌≡◌, ◌≤◌, ℕ, length, rules, tests, sym, subst, leb, arith, get_or}
use Rattle.std.proofs.lemmas.Bool.{leb-true}
use Rattle.std.proofs.lemmas.List.Sorted.{IsPartitionPoint-from_clause, IsPartitionedBy-leb}
use Rattle.std.specs.List.Sorted.{IsNonDecreasingBy}
use Rattle.br_damage.specs.LostFiles.{reaches_from}
use Rattle.br_damage.proofs.SpanLaws.{as_many, passed_have_none, reaches_rise}
use Rattle.br_damage.proofs.lost_files.passed.Goals as goal

pub returns-clause-bound : goal.returns-clause-bound
returns-clause-bound c =
    let spans = c.args.spans.now in
    let i = c.partition_point.result in
    subst (λ (m : ℕ). i ≤ m) (as_many 0 spans) (subst (λ (rs : List ℕ). i ≤ length rs) c.requires c.partition_point.ensures.bound)

pub returns-clause-none : goal.returns-clause-none
returns-clause-none c p le =
    let reaches = c.args.reaches.now in
    let spans = c.args.spans.now in
    let i = c.partition_point.result in
    let n = c.args.place in
    let rising : IsNonDecreasingBy (λ (r : ℕ). r) reaches = subst (IsNonDecreasingBy (λ (r : ℕ). r)) (sym c.requires) (reaches_rise 0 spans) in
    let at =
    IsPartitionPoint-from_clause (λ (r : ℕ). leb r n) reaches i c.partition_point.ensures.partitioned (IsPartitionedBy-leb (λ (r : ℕ). r) reaches n rising) (λ a r f k. search (rules, tests)) in
    let few : i ≤ length spans = subst (λ (m : ℕ). i ≤ m) (as_many 0 spans) (subst (λ (rs : List ℕ). i ≤ length rs) c.requires c.partition_point.ensures.bound) in
    passed_have_none p 0 spans i few
    (λ k d lt.
    let ends : get_or (reaches_from 0 spans) k d ≤ n =
    leb-true (get_or (reaches_from 0 spans) k d) n (subst (λ (rs : List ℕ). leb (get_or rs k d) n ≡ true) c.requires (at.0 k d (omega arith) lt)) in
    omega (arith, ends, le))
