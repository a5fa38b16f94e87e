use Rattle.std.proofs.Common.{rules, sym, ap, subst, ◌∙◌, ◌≡◌, ◌<◌, List, length}
use Rattle.std.proofs.lemmas.Fn.{always_returns_same}
use Rattle.std.specs.List.{HoldsAt}
use Rattle.std.specs.List.Sorted.{IsPartitionPoint, IsNonDecreasingBy}
use Rattle.std.specs.Ordering.{ordering_index}
use Rattle.std.specs.declared.cmp.Ordering.TheVariants.{Less, Equal, Greater}
use Rattle.br_model.specs.View.{entry_at}
use Rattle.br_view.proofs.FindLaws.{Pair, compares, searchable, found_at, not_found}
use Rattle.br_view.proofs.view.View.get.Goals as goal

pub returns-in-Ok : goal.returns-in-Ok
returns-in-Ok c =
    let path = c.args.path.now in
    let xs : List Pair = c.self.inside.entries.items in
    let lt : c.in-Ok.place < length xs = subst (λ (ps : List Pair). c.in-Ok.place < length ps) c.deref.ensures.value c.in-Ok.ensures.bound in
    let at : HoldsAt (λ p. compares path p ≡ Equal) xs c.in-Ok.place =
    subst (λ (ps : List Pair). HoldsAt (λ p. compares path p ≡ Equal) ps c.in-Ok.place) c.deref.ensures.value
    (c.in-Ok.ensures.position (compares path) (always_returns_same _ _ _ (λ a r q k. search rules))) in
    found_at xs path c.in-Ok.place c.index.result.now c.self.invariant lt c.index.ensures at ∙ ap (λ v. entry_at v path) c.self.view_is

pub returns-in-Err : goal.returns-in-Err
returns-in-Err c =
    let path = c.args.path.now in
    let xs : List Pair = c.self.inside.entries.items in
    let rises : IsNonDecreasingBy (λ p. ordering_index (compares path p)) c.deref.result.now =
    subst (λ (ps : List Pair). IsNonDecreasingBy (λ p. ordering_index (compares path p)) ps) (sym c.deref.ensures.value) (searchable xs path c.self.invariant) in
    let parts : IsPartitionPoint (λ p. compares path p ≡ Less) (λ p. compares path p ≡ Greater) xs c.in-Err.field-0 =
    subst (λ (ps : List Pair). IsPartitionPoint (λ p. compares path p ≡ Less) (λ p. compares path p ≡ Greater) ps c.in-Err.field-0) c.deref.ensures.value
    (c.in-Err.ensures.position (compares path) (always_returns_same _ _ _ (λ a r q k. search rules)) rises) in
    not_found xs path c.in-Err.field-0 parts ∙ ap (λ v. entry_at v path) c.self.view_is
