-- A row with the next number comes last.
use Rattle.std.proofs.Common.{◌≡◌, inl, inr, ℤ, pos, ◌+ℤ◌, List, [], ◌∷◌, ◌++◌, fold, map, IsTrue, Less, int_cmp, refl, sym, ap, subst, ◌∙◌, arith}
use Rattle.std.proofs.lemmas.Int.{ints}
use Rattle.std.proofs.lemmas.Bool.Decides.{nat_tests}
use Rattle.std.specs.List.{AllByRecursion}
use Rattle.sqlite.specs.declared.types.Value.{Value}
use Rattle.sqlite.specs.declared.types.Value.TheVariants.{Int}
use Rattle.sqlite.specs.Order.{Row, value_cmp}
use Rattle.sqlite.specs.Edit.{id_in, next_rowid}
use Rattle.sqlite.specs.Tree.{Trees, rowid, put_row}
use Rattle.sqlite.specs.View.{IsShaped, is_int}
use Rattle.sqlite_trees.specs.declared.store.Shape.TheVariants.{Table}
use Rattle.sqlite_value.proofs.OrderLemmas.{value_cmp-Int, value_cmp_total}
use Rattle.sqlite.specs.Effect.{Database}
use Rattle.sqlite.specs.State.{HasCleanDisk, State, Survives}
use Rattle.br_model.specs.Job.{JobRows}
use Rattle.br_catalog_rows.specs.Inserted.{Adds}
use Rattle.br_store.specs.Calls.{HasAdded}
use Rattle.br_store.specs.Held.{HasTables, rows_in}
use Rattle.sqlite.proofs.StateLemmas.{survives_then}
use Rattle.sqlite_rules.specs.Lists.{Has}

pub map-append : {X Y : Type 0} (f : X → Y) (xs ys : List X) → map f (xs ++ ys) ≡ map f xs ++ map f ys
map-append f [] ys = refl
map-append f (x ∷ xs) ys = ap (λ l. f x ∷ l) (map-append f xs ys)

pub all_push : {X : Type 0} (P : X → Type 0) (xs : List X) (x : X) → AllByRecursion P xs → P x → AllByRecursion P (xs ++ x ∷ [])
all_push P [] x all p = (p, tt)
all_push P (y ∷ xs) x all p = (all.0, all_push P xs x all.1 p)

pub put_last : (new : Row) (rows : List Row) → ((r : Row) → Has rows r → value_cmp (rowid r) (rowid new) ≡ Less) → put_row new rows ≡ rows ++ new ∷ []
put_last new [] below = refl
put_last new (r ∷ rows) below = rw (below r (inl refl)) (ap (λ x. r ∷ x) (put_last new rows (λ y h. below y (inr h))))

next_above : (n : ℤ) → int_cmp n (n +ℤ pos 1) ≡ Less
next_above n = grind (arith, ints, nat_tests)

above : (v : Value) → IsTrue (is_int v) → value_cmp v (Int (id_in v +ℤ pos 1)) ≡ Less
above (Int n) h = value_cmp-Int n (n +ℤ pos 1) ∙ next_above n
above v h = absurd cc

all_below : (x : Row) (rows : List Row) → IsShaped Table (x ∷ rows) → (r : Row) → Has (x ∷ rows) r → value_cmp (rowid r) (Int (fold (λ _ y. id_in (rowid y) +ℤ pos 1) (id_in (rowid x) +ℤ pos 1) rows)) ≡ Less
all_below x [] h r (inl same) = subst (λ y. value_cmp (rowid y) (Int (id_in (rowid x) +ℤ pos 1)) ≡ Less) (sym same) (above (rowid x) h.1.0)
all_below x [] h r (inr none) = absurd none
all_below x (y ∷ rows) h r (inr more) = all_below y rows (h.0.1, h.1.1) r more
all_below x (y ∷ rows) h r (inl same) =
    subst (λ z. value_cmp (rowid z) (Int (fold (λ _ y. id_in (rowid y) +ℤ pos 1) (id_in (rowid y) +ℤ pos 1) rows)) ≡ Less) (sym same)
    (value_cmp_total.trans (rowid x) (rowid y) _ h.0.0.0 (all_below y rows (h.0.1, h.1.1) y (inl refl)))

pub put_next : (rest : Row) (rows : List Row) → IsShaped Table rows → put_row (Int (next_rowid rows) ∷ rest) rows ≡ rows ++ (Int (next_rowid rows) ∷ rest) ∷ []
put_next rest [] h = refl
put_next rest (x ∷ rows) h = put_last (Int (next_rowid (x ∷ rows)) ∷ rest) (x ∷ rows) (all_below x rows h)

pub survives_itself : (s : State) (P : Trees → Type 0) → Survives s s P
survives_itself s P = record {
  clean = omega arith;
  shield = λ h. h;
  counts = omega arith;
  limit = refl;
  closes = λ clean up. inl up;
  crash = λ clean db may. inl may;
}

pub survives_both : (a b c : State) → Survives a b (λ _. ⊥) → Survives b c (λ _. ⊥) → Survives a c (λ _. ⊥)
survives_both a b c = survives_then a b c _ _ (λ _. ⊥) (λ _ db none. none) (λ _ db none. none)

-- a commit after calls that committed nothing
pub commits_added : (job : JobRows) (before : Database) (a b c : State) → Survives a b (λ _. ⊥) → Survives b c (λ db. db ≡ b.now.trees)
    → (HasCleanDisk b → HasTables b.now × Adds job (rows_in before.trees) (rows_in b.now.trees)) → Survives a c (HasAdded job before)
commits_added job before a b c one two added =
    survives_then a b c (λ _. ⊥) (λ db. db ≡ b.now.trees) (HasAdded job before) (λ clean db none. absurd none) (λ clean db now.
    let it = added (omega (arith, clean, two.clean)) in
    (b.now, it.0, it.1, now)) one two
