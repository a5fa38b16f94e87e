-- Hits that are held: those that were taken, and those that are on their way.
use Rattle.std.proofs.Common.{◌≡◌, ◌⊎◌, ℕ, List, [], ◌∷◌, ◌++◌, Some, refl, sym, subst, inl, inr}
use Rattle.std.proofs.lemmas.List.Elements.{Contains-append_left, Contains-append_right}
use Rattle.std.specs.Prelude.{Contains, slice_get}
use Rattle.br_model.specs.Meaning.{Hit, Hits, HasHit, AreAmong, with_hits}
use Rattle.br_model.proofs.ListLaws.{first_in}
use Rattle.br_join.proofs.TakingLaws.{is_taken, stays_taken}
use Rattle.br_core.proofs.PlaceLaws.{there_or_left, without}

-- ---- held hits

-- the hit was taken, or is in a batch on its way
abbrev pub IsHeld : List (List Hit) → Hits → Hit → Type 0
IsHeld transit taken h = HasHit taken h ⊎ ((batch : List Hit) × Contains transit batch × Contains batch h)

-- a held hit stays so while another batch comes on its way
pub held_with_batch : (transit : List (List Hit)) (taken : Hits) (batch : List Hit) (h : Hit) → IsHeld transit taken h → IsHeld (transit ++ batch ∷ []) taken h
held_with_batch transit taken batch h (inl has) = inl has
held_with_batch transit taken batch h (inr it) = inr (it.0, Contains-append_left transit (batch ∷ []) it.0 it.1, it.2)

-- the hits of a new batch are held
pub batch_is_held : (transit : List (List Hit)) (taken : Hits) (batch : List Hit) (h : Hit) → Contains batch h → IsHeld (transit ++ batch ∷ []) taken h
batch_is_held transit taken batch h inside = inr (batch, Contains-append_right transit (batch ∷ []) batch (first_in batch [] batch refl), inside)

-- a held hit stays so if a batch is taken
pub held_where_taken : (set taken : Hits) (transit : List (List Hit)) (place : ℕ) (batch : List Hit) (h : Hit) → AreAmong taken set
    → ((g : Hit) → Contains batch g → HasHit set g) → slice_get transit place ≡ Some batch → IsHeld transit taken h → IsHeld (without place transit) (with_hits taken batch) h
held_where_taken set taken transit place batch h among each at (inl has) = inl (stays_taken taken batch h has)
held_where_taken set taken transit place batch h among each at (inr it) =
    elim (there_or_left transit place batch it.0 at it.1) [
      | inl same ↦ inl (is_taken set taken batch h among each (subst (λ (b : List Hit). Contains b h) (sym same) it.2))
      | inr left ↦ inr (it.0, left, it.2)
    ]
