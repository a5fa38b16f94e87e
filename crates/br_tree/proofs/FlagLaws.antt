-- The flagged ones of some paths that rise.
use Rattle.std.proofs.Common.{◌≡◌, ℕ, Bool, true, false, List, [], ◌∷◌, refl, subst}
use Rattle.std.proofs.lemmas.List.Elements.{All-from_recursion}
use Rattle.std.proofs.lemmas.Slice.Eq.{bytes_eq-Decides}
use Rattle.std.specs.Prelude.{bytes_eq}
use Rattle.std.specs.List.{AllByRecursion}
use Rattle.std.specs.declared.cmp.Ordering.TheVariants.{Less}
use Rattle.br_model.specs.Order.{is_among}
use Rattle.br_model.specs.View.{Entry, view_paths, IsView}
use Rattle.br_model.proofs.ListLaws.{to_each, some_passes}
use Rattle.br_model.proofs.OrderLaws.{rank_cmp, in_order_rises, rising_stays}
use Rattle.br_model.proofs.PairLaws.{EachPair, pairs_map}
use Rattle.br_tree.specs.Marking.{IsMarking}
use Rattle.br_tree.specs.Seen.{flagged}

-- the first path is below the second
abbrev pub Below : List ℕ → List ℕ → Type 0
Below p q = rank_cmp p q ≡ Less

-- each path is below all after it
abbrev pub Rises : List (List ℕ) → Type 0
Rises paths = EachPair Below paths

-- the paths of a view rise
pub view_rises : (view : List Entry) → IsView view → Rises (view_paths view)
view_rises view is =
    pairs_map Below (λ (e : Entry). e.path) view (subst (EachPair (λ (d e : Entry). Below d.path e.path)) is (in_order_rises (λ (e : Entry). e.path) view))

-- what holds of all paths holds of the flagged ones
pub all_flagged : (P : List ℕ → Type 0) (paths : List (List ℕ)) (flags : List Bool) → AllByRecursion P paths → AllByRecursion P (flagged paths flags)
all_flagged P [] flags h = tt
all_flagged P (p ∷ ps) [] h = tt
all_flagged P (p ∷ ps) (true ∷ fs) h = (h.0, all_flagged P ps fs h.1)
all_flagged P (p ∷ ps) (false ∷ fs) h = all_flagged P ps fs h.1

-- the flagged ones rise with the paths
pub flagged_rise : (paths : List (List ℕ)) (flags : List Bool) → Rises paths → Rises (flagged paths flags)
flagged_rise [] flags h = tt
flagged_rise (p ∷ ps) [] h = tt
flagged_rise (p ∷ ps) (true ∷ fs) h = (all_flagged (Below p) ps fs h.0, flagged_rise ps fs h.1)
flagged_rise (p ∷ ps) (false ∷ fs) h = flagged_rise ps fs h.1

-- flagged paths of a view are marks
pub flagged_are_marks : (view : List Entry) (flags : List Bool) → IsView view → IsMarking (record { view = view; marked = flagged (view_paths view) flags })
flagged_are_marks view flags is = record {
  view_is = is;
  marks_are = record {
    ordered = rising_stays (λ p. p) (flagged (view_paths view) flags) (flagged_rise (view_paths view) flags (view_rises view is));
    in_view =
        All-from_recursion In (flagged (view_paths view) flags)
        (all_flagged In (view_paths view) flags
        (to_each In (view_paths view) (λ path inside. some_passes (bytes_eq path) (view_paths view) path inside ((bytes_eq-Decides path path).1 refl))));
  };
}
  where
    In : List ℕ → Type 0
    In path = is_among (view_paths view) path ≡ true
