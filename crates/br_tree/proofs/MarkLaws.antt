-- Marks after a change.
use Rattle.std.proofs.Common.{◌≡◌, ℕ, Bool, true, false, cond, List, [], ◌∷◌, length, filter, Some, None, Result, Ok, Err, refl, sym, ap, ◌∙◌, arith}
use Rattle.std.specs.List.{list_any}
use Rattle.std.proofs.lemmas.List.Sums.{sum_by-cons}
use Rattle.br_tree.specs.Sums.{set_in}
use Rattle.br_model.specs.View.{Entry, view_paths}
use Rattle.br_model.specs.Console.{some_of}
use Rattle.br_tree.specs.Marking.{Marking, after_mark, newly_marked, after_unmark, newly_unmarked}
use Rattle.br_tree.specs.Seen.{flagged}
use Rattle.br_tree.specs.Walk.{set_where, changed, changes, IsRising}
use Rattle.br_tree.proofs.RunLaws.{to_pairs}
use Rattle.br_tree.proofs.SetLaws.{set_marks, takes_marks, set_counts, taken_counts}
use Rattle.br_tree.proofs.StepLaws.{some_is, none_set, none_from_any}

-- a view and flags
abbrev pub seen : List Entry → List Bool → Marking
seen view flags = record { view = view; marked = flagged (view_paths view) flags }

module _ (test : List ℕ → Bool) (view : List Entry) (flags : List Bool) (rises : IsRising (view_paths view)) (long : length flags ≡ length (view_paths view)) (meant : Result (List (List ℕ)) ℕ) (is : meant ≡ some_of (filter test (view_paths view))) where
  picked : meant ≡ cond (list_any test (view_paths view)) (Ok (filter test (view_paths view))) (Err 57)
  picked = is ∙ some_is (view_paths view) test

  pub marks_after : seen view (set_where test true (view_paths view) flags) ≡ after_mark (seen view flags) meant
  marks_after = go (list_any test (view_paths view)) refl ∙ sym (ap (after_mark (seen view flags)) picked)
    where
      go : (b : Bool) → list_any test (view_paths view) ≡ b → seen view (set_where test true (view_paths view) flags) ≡ after_mark (seen view flags) (cond (list_any test (view_paths view)) (Ok (filter test (view_paths view))) (Err 57))
      go true e =
          ap (λ (zs : List (List ℕ)). let m : Marking = record { view = view; marked = zs } in m) (set_marks test (view_paths view) flags (to_pairs (view_paths view) rises) long)
          ∙ sym (ap (λ b. after_mark (seen view flags) (cond b (Ok (filter test (view_paths view))) (Err 57))) e)
      go false e =
          ap (seen view) (none_set test true (view_paths view) flags (none_from_any test (view_paths view) e))
          ∙ sym (ap (λ b. after_mark (seen view flags) (cond b (Ok (filter test (view_paths view))) (Err 57))) e)

  pub marked_now : changes test true (view_paths view) flags ≡ newly_marked (seen view flags) meant
  marked_now = go (list_any test (view_paths view)) ∙ sym (ap (newly_marked (seen view flags)) picked)
    where
      go : (b : Bool) → cond b (Some (changed test true (view_paths view) flags)) None ≡ newly_marked (seen view flags) (cond b (Ok (filter test (view_paths view))) (Err 57))
      go true = ap (λ (n : ℕ). Some n) (set_counts test (view_paths view) flags (to_pairs (view_paths view) rises) long)
      go false = refl

  pub marks_left : seen view (set_where test false (view_paths view) flags) ≡ after_unmark (seen view flags) meant
  marks_left = go (list_any test (view_paths view)) refl ∙ sym (ap (after_unmark (seen view flags)) picked)
    where
      go : (b : Bool) → list_any test (view_paths view) ≡ b → seen view (set_where test false (view_paths view) flags) ≡ after_unmark (seen view flags) (cond (list_any test (view_paths view)) (Ok (filter test (view_paths view))) (Err 57))
      go true e =
          ap (λ (zs : List (List ℕ)). let m : Marking = record { view = view; marked = zs } in m) (takes_marks test (view_paths view) flags)
          ∙ sym (ap (λ b. after_unmark (seen view flags) (cond b (Ok (filter test (view_paths view))) (Err 57))) e)
      go false e =
          ap (seen view) (none_set test false (view_paths view) flags (none_from_any test (view_paths view) e))
          ∙ sym (ap (λ b. after_unmark (seen view flags) (cond b (Ok (filter test (view_paths view))) (Err 57))) e)

  pub unmarked_now : changes test false (view_paths view) flags ≡ newly_unmarked (seen view flags) meant
  unmarked_now = go (list_any test (view_paths view)) ∙ sym (ap (newly_unmarked (seen view flags)) picked)
    where
      go : (b : Bool) → cond b (Some (changed test false (view_paths view) flags)) None ≡ newly_unmarked (seen view flags) (cond b (Ok (filter test (view_paths view))) (Err 57))
      go true = ap (λ (n : ℕ). Some n) (taken_counts test (view_paths view) flags (to_pairs (view_paths view) rises) long)
      go false = refl

-- there is a mark for each flag that is set
pub marks_counted : (ps : List (List ℕ)) (flags : List Bool) → length flags ≡ length ps → length (flagged ps flags) ≡ set_in flags
marks_counted [] [] long = refl
marks_counted [] (flag ∷ flags) long = absurd (omega (arith, long))
marks_counted (p ∷ ps) [] long = absurd (omega (arith, long))
marks_counted (p ∷ ps) (true ∷ flags) long = omega (arith, sum_by-cons (λ f. cond f 1 0) true flags, marks_counted ps flags (omega (arith, long)))
marks_counted (p ∷ ps) (false ∷ flags) long = omega (arith, sum_by-cons (λ f. cond f 1 0) false flags, marks_counted ps flags (omega (arith, long)))
