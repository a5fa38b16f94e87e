-- The paths that a change means, and the marks after it.
use Rattle.std.proofs.Common.{◌≡◌, ℕ, Bool, List, length, filter, Some, None, Result}
use Rattle.br_model.specs.View.{Entry, view_paths}
use Rattle.br_model.specs.Console.{some_of}
use Rattle.br_tree.specs.Change.{is_chosen, chosen, flag_of, after_change, newly_changed}
use Rattle.br_tree.specs.Walk.{set_where, changes, IsRising}
use Rattle.br_tree.specs.declared.change.Change.{Change}
use Rattle.br_tree.specs.declared.change.Change.TheVariants.{Mark, Unmark}
use Rattle.br_tree.specs.declared.change.Meant.{Meant}
use Rattle.br_tree.specs.declared.change.Meant.TheVariants.{Names, Directories}
use Rattle.br_tree.proofs.MarkLaws.{seen, marks_after, marked_now, marks_left, unmarked_now}
use Rattle.br_tree.proofs.MeantLaws.{meant_is, meant_directories_is, meant_itself_is}

pub chosen_is : (paths : List (List ℕ)) (d : List ℕ) (meant : Meant) → chosen paths d meant ≡ some_of (filter (is_chosen meant d) paths)
chosen_is paths d (Names pattern) = meant_is paths d pattern.now
chosen_is paths d (Directories (Some pattern)) = meant_directories_is paths d pattern.now
chosen_is paths d (Directories None) = meant_itself_is paths d

module _ (change : Change) (test : List ℕ → Bool) (view : List Entry) (flags : List Bool) (rises : IsRising (view_paths view)) (long : length flags ≡ length (view_paths view)) (meant : Result (List (List ℕ)) ℕ) (is : meant ≡ some_of (filter test (view_paths view))) where
  pub marks_changed : seen view (set_where test (flag_of change) (view_paths view) flags) ≡ after_change change (seen view flags) meant
  marks_changed = go change
    where
      go : (change : Change) → seen view (set_where test (flag_of change) (view_paths view) flags) ≡ after_change change (seen view flags) meant
      go Mark = marks_after test view flags rises long meant is
      go Unmark = marks_left test view flags rises long meant is

  pub changed_now : changes test (flag_of change) (view_paths view) flags ≡ newly_changed change (seen view flags) meant
  changed_now = go change
    where
      go : (change : Change) → changes test (flag_of change) (view_paths view) flags ≡ newly_changed change (seen view flags) meant
      go Mark = marked_now test view flags rises long meant is
      go Unmark = unmarked_now test view flags rises long meant is
