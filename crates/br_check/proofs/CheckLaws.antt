-- A whole check: the search, then the labels, then the lines.
use Rattle.std.proofs.Common.{◌≡◌, ℕ, List, [], Option, subst, ap, ◌++◌, ◌∙◌, flat_map}
use Rattle.br_model.specs.Bootstrap.{Group}
use Rattle.br_model.specs.Meaning.{Piece, pieces_of}
use Rattle.br_check.specs.Calls.{InTurn}
use Rattle.br_check.specs.Check.{ChecksOver, IsChecked}
use Rattle.br_check.specs.Label.{LabelsOver, TellsVolume}
use Rattle.br_check.specs.Search.{IsSearched, Searched}
use Rattle.br_check.specs.Shown.{Moment}
use Rattle.br_check.specs.declared.run.Checked.{Checked}

pub checked_over : (first second last : Moment) (groups : List Group) (counts : List (Option ℕ)) (budget : ℕ) (ps qs : List Piece) (results : List Searched) (before text : List ℕ) (checked : Checked)
    → ps ≡ pieces_of groups → qs ≡ pieces_of groups → before ≡ [] → InTurn IsSearched first second ps results
    → LabelsOver (record { earlier = second; later = last }) qs before text → IsChecked groups counts budget results text checked
    → ChecksOver (record { earlier = first; later = last }) groups counts budget checked
checked_over first second last groups counts budget ps qs results before text checked ps_are qs_are none searched told done = (
  second,
  results,
  told.0,
  subst (λ (xs : List Piece). InTurn IsSearched first second xs results) ps_are searched,
  subst (λ (xs : List Piece). InTurn TellsVolume second last xs told.0) qs_are told.1,
  subst (λ (xs : List ℕ). IsChecked groups counts budget results xs checked) (told.2 ∙ ap (λ (xs : List ℕ). xs ++ flat_map (λ line. line) told.0) none) done,
)
