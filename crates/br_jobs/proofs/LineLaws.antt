-- Lines of jobs, one after the other, and the numbers of the chosen ones.
use Rattle.std.proofs.Common.{◌≡◌, ℕ, ◌+◌, ◌<◌, ◌||◌, eqb, length, get_or, take, Bool, true, false, cond, List, [], ◌∷◌, ◌++◌, filter, flat_map, sym, ap, subst, ◌∙◌, append-nil}
use Rattle.std.specs.Borrow.{Bor}
use Rattle.std.specs.List.{AllZip}
use Rattle.std.specs.Ordering.{nat_cmp}
use Rattle.std.specs.BTreeSet.{BTreeSet, contains}
use Rattle.std.specs.List.{list_any}
use Rattle.std.proofs.lemmas.List.{take_more}
use Rattle.std.proofs.lemmas.List.Folds.{list_any_more}
use Rattle.std.proofs.lemmas.List.Elements.{filter-append}
use Rattle.std.proofs.lemmas.Grind.{flat_map-append}
use Rattle.br_model.specs.Job.{JobRows}
use Rattle.br_jobs.specs.JobNumbers.{AddsNumber, AreNumbers}
use Rattle.br_jobs.specs.ListingLine.{is_chosen}
use Rattle.br_jobs.specs.LocalTime.{AppendsLineIn, AreLinesIn, IsLineIn}
use Rattle.br_jobs.specs.declared.time_zones.Zones.{Zones}

abbrev IsLineOf : Zones → List (Bor JobRows) → JobRows → List ℕ → Type 0
IsLineOf zones chosen j line = IsLineIn zones (is_chosen chosen j) j line

zip_more : (zones : Zones) (chosen : List (Bor JobRows)) (jobs : List JobRows) (lines : List (List ℕ)) (j : JobRows) (line : List ℕ) → IsLineOf zones chosen j line
    → AllZip (IsLineOf zones chosen) jobs lines → AllZip (IsLineOf zones chosen) (jobs ++ j ∷ []) (lines ++ line ∷ [])
zip_more zones chosen [] [] j line is all = (is, tt)
zip_more zones chosen [] (l ∷ ls) j line is all = absurd all
zip_more zones chosen (k ∷ ks) [] j line is all = absurd all
zip_more zones chosen (k ∷ ks) (l ∷ ls) j line is all = (all.0, zip_more zones chosen ks ls j line is all.1)

-- a job more that is listed, or is not
one_more : (zones : Zones) (chosen : List (Bor JobRows)) (jobs : List JobRows) (j : JobRows) (before after : List ℕ) (b : Bool) → AreLinesIn zones chosen jobs before
    → AppendsLineIn zones b (is_chosen chosen j) j before after → AreLinesIn zones chosen (jobs ++ cond b (j ∷ []) []) after
one_more zones chosen jobs j before after true are more =
    let lines = are.0 in
    let line = more.0 in (
      lines ++ line ∷ [],
      zip_more zones chosen jobs lines j line more.1 are.1,
      more.2 ∙ ap (λ (text : List ℕ). text ++ line) are.2 ∙ ap (λ (text : List ℕ). flat_map (λ (l : List ℕ). l) lines ++ text) (sym (append-nil line))
          ∙ sym (flat_map-append (λ (l : List ℕ). l) lines (line ∷ [])),
    )
one_more zones chosen jobs j before after false are more =
    subst (λ (js : List JobRows). AreLinesIn zones chosen js after) (sym (append-nil jobs)) (subst (AreLinesIn zones chosen jobs) (sym more) are)

-- the lines of the listed jobs, one job more
pub lines_more : (zones : Zones) (chosen : List (Bor JobRows)) (p : JobRows → Bool) (jobs : List JobRows) (i : ℕ) (j : JobRows) (before after : List ℕ) → i < length jobs → j ≡ get_or jobs i j
    → AreLinesIn zones chosen (filter p (take i jobs)) before → AppendsLineIn zones (p j) (is_chosen chosen j) j before after → AreLinesIn zones chosen (filter p (take (i + 1) jobs)) after
lines_more zones chosen p jobs i j before after inside is are more =
    let next : take (i + 1) jobs ≡ take i jobs ++ j ∷ [] = take_more jobs i j inside ∙ ap (λ (k : JobRows). take i jobs ++ k ∷ []) (sym is) in
    subst (λ (js : List JobRows). AreLinesIn zones chosen js after) (sym (ap (filter p) next ∙ filter-append p (take i jobs) (j ∷ [])))
    (one_more zones chosen (filter p (take i jobs)) j before after (p j) are more)

-- the numbers of jobs, one job more
pub numbers_more : (old new : BTreeSet ℕ) (jobs : List (Bor JobRows)) (i n : ℕ) (j : Bor JobRows) → i < length jobs → j ≡ get_or jobs i j → n ≡ j.now.row.id
    → AreNumbers (take i jobs) old → AddsNumber old n new → AreNumbers (take (i + 1) jobs) new
numbers_more old new jobs i n j lt is number before adds q =
    let test : Bor JobRows → Bool = λ k. eqb k.now.row.id q in
    adds q ∙ ap (λ b. b || eqb n q) (before q) ∙ ap (λ m. list_any test (take i jobs) || eqb m q) number
    ∙ ap (λ (k : Bor JobRows). list_any test (take i jobs) || test k) is ∙ sym (list_any_more test jobs i j lt)
