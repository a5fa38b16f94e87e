-- The files of hits in order, run by run.
use Rattle.std.proofs.Common.{◌≡◌, ℕ, ◌<◌, length, Bool, true, false, List, [], ◌∷◌, ◌++◌, map, Some, Result, Ok, Err, IfOk, MatchResult, refl, sym, ap, subst, ◌∙◌, append_assoc}
use mathlib.Core.List.{map-map}
use Rattle.std.specs.Prelude.{slice_get, T}
use Rattle.std.specs.List.{AllByRecursion, AllZip}
use Rattle.std.specs.FinMap.{entries, entries_sorted}
use Rattle.std.specs.FinMap.Entries.{is_sorted}
use Rattle.std.specs.declared.cmp.Ordering.TheVariants.{Less}
use Rattle.br_model.specs.Name.{FileKey, key_rank, key_cmp}
use Rattle.br_model.specs.Block.{Fragment}
use Rattle.br_model.specs.Meaning.{Hit}
use Rattle.br_model.specs.Restored.{HitList, Names, Planned, Restored, planned_in, fragments_for, outcome_of, under_name, files_found, files_planned}
use Rattle.br_model.proofs.OrderLaws.{rank_cmp, sorted_rises, rising_stays}
use Rattle.br_model.proofs.PairLaws.{EachPair, pairs_map, pairs_weaker}
use Rattle.br_records.specs.Records.{fragments}
use Rattle.br_records.specs.Runs.{listed}
use Rattle.br_records.proofs.FilesLaws as each
use Rattle.br_records.proofs.SortLaws.{key_cmp_is}
use Rattle.br_join.specs.declared.item.Outcome.{Outcome}
use Rattle.br_join.specs.Outcome.{restored}
use Rattle.br_join.specs.Runs.{IsPart, Run, file_of}

-- ---- the files that were found

-- the file that its fragments make
abbrev pub file_found : FileKey → List Fragment → Restored
file_found key fs = record { key = key; outcome = outcome_of key fs }

-- What hits in order make, by the run of the file of the first of them: this file, then those of
-- fewer hits.
pub found_turn : (all before run behind : List Hit) (first : Hit) (key : FileKey) → slice_get all 0 ≡ Some first → first.key ≡ key → before ++ (run ++ behind) ≡ all
    → AllByRecursion (λ (h : Hit). key_cmp h.key key ≡ Less) before → AllByRecursion (λ (h : Hit). h.key ≡ key) run → AllByRecursion (λ (h : Hit). key_cmp key h.key ≡ Less) behind
    → (files_found (listed all) ≡ file_found key (fragments run) ∷ files_found (listed behind)) × (length behind < length all)
unfolding files_found
found_turn = each.found_turn file_found

-- no hits make no files
pub none_found : files_found (listed []) ≡ []
unfolding files_found
none_found = each.none_found file_found

-- these hits are the last ones
abbrev pub AreBehind : List Hit → List Hit → Type 0
AreBehind all rest = (front : List Hit) × (front ++ rest ≡ all)

-- the hits of a file among the last ones are among all
pub part_behind : (all rest before after : List Hit) (r : Run) → AreBehind all rest → before ++ (r.hits ++ after) ≡ rest → IsPart all r
part_behind all rest before after r behind joined = record {
  before = behind.0 ++ before;
  after = after;
  joined = append_assoc behind.0 before (r.hits ++ after) ∙ ap (λ (hs : List Hit). behind.0 ++ hs) joined ∙ behind.1;
}

-- the hits after them are the last ones
pub behind_more : (all rest before run after : List Hit) → AreBehind all rest → before ++ (run ++ after) ≡ rest → AreBehind all after
behind_more all rest before run after behind joined = (
  behind.0 ++ (before ++ run),
  append_assoc behind.0 (before ++ run) after ∙ ap (λ (hs : List Hit). behind.0 ++ hs) (append_assoc before run after ∙ joined) ∙ behind.1,
)

-- ---- the planned files

-- a planned file of hits
abbrev pub planned_of : HitList → FileKey × List ℕ → Restored
planned_of es e = record { key = e.0; outcome = under_name e.1 (outcome_of e.0 (fragments_for e.0 es)) }

holds : (b : Bool) → T b → b ≡ true
holds true t = refl
holds false t = absurd t

-- the planned files in order of key
pub planned_files_are : (es : HitList) (names : Names) → files_planned es (planned_in names) ≡ map (planned_of es) (entries names)
unfolding files_planned planned_in
planned_files_are es names =
    ap (map (λ (p : Planned). record { key = p.key; outcome = under_name p.path (outcome_of p.key (fragments_for p.key es)) }))
    (rising_stays (λ (p : Planned). key_rank p.key) (map (λ (e : FileKey × List ℕ). record { key = e.0; path = e.1 }) (entries names)) rises)
    ∙ map-map (λ (p : Planned). record { key = p.key; outcome = under_name p.path (outcome_of p.key (fragments_for p.key es)) }) (λ (e : FileKey × List ℕ). record { key = e.0; path = e.1 }) (entries names)
  where
    rises : EachPair (λ (p q : Planned). rank_cmp (key_rank p.key) (key_rank q.key) ≡ Less) (map (λ (e : FileKey × List ℕ). record { key = e.0; path = e.1 }) (entries names))
    rises =
        pairs_map (λ (p q : Planned). rank_cmp (key_rank p.key) (key_rank q.key) ≡ Less) (λ (e : FileKey × List ℕ). record { key = e.0; path = e.1 }) (entries names)
        (pairs_weaker (λ (d e : FileKey × List ℕ). key_cmp d.0 e.0 ≡ Less) (λ (d e : FileKey × List ℕ). rank_cmp (key_rank d.0) (key_rank e.0) ≡ Less)
        (λ d e h. sym (key_cmp_is d.0 e.0) ∙ h) (entries names) (sorted_rises key_cmp (entries names) (holds (is_sorted key_cmp (entries names)) (entries_sorted names))))

-- ---- files that were made of runs

-- if a file was made of each run, they are the files of the runs
all_made : (E : Type 0) (runs : List Run) (files : List (FileKey × Outcome))
    → AllZip (λ (run : Run) (made : Result (FileKey × Outcome) E). IfOk made (λ f. restored f ≡ file_of run)) runs (map Ok files) → map restored files ≡ map file_of runs
all_made E [] [] h = refl
all_made E [] (f ∷ fs) h = absurd h
all_made E (r ∷ rs) [] h = absurd h
all_made E (r ∷ rs) (f ∷ fs) h = λ i. h.0 i ∷ all_made E rs fs h.1 i

-- what came of making a file of each run
pub answer_made : (V E : Type 0) (items : V → List (FileKey × Outcome)) (runs : List Run) (made : List (Result (FileKey × Outcome) E)) (r : Result V E) (Q : E → Type 0)
    → AllZip (λ (run : Run) (made : Result (FileKey × Outcome) E). IfOk made (λ f. restored f ≡ file_of run)) runs made
    → MatchResult r (λ v. (files : List (FileKey × Outcome)) × (made ≡ map Ok files) × (items v ≡ files)) Q → IfOk r (λ v. map restored (items v) ≡ map file_of runs)
answer_made V E items runs made (Err e) Q each from = tt
answer_made V E items runs made (Ok v) Q each from =
    let were_made : AllZip (λ (run : Run) (m : Result (FileKey × Outcome) E). IfOk m (λ f. restored f ≡ file_of run)) runs (map Ok from.0) =
    subst (AllZip (λ (run : Run) (m : Result (FileKey × Outcome) E). IfOk m (λ f. restored f ≡ file_of run)) runs) from.1 each in
    ap (map restored) from.2 ∙ all_made E runs from.0 were_made
