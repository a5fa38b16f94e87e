-- The files of a job that volumes hold, and the files of hits that are its fragments.
use Rattle.std.proofs.Common.{◌≡◌, ℕ, suc, ◌+◌, ◌-◌, ◌<◌, Bool, true, false, not, eqb, List, [], ◌∷◌, map, filter, ltb, Some, Result, Ok, refl, sym, ap, subst, ◌∙◌, inl, inr, arith}
use Rattle.std.proofs.lemmas.Bool.{eqb-true, eq-eqb, lt-ltb}
use Rattle.std.proofs.lemmas.Slice.Eq.{bytes_eq-Decides}
use Rattle.std.specs.Prelude.{Contains, slice_get, flat_map}
use Rattle.std.specs.List.{AllByRecursion, enumerate_from}
use Rattle.br_model.specs.Answer.{◌>>=◌, refused_as, refuse_if}
use Rattle.br_model.specs.Name.{SessionKey, FileKey}
use Rattle.br_model.specs.Attribute.{Stat}
use Rattle.br_model.specs.Block.{Fragment}
use Rattle.br_model.specs.Volume.{Volume, LaidBlock}
use Rattle.br_model.specs.Record.{Record, IsCut}
use Rattle.br_model.specs.File.{Item, Outcome, fault, content}
use Rattle.br_model.specs.Restored.{outcome_of, under_name}
use Rattle.br_model.specs.Job.{FileRow, SavedFile, Job, IsJob, same_file, no_pair, row_says, save_says, saved_rows}
use Rattle.br_model.specs.PlanMeaning.{saved_as}
use Rattle.br_model.specs.Stored.{file_fragments, MakesFile, Holds}
use Rattle.br_model.proofs.CutLaws.{has_index, joined_of_index}
use Rattle.br_model.proofs.ListLaws.{at_place, contains_filter, first_or_later, none_in, of_each, to_each, all_filter}
use Rattle.br_model.proofs.OrderLaws.{in_order_has}
use Rattle.br_model.proofs.PairLaws.{one_of_two}
-- ---- saved files
use Rattle.br_model.proofs.GroupLaws.{rows_say}

-- the fragments of a session's files in the blocks of spans, one span after the other
abbrev pub session_fragments : SessionKey → List (List LaidBlock) → List Fragment
session_fragments key blocks = flat_map (file_fragments key) blocks

-- the key of a job's file
abbrev pub file_key : Job → ℕ → FileKey
file_key j index = record { session = j.rows.row.session; index = index }

-- the outcome is a file that was saved so
pub record IsSavedAs (outcome : Outcome) (file : SavedFile) : Type 0 where
  pub item : Item
  pub outcome_is : outcome ≡ Ok item
  pub saved_is : saved_as item ≡ file

-- the fragments of a file in a cut, whose records make a saved file, have that file as their outcome
pub made_outcome : (key : FileKey) (records : List Record) (fs : List Fragment) (file : SavedFile) → IsCut records fs → MakesFile records (key.index, file)
    → IsSavedAs (outcome_of key (filter (has_index key.index) fs)) file
unfolding outcome_of
made_outcome key records fs file cut makes = record {
  item = makes.0;
  outcome_is = ap (λ (r : Result (List Record) ℕ). refused_as fault r >>= λ rs. content key.index rs) (joined_of_index key.index records fs cut) ∙ makes.1;
  saved_is = sym makes.2;
}

-- if volumes hold a job, the fragments of a saved file's index have that file as their outcome
pub saved_outcome : (volumes : List Volume) (j : Job) (holds : Holds volumes j) (index : ℕ) (file : SavedFile) → 0 < index → slice_get j.saved (index - 1) ≡ Some file
    → IsSavedAs (outcome_of (file_key j index) (filter (has_index index) (session_fragments j.rows.row.session holds.blocks))) file
saved_outcome volumes j holds index file some at =
    let number : 1 + (index - 1) ≡ index = omega arith in
    let makes : MakesFile holds.records (index, file) =
    subst (λ (i : ℕ). MakesFile holds.records (i, file)) number (at_place (MakesFile holds.records) 1 j.saved (index - 1) file holds.files at) in
    made_outcome (file_key j index) holds.records (session_fragments j.rows.row.session holds.blocks) file holds.cut makes

-- ---- rows of saved files

-- two rows with one index above 0 are rows of one file
same_index : (f g : FileRow) → 0 < f.index → f.index ≡ g.index → same_file f g ≡ true
same_index f g some e =
    let nonzero : eqb f.index 0 ≡ false = not_equal (eqb f.index 0) refl in
    let same : eqb f.index g.index ≡ true = eq-eqb f.index g.index e in
    rw (nonzero, same) refl
  where
    not_equal : (b : Bool) → eqb f.index 0 ≡ b → eqb f.index 0 ≡ false
    not_equal true is = absurd (omega (arith, eqb-true f.index 0 is, some))
    not_equal false is = is

-- of consistent rows only one has an index above 0
pub row_is_alone : (rows : List FileRow) (r : FileRow) → no_pair same_file rows ≡ true → 0 < r.index → Contains rows r → AllByRecursion (λ (f : FileRow). r.index ≡ f.index → f ≡ r) rows
row_is_alone rows r apart some among =
    to_each (λ (f : FileRow). r.index ≡ f.index → f ≡ r) rows (λ f inside same.
    one_of_two same_file rows f r apart inside among (same_index f r (subst (λ (n : ℕ). 0 < n) same some) (sym same)) (same_index r f some same))

-- of rows that say what saved files say each is of one of these
said_file : (n : ℕ) (rows : List FileRow) (saved : List SavedFile) (r : FileRow) → map row_says rows ≡ map save_says (enumerate_from n saved) → Contains rows r
    → (k : ℕ) × (file : SavedFile) × (slice_get saved k ≡ Some file) × (row_says r ≡ save_says (n + k, file))
said_file n [] saved r say among = absurd (none_in r among)
said_file n (x ∷ xs) [] r say among = absurd cc
said_file n (x ∷ xs) (f ∷ fs) r say among =
    elim (first_or_later x xs r among) [
      | inl e ↦
          let head : row_says x ≡ save_says (n, f) = cc in
          let number : n ≡ n + 0 = omega arith in
          (0, f, refl, sym (ap row_says e) ∙ head ∙ ap (λ (m : ℕ). save_says (m, f)) number)
      | inr inside ↦
          let tail : map row_says xs ≡ map save_says (enumerate_from (n + 1) fs) = cc in
          let more = said_file (n + 1) xs fs r tail inside in
          let number : (n + 1) + more.0 ≡ n + suc more.0 = omega arith in
          (suc more.0, more.1, more.2, more.3 ∙ ap (λ (m : ℕ). save_says (m, more.1)) number)
    ]

-- of consistent rows no two are of one file
pub rows_apart : (j : Job) → IsJob j → no_pair same_file j.rows.files ≡ true
rows_apart j is = (rows_say j.rows is.fit).files_apart

-- the saved file of a row with an index above 0: it is at the index, and has the row's path
pub row_is_saved : (j : Job) (r : FileRow) → IsJob j → Contains j.rows.files r → 0 < r.index
    → (file : SavedFile) × (slice_get j.saved (r.index - 1) ≡ Some file) × (file.path ≡ r.path)
row_is_saved j r is among some =
    let rows = filter (λ (f : FileRow). ltb 0 f.index) j.rows.files in
    let alone = all_filter (λ (f : FileRow). r.index ≡ f.index → f ≡ r) (λ (f : FileRow). ltb 0 f.index) j.rows.files (row_is_alone j.rows.files r (rows_apart j is) some among) in
    let alone_in_rank : AllByRecursion (λ (f : FileRow). r.index ∷ [] ≡ f.index ∷ [] → f ≡ r) rows =
    to_each (λ (f : FileRow). r.index ∷ [] ≡ f.index ∷ [] → f ≡ r) rows (λ f inside e. of_each (λ (g : FileRow). r.index ≡ g.index → g ≡ r) rows f alone inside (one_number r.index f.index e)) in
    let there : Contains (saved_rows j.rows.files) r =
    in_order_has (λ (f : FileRow). f.index ∷ []) rows r alone_in_rank (contains_filter (λ (f : FileRow). ltb 0 f.index) j.rows.files r among (lt-ltb 0 r.index some)) in
    let said = said_file 1 (saved_rows j.rows.files) j.saved r is.say there in
    let index_is : r.index ≡ 1 + said.0 = ap (λ (t : ℕ × List ℕ × Result Stat ℕ). t.0) said.3 in
    let place : said.0 ≡ r.index - 1 = omega arith in
    (said.1, ap (slice_get j.saved) (sym place) ∙ said.2, sym (ap (λ (t : ℕ × List ℕ × Result Stat ℕ). t.1) said.3))
  where
    one_number : (m n : ℕ) → m ∷ [] ≡ n ∷ [] → m ≡ n
    one_number m n e = cc

-- an outcome under its own path stays as it is
pub named_outcome : (path : List ℕ) (item : Item) (outcome : Outcome) → outcome ≡ Ok item → item.path ≡ path → under_name path outcome ≡ Ok item
unfolding under_name
named_outcome path item outcome is same =
    ap (under_name path) is ∙ ap given ((bytes_eq-Decides item.path path).1 same)
  where
    given : Bool → Outcome
    given b = refuse_if (not b) (fault 69) >>= λ _. Ok item

-- if volumes hold a job, the fragments of a row's index have the row's saved file as their outcome
-- under the row's path
pub row_outcome : (volumes : List Volume) (j : Job) (holds : Holds volumes j) (r : FileRow) → IsJob j → Contains j.rows.files r → 0 < r.index
    → (file : SavedFile) × (slice_get j.saved (r.index - 1) ≡ Some file) × (file.path ≡ r.path)
    × IsSavedAs (under_name r.path (outcome_of (file_key j r.index) (filter (has_index r.index) (session_fragments j.rows.row.session holds.blocks)))) file
row_outcome volumes j holds r is among some =
    let row = row_is_saved j r is among some in
    let made = saved_outcome volumes j holds r.index row.0 some row.1 in
    let path_is : made.item.path ≡ r.path = ap (λ (f : SavedFile). f.path) made.saved_is ∙ row.2 in (
      row.0,
      row.1,
      row.2,
      record {
        item = made.item;
        outcome_is = named_outcome r.path made.item (outcome_of (file_key j r.index) (filter (has_index r.index) (session_fragments j.rows.row.session holds.blocks))) made.outcome_is path_is;
        saved_is = made.saved_is;
      },
    )
