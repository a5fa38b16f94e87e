-- The files of a selection, and the spans that its plan leaves out.
use Rattle.std.proofs.Common.{◌≡◌, ℕ, ◌<◌, Bool, true, false, ◌&&◌, cond, eqb, List, [], ◌∷◌, ◌++◌, map, filter, Some, refl, sym, ap, subst, ◌∙◌}
use Rattle.std.proofs.lemmas.Bool.{eq-eqb, eqb-true, both_ways, not_from_false}
use Rattle.std.proofs.lemmas.List.Elements.{filter-append}
use Rattle.std.specs.Prelude.{Contains, nat_abs, slice_get, ◌-◌}
use Rattle.std.specs.Int.{is_in_range}
use Rattle.std.specs.List.{AllZip}
use Rattle.std.specs.FinMap.{entries}
use Rattle.br_model.specs.Text.{is_empty}
use Rattle.br_model.specs.Name.{SessionKey, key_rank}
use Rattle.br_model.specs.Block.{Fragment}
use Rattle.br_model.specs.Volume.{Volume, LaidBlock}
use Rattle.br_model.specs.File.{Outcome}
use Rattle.br_model.specs.Meaning.{Hits}
use Rattle.br_model.specs.Restored.{HitList, Planned, Restored, fragments_for, outcome_of, under_name, files_planned, files_listed, files}
use Rattle.br_model.specs.Job.{FileRow, Span, JobRows, Job, IsJob}
use Rattle.br_model.specs.View.{Entry}
use Rattle.br_model.specs.Plan.{indexes_in, planned_entry, plan_names}
use Rattle.br_model.specs.PlanMeaning.{IsCopy, by_key}
use Rattle.br_model.specs.Stored.{file_fragments, AreInSpan, Holds}
use Rattle.br_model.proofs.CutLaws.{has_index}
use Rattle.br_model.proofs.FileLaws.{session_fragments, row_outcome}
use Rattle.br_model.proofs.GroupLaws.{has_part}
use Rattle.br_model.proofs.ListLaws.{all_weaker, contains_filter, contains_map, keeps_none, to_each, zip_images, not_empty}
use Rattle.br_model.proofs.OrderLaws.{all_in_order, in_order_again, in_order_has, in_order_map}
use mathlib.Core.List.{map-map}

-- ---- files of a selection

-- what the hits make of an entry's file, under the entry's path
abbrev pub restored_for : HitList → Entry → Restored
restored_for listed e = record {
  key = (planned_entry e).key;
  outcome = under_name e.path (outcome_of (planned_entry e).key (fragments_for (planned_entry e).key listed));
}

-- the files of the names of a selection are what the hits make of its entries, in order of key
pub planned_files : (hits : Hits) (selected : List Entry) → files hits (Some (plan_names selected)) ≡ map (restored_for (entries hits)) (by_key selected)
unfolding files files_listed files_planned plan_names
planned_files hits selected =
    ap (map restored_as) (in_order_again rank (map planned_entry selected) ∙ in_order_map rank planned_entry selected)
    ∙ map-map restored_as planned_entry (by_key selected)
  where
    rank : Planned → List ℕ
    rank p = key_rank p.key

    restored_as : Planned → Restored
    restored_as p = record { key = p.key; outcome = under_name p.path (outcome_of p.key (fragments_for p.key (entries hits))) }

-- if the hits make a copy of each entry, the files of a selection's names are the copies of its
-- entries, in order of key
pub files_are_copies : (jobs : List Job) (hits : Hits) (selected : List Entry)
    → ((e : Entry) → Contains selected e → IsCopy jobs e (restored_for (entries hits) e))
    → AllZip (IsCopy jobs) (by_key selected) (files hits (Some (plan_names selected)))
files_are_copies jobs hits selected copies =
    subst (λ (rs : List Restored). AllZip (IsCopy jobs) (by_key selected) rs) (sym (planned_files hits selected))
    (zip_images (IsCopy jobs) (restored_for (entries hits)) (by_key selected)
    (all_in_order (λ (e : Entry). key_rank (planned_entry e).key) (λ (e : Entry). IsCopy jobs e (restored_for (entries hits) e)) selected
    (to_each (λ (e : Entry). IsCopy jobs e (restored_for (entries hits) e)) selected copies)))

-- the entry is that of a saved file's row in one of the jobs
pub record IsEntryOf (jobs : List Job) (e : Entry) : Type 0 where
  pub job : Job
  pub row : FileRow
  pub among : Contains jobs job
  pub row_among : Contains job.rows.files row
  pub job_is : job.rows.row.id ≡ e.job
  pub session_is : e.session ≡ job.rows.row.session
  pub path_is : e.path ≡ row.path
  pub index_is : e.index ≡ row.index
  pub some : 0 < e.index

-- if volumes hold an entry's job, and the hits have the fragments of its index for its file, they
-- make a copy of it
pub entry_is_copied : (volumes : List Volume) (jobs : List Job) (e : Entry) (of : IsEntryOf jobs e) (holds : Holds volumes of.job) (listed : HitList) → IsJob of.job
    → fragments_for (planned_entry e).key listed ≡ filter (has_index e.index) (session_fragments of.job.rows.row.session holds.blocks)
    → IsCopy jobs e (restored_for listed e)
entry_is_copied volumes jobs e of holds listed is same =
    let j = of.job in
    let some : 0 < of.row.index = subst (λ (n : ℕ). 0 < n) of.index_is of.some in
    let made = row_outcome volumes j holds of.row is of.row_among some in
    let outcome_for : List ℕ → SessionKey → ℕ → Outcome = λ path key index.
    under_name path (outcome_of (record { session = key; index = index }) (filter (has_index index) (session_fragments j.rows.row.session holds.blocks))) in
    let fragments : (restored_for listed e).outcome ≡ outcome_for e.path e.session e.index = ap (λ (fs : List Fragment). under_name e.path (outcome_of (planned_entry e).key fs)) same in
    let names : outcome_for e.path e.session e.index ≡ outcome_for of.row.path j.rows.row.session of.row.index = λ i. outcome_for (of.path_is i) (of.session_is i) (of.index_is i) in
    record {
      job = j;
      file = made.0;
      item = made.3.item;
      among = of.among;
      job_is = of.job_is;
      file_is = ap (λ (n : ℕ). slice_get j.saved (n - 1)) of.index_is ∙ made.1;
      path_is = made.2 ∙ sym of.path_is;
      key_is = refl;
      outcome_is = fragments ∙ names ∙ made.3.outcome_is;
      saved_is = made.3.saved_is;
    }

-- what a selected entry needs, so that hits make a copy of it: its job is held, and for its file
-- the hits have the fragments of its index
pub record IsHitWhole (volumes : List Volume) (jobs : List Job) (listed : HitList) (e : Entry) : Type 0 where
  pub of : IsEntryOf jobs e
  pub is_job : IsJob of.job
  pub holds : Holds volumes of.job
  pub fragments_are : fragments_for (planned_entry e).key listed ≡ filter (has_index e.index) (session_fragments of.job.rows.row.session holds.blocks)

-- if each selected entry is hit whole, the files of the selection's names are the copies of its
-- entries, in order of key
pub files_of_selection : (volumes : List Volume) (jobs : List Job) (hits : Hits) (selected : List Entry)
    → ((e : Entry) → Contains selected e → IsHitWhole volumes jobs (entries hits) e)
    → AllZip (IsCopy jobs) (by_key selected) (files hits (Some (plan_names selected)))
files_of_selection volumes jobs hits selected whole =
    files_are_copies jobs hits selected (λ e among.
    let w = whole e among in
    entry_is_copied volumes jobs e w.of w.holds (entries hits) w.is_job w.fragments_are)

-- ---- spans that are left out

-- the blocks of the spans that are kept
abbrev pub kept_blocks : (Span → Bool) → List Span → List (List LaidBlock) → List (List LaidBlock)
kept_blocks keeps [] blocks = []
kept_blocks keeps (s ∷ ss) [] = []
kept_blocks keeps (s ∷ ss) (b ∷ bs) = cond (keeps s) (b ∷ kept_blocks keeps ss bs) (kept_blocks keeps ss bs)

-- what spans and their blocks have place by place, the kept ones have too
pub kept_zip : (R : Span → List LaidBlock → Type 0) (keeps : Span → Bool) (spans : List Span) (blocks : List (List LaidBlock)) → AllZip R spans blocks
    → AllZip R (filter keeps spans) (kept_blocks keeps spans blocks)
kept_zip R keeps [] [] h = tt
kept_zip R keeps [] (b ∷ bs) h = absurd h
kept_zip R keeps (s ∷ ss) [] h = absurd h
kept_zip R keeps (s ∷ ss) (b ∷ bs) h = go (keeps s) (kept_zip R keeps ss bs h.1)
  where
    go : (t : Bool) → AllZip R (filter keeps ss) (kept_blocks keeps ss bs)
        → AllZip R (cond t (s ∷ filter keeps ss) (filter keeps ss)) (cond t (b ∷ kept_blocks keeps ss bs) (kept_blocks keeps ss bs))
    go true rest = (h.0, rest)
    go false rest = rest

-- a span that does not say an index has no fragment of it
pub none_of_index : (key : SessionKey) (index : ℕ) (s : Span) (blocks : List LaidBlock) → AreInSpan key s blocks → is_in_range s.first s.last index ≡ false
    → filter (has_index index) (file_fragments key blocks) ≡ []
none_of_index key index s blocks inside outside =
    keeps_none (has_index index) (file_fragments key blocks)
    (all_weaker (λ (f : Fragment). is_in_range s.first s.last (nat_abs f.index) ≡ true) (λ (f : Fragment). has_index index f ≡ false)
    (λ f said. other f said (has_index index f) refl) (file_fragments key blocks) inside)
  where
    other : (f : Fragment) → is_in_range s.first s.last (nat_abs f.index) ≡ true → (b : Bool) → has_index index f ≡ b → has_index index f ≡ false
    other f said true e =
        absurd (both_ways (is_in_range s.first s.last index) outside (ap (is_in_range s.first s.last) (sym (eqb-true (nat_abs f.index) index e)) ∙ said))
    other f said false e = e

-- if each span that says an index is kept, the fragments of that index in all spans are those in
-- the kept ones
pub kept_have_all : (key : SessionKey) (index : ℕ) (keeps : Span → Bool) (spans : List Span) (blocks : List (List LaidBlock))
    → ((s : Span) → is_in_range s.first s.last index ≡ true → keeps s ≡ true) → AllZip (AreInSpan key) spans blocks
    → filter (has_index index) (session_fragments key blocks) ≡ filter (has_index index) (session_fragments key (kept_blocks keeps spans blocks))
kept_have_all key index keeps [] [] kept inside = refl
kept_have_all key index keeps [] (b ∷ bs) kept inside = absurd inside
kept_have_all key index keeps (s ∷ ss) [] kept inside = absurd inside
kept_have_all key index keeps (s ∷ ss) (b ∷ bs) kept inside =
    filter-append (has_index index) (file_fragments key b) (session_fragments key bs)
    ∙ ap (λ (fs : List Fragment). filter (has_index index) (file_fragments key b) ++ fs) (kept_have_all key index keeps ss bs kept inside.1)
    ∙ go (keeps s) refl (is_in_range s.first s.last index) refl
  where
    others : List (List LaidBlock)
    others = kept_blocks keeps ss bs

    go : (t : Bool) → keeps s ≡ t → (u : Bool) → is_in_range s.first s.last index ≡ u
        → filter (has_index index) (file_fragments key b) ++ filter (has_index index) (session_fragments key others)
        ≡ filter (has_index index) (session_fragments key (cond t (b ∷ others) others))
    go true is u e = sym (filter-append (has_index index) (file_fragments key b) (session_fragments key others))
    go false is true e = absurd (both_ways (keeps s) is (kept s e))
    go false is false e =
        ap (λ (fs : List Fragment). fs ++ filter (has_index index) (session_fragments key others)) (none_of_index key index s b inside.0 e)

-- a span that says the index of a selected entry of its job has that index among its selected ones
pub index_is_selected : (selected : List Entry) (j : JobRows) (e : Entry) (s : Span) → Contains selected e → e.job ≡ j.row.id → is_in_range s.first s.last e.index ≡ true
    → Contains (indexes_in selected j s) e.index
index_is_selected selected j e s among of_job said =
    let passes : (eqb e.job j.row.id && is_in_range s.first s.last e.index) ≡ true = rw (eq-eqb e.job j.row.id of_job, said) refl in
    let test : Entry → Bool = λ d. eqb d.job j.row.id && is_in_range s.first s.last d.index in
    let indexes = map (λ (d : Entry). d.index) (filter test selected) in
    in_order_has (λ (i : ℕ). i ∷ []) indexes e.index (to_each (λ (i : ℕ). e.index ∷ [] ≡ i ∷ [] → i ≡ e.index) indexes (λ i inside same. one e.index i same))
    (contains_map (λ (d : Entry). d.index) (filter test selected) e (contains_filter test selected e among passes))
  where
    one : (m n : ℕ) → m ∷ [] ≡ n ∷ [] → n ≡ m
    one m n h = cc

-- a span that says the index of a selected entry of its job has a group in the plan
pub span_is_planned : (selected : List Entry) (j : JobRows) (e : Entry) (s : Span) → Contains selected e → e.job ≡ j.row.id → is_in_range s.first s.last e.index ≡ true
    → has_part selected j s ≡ true
span_is_planned selected j e s among of_job said =
    not_from_false (is_empty (indexes_in selected j s)) (not_empty (indexes_in selected j s) e.index (index_is_selected selected j e s among of_job said))

-- the fragments of a selected entry's index in all spans of its job are those in the spans that the plan has groups for
pub planned_have_all : (volumes : List Volume) (j : Job) (holds : Holds volumes j) (selected : List Entry) (e : Entry) → Contains selected e → e.job ≡ j.rows.row.id
    → filter (has_index e.index) (session_fragments j.rows.row.session holds.blocks)
    ≡ filter (has_index e.index) (session_fragments j.rows.row.session (kept_blocks (has_part selected j.rows) j.rows.spans holds.blocks))
planned_have_all volumes j holds selected e among of_job =
    kept_have_all j.rows.row.session e.index (has_part selected j.rows) j.rows.spans holds.blocks
    (λ s said. span_is_planned selected j.rows e s among of_job said) holds.in_span
