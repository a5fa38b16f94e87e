-- What a map keeps of copies that are noted one after another.
use Rattle.std.proofs.Common.{◌≡◌, ℕ, ◌+◌, ◌<◌, ◌≤◌, Bool, true, false, ◌&&◌, cond, List, [], ◌∷◌, ◌++◌, take, length, get_or, map, Option, Some, refl, sym, ap, ◌∙◌}
use Rattle.std.proofs.lemmas.List.{take_more, take_all, map-append}
use Rattle.std.proofs.lemmas.List.Sums.{fold-append}
use Rattle.std.proofs.lemmas.Map.Text.{btree_map_updates_str}
use Rattle.std.proofs.lemmas.Slice.Eq.{bytes_eq-Decides}
use Rattle.std.specs.Prelude.{bytes_eq, option_map}
use Rattle.std.specs.Borrow.{Bor}
use Rattle.std.specs.Ordering.{nat_cmp}
use Rattle.std.specs.Cmp.Lexicographic.{slice_cmp}
use Rattle.std.specs.BTreeMap.{BTreeMap, get_by, UpdatesBy}
use Rattle.br_model.specs.Job.{FileRow, JobRows}
use Rattle.br_view.specs.Newest.{Copy, Kept, is_news, kept, job_copies, newest, copy_of, copy_at, Adds}

-- what a map with paths as keys has under a path
abbrev pub kept_at : List ℕ → BTreeMap (Bor (List ℕ)) Kept → Option Kept
kept_at path m = get_by (λ k. slice_cmp nat_cmp path k.now) m

-- a copy that is newer than what is kept takes its place
pub noted : (old new : BTreeMap (Bor (List ℕ)) Kept) (job : Bor JobRows) (row : Bor FileRow) (on : List ℕ) (known : Option Kept) → on ≡ row.now.path → known ≡ kept_at on old
    → is_news (option_map copy_of known) (job.now, row.now) ≡ true → UpdatesBy (λ x y. slice_cmp nat_cmp x.now y.now) (λ k. slice_cmp nat_cmp on k.now) old new (Some (job, row))
    → (path : List ℕ) → copy_at path new ≡ kept path (copy_at path old) (job.now, row.now)
noted old new job row on known at looked news puts path =
    ap (option_map copy_of) (btree_map_updates_str on old new (Some (job, row)) puts path)
    ∙ ap (λ (q : List ℕ). option_map copy_of (cond (bytes_eq q path) (Some (job, row)) (kept_at path old))) at
    ∙ go (bytes_eq row.now.path path) refl
  where
    go : (b : Bool) → bytes_eq row.now.path path ≡ b → option_map copy_of (cond b (Some (job, row)) (kept_at path old))
        ≡ cond (b && is_news (copy_at path old) (job.now, row.now)) (Some (job.now, row.now)) (copy_at path old)
    go false is = refl
    go true is =
        let same : on ≡ path = at ∙ (bytes_eq-Decides row.now.path path).0 is in
        let is_new : is_news (copy_at path old) (job.now, row.now) ≡ true = ap (λ (q : List ℕ). is_news (copy_at q old) (job.now, row.now)) (sym same) ∙ ap (λ o. is_news (option_map copy_of o) (job.now, row.now)) (sym looked) ∙ news in
        sym (ap (λ b. cond b (Some (job.now, row.now)) (copy_at path old)) is_new)

-- one row more of a job
pub row_more : (start old new : BTreeMap (Bor (List ℕ)) Kept) (j : JobRows) (files : List FileRow) (i : ℕ) (f : FileRow) → i < length files → f ≡ get_or files i f
    → Adds start (map (λ (g : FileRow). (j, g)) (take i files)) old → Adds old ((j, f) ∷ []) new → Adds start (map (λ (g : FileRow). (j, g)) (take (i + 1) files)) new
row_more start old new j files i f lt is before adds path =
    let beside : FileRow → Copy = λ g. (j, g) in
    adds path ∙ ap (λ o. kept path o (j, f)) (before path)
    ∙ sym (fold-append (kept path) (copy_at path start) (map beside (take i files)) ((j, f) ∷ []))
    ∙ ap (newest path (copy_at path start)) (sym (map-append beside (take i files) (f ∷ [])) ∙ ap (map beside) (sym (take_more files i f lt ∙ ap (λ g. take i files ++ g ∷ []) (sym is))))

-- all rows of a job
pub rows_all : (start new : BTreeMap (Bor (List ℕ)) Kept) (j : JobRows) (files : List FileRow) (i : ℕ) → files ≡ j.files → length files ≤ i
    → Adds start (map (λ (g : FileRow). (j, g)) (take i files)) new → Adds start (job_copies j) new
rows_all start new j files i are le before path =
    before path ∙ ap (λ (fs : List FileRow). newest path (copy_at path start) (map (λ (g : FileRow). (j, g)) fs)) (take_all i files le ∙ are)
