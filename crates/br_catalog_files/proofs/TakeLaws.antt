-- Which rows of File can be taken.
use Rattle.std.proofs.Common.{◌≡◌, ℕ, pos, ◌<◌, ◌^◌, Bool, true, false, cond, not, ◌&&◌, ◌||◌, ◌==◌, List, [], ◌∷◌, ◌++◌, filter, map, is_ok, Ok, inl, refl, sym, ap, ap₂, subst, ◌∙◌, eq-eqb}
use Rattle.std.specs.List.{list_all, list_any}
use Rattle.std.specs.Str.{is_utf8}
use Rattle.std.specs.BTreeMap.{BTreeMap}
use Rattle.std.proofs.lemmas.Bool.{and_parts, ltb-true}
use Rattle.sqlite.specs.declared.types.Value.TheVariants.{Blob, Int, Text}
use Rattle.sqlite.specs.Order.{Row, column}
use Rattle.sqlite_rules.specs.Lists.{Has}
use Rattle.sqlite_rules.proofs.ListLemmas.{all_has, has_right, some_from, test_has}
use Rattle.br_model.specs.Attribute.{read_stat}
use Rattle.br_model.specs.Job.{FileRow, JobRow, is_file_row, no_pair, same_file}
use Rattle.br_model.specs.Name.{is_path}
use Rattle.br_model.proofs.AnswerLaws.{ok_is}
use Rattle.br_catalog_rows.specs.Decode.{digest, read_file}
use Rattle.br_catalog_rows.specs.Load.{is_of, read_all}
use Rattle.br_store.specs.Held.{file_cells, name_at}
use Rattle.br_catalog_files.specs.OldFiles.{IsOldFile, IsWholeFile, shown_row}
use Rattle.br_catalog_files.specs.Refusals.{CanGive, CanTake, CanTakeAll, IsFileLinked, IsTypedFile}
use Rattle.br_catalog_files.specs.SeenIndexes.{has_index, has_job, is_index}
use Rattle.br_catalog_files.specs.WholeMigration.{AreWhole}
use Rattle.br_catalog_files.specs.declared.old_files.OldFile.{OldFile}
use Rattle.br_catalog_files.specs.declared.old_names.NameTable.{NameTable}
use Rattle.br_catalog_files.specs.declared.seen_indexes.Indexes.{Indexes}
use Rattle.br_catalog_files.proofs.FormLaws.{FileParts, file_parts, has_map, job_of, of_id, read_around, small_parts}
use Rattle.br_catalog_files.proofs.TakenLaws.{shown_is}

-- ---- one row of many

filter_around : (p : Row → Bool) (f : Row → Row) (done left : List Row) (row : Row) → p (f row) ≡ true → filter p (map f (done ++ row ∷ left)) ≡ filter p (map f done) ++ f row ∷ filter p (map f left)
filter_around p f [] left row is = rw is refl
filter_around p f (d ∷ done) left row is = go (p (f d)) (filter_around p f done left row is)
  where
    go : (b : Bool) → filter p (map f (done ++ row ∷ left)) ≡ filter p (map f done) ++ f row ∷ filter p (map f left)
        → cond b (f d ∷ filter p (map f (done ++ row ∷ left))) (filter p (map f (done ++ row ∷ left))) ≡ cond b (f d ∷ filter p (map f done)) (filter p (map f done)) ++ f row ∷ filter p (map f left)
    go true e = ap (λ (l : List Row). f d ∷ l) e
    go false e = e

-- a file has the index of none before it
fresh_around : (fs bs : List FileRow) (x : FileRow) → no_pair same_file (fs ++ x ∷ bs) ≡ true → list_any (λ (f : FileRow). is_index f.index x.index) fs ≡ false
unfolding no_pair
fresh_around [] bs x h = refl
fresh_around (f ∷ fs) bs x h =
    let both = and_parts (not (list_any (same_file f) (fs ++ x ∷ bs))) (no_pair same_file (fs ++ x ∷ bs)) h in
    rw (one (same_file f x) refl both.0, fresh_around fs bs x both.1) refl
  where
    one : (b : Bool) → same_file f x ≡ b → not (list_any (same_file f) (fs ++ x ∷ bs)) ≡ true → same_file f x ≡ false
    one false e none = e
    one true e none = absurd (let bad = sym (ap not (some_from (same_file f) (fs ++ x ∷ bs) x (has_right fs (x ∷ bs) x (inl refl)) e)) ∙ none in cc)

and_false : (b : Bool) → (b && false) ≡ false
and_false true = refl
and_false false = refl

module _ (jobs : List JobRow) (paths names : NameTable) (seen : BTreeMap ℕ Indexes) (rows done left : List Row) (row : Row) (all : CanTakeAll jobs paths names rows) where
  -- the row after those that were taken can be taken
  pub can_take : done ++ row ∷ left ≡ rows → AreWhole jobs seen (map (shown_row all.ps all.ns) done) → CanTake paths names seen row
  can_take is w =
      let shown = shown_row all.ps all.ns in
      let s = shown row in
      let has : Has rows row = subst (λ (r : List Row). Has r row) is (has_right done (row ∷ left) row (inl refl)) in
      let of = job_of jobs (map shown rows) s all.belong (has_map shown rows row has) in
      let id = of.0.id in
      let known : list_any (λ (j : JobRow). j.id == id) jobs ≡ true = some_from (λ (j : JobRow). j.id == id) jobs of.0 of.1 (eq-eqb id id refl) in
      let group = all.files id known in
      let front = filter (is_of id) (map shown done) in
      let back = filter (is_of id) (map shown left) in
      let cut : filter (is_of id) (map shown rows) ≡ front ++ s ∷ back = ap (λ (r : List Row). filter (is_of id) (map shown r)) (sym is) ∙ filter_around (is_of id) shown done left row of.2 in
      let around = read_around read_file front back s group.files (ap (read_all read_file) (sym cut) ∙ group.read) in
      let before = w.files id in
      let same : around.0 ≡ before.files = ok_is {E = ℕ} around.0 before.files (sym around.3 ∙ before.read) in
      let x = around.1 in
      let unseen : list_any (λ (f : FileRow). is_index f.index x.index) around.0 ≡ false = fresh_around around.0 around.2 x (ap (no_pair same_file) (sym around.5) ∙ group.apart) in
      let new : has_index seen id x.index ≡ false = before.indexes x.index ∙ ap (list_any (λ (f : FileRow). is_index f.index x.index)) (sym same) ∙ unseen in
      record {
        ps = all.ps;
        ns = all.ns;
        paths_are = all.paths_are;
        names_are = all.names_are;
        paths_sorted = all.paths_sorted;
        names_sorted = all.names_sorted;
        linked = all_has IsFileLinked rows row all.linked has;
        job = id;
        job_is = of_id id s of.2;
        file = x;
        read = around.4;
        valid = test_has is_file_row (around.0 ++ x ∷ around.2) x (ap (list_all is_file_row) (sym around.5) ∙ group.valid) (has_right around.0 (x ∷ around.2) x (inl refl));
        known = w.known id ∙ known;
        fresh = ap (λ (b : Bool). not (x.index == 0) && b) new ∙ and_false (not (x.index == 0));
      }

-- ---- what a row that can be taken has

module _ (paths names : NameTable) (seen : BTreeMap ℕ Indexes) (row : Row) (t : CanTake paths names seen row) where
  pub shows : FileParts (shown_row t.ps t.ns row) t.file
  shows = file_parts (shown_row t.ps t.ns row) t.file t.read

  pub typed_of : IsTypedFile row
  typed_of =
      let job = small_parts (column row 3) t.job t.job_is in
      record {
        linked = t.linked;
        index = t.file.index;
        job = t.job;
        lstat = t.file.lstat;
        digest = shows.digits;
        index_low = shows.low;
        job_low = job.1;
        index_is = shows.index_is;
        job_is = job.0;
        lstat_is = shows.lstat_is;
        digest_is = shows.digits_are;
      }

  module _ (file : OldFile) (is : IsOldFile file row) where
    pub gives_front : CanGive paths (Int file.numbers.path) shows.front
    gives_front = record {
      rows = t.ps;
      are = t.paths_are;
      sorted = t.paths_sorted;
      named = sym (ap (λ (l : Row). name_at t.ps (column l 3)) is.numbers) ∙ shows.front_is;
    }

    pub gives_rest : CanGive names (Int file.numbers.name) shows.rest
    gives_rest = record {
      rows = t.ns;
      are = t.names_are;
      sorted = t.names_sorted;
      named = sym (ap (λ (l : Row). name_at t.ns (column l 4)) is.numbers) ∙ shows.rest_is;
    }

    same_index : t.file.index ≡ file.numbers.index
    same_index = let both : Int (pos t.file.index) ≡ Int (pos file.numbers.index) = sym shows.index_is ∙ ap (λ (l : Row). column l 1) is.numbers in cc

    same_job : t.job ≡ file.numbers.job
    same_job = let both : Int (pos t.job) ≡ Int (pos file.numbers.job) = sym (small_parts (column row 3) t.job t.job_is).0 ∙ ap (λ (l : Row). column l 2) is.numbers in cc

    pub is_whole : (front rest : List ℕ) → Blob front ≡ name_at t.ps (Int file.numbers.path) → Blob rest ≡ name_at t.ns (Int file.numbers.name) → IsWholeFile file front rest
    is_whole front rest path name = (t.file, subst (λ (s : Row). read_file s ≡ Ok t.file) (shown_is t.ps t.ns row file front rest is path name) t.read, t.valid, same_index)

    pub is_known : has_job seen file.numbers.job ≡ true
    is_known = ap (has_job seen) (sym same_job) ∙ t.known

    pub is_fresh : (not (file.numbers.index == 0) && has_index seen file.numbers.job file.numbers.index) ≡ false
    is_fresh = rw (sym same_job, sym same_index) t.fresh

-- ---- a file that a history can have

pub record CheckedFile (file : OldFile) (front rest : List ℕ) : Type 0 where
  pub path : is_path (front ++ rest) ≡ true
  pub low : file.numbers.index < 2 ^ 31
  pub numbers : (file.numbers.index == 0 || is_ok (read_stat file.lstat.now)) ≡ true
  pub characters_are : is_utf8 file.lstat.now ≡ true
  pub digest_is : is_ok (digest file.digest.now) ≡ true

pub checked_file : (file : OldFile) (front rest : List ℕ) → IsWholeFile file front rest → CheckedFile file front rest
checked_file file front rest whole =
    let f = whole.0 in
    let s = file_cells file.numbers.job file.numbers.index front rest file.lstat.now file.digest.now in
    let p = file_parts s f whole.1 in
    let first : Blob front ≡ Blob p.front = p.front_is in
    let last : Blob rest ≡ Blob p.rest = p.rest_is in
    let stat : Text file.lstat.now ≡ Text f.lstat = p.lstat_is in
    let sum : Text file.digest.now ≡ Text p.digits = p.digits_are in
    let front_is : p.front ≡ front = cc in
    let rest_is : p.rest ≡ rest = cc in
    let stat_is : f.lstat ≡ file.lstat.now = cc in
    let sum_is : p.digits ≡ file.digest.now = cc in
    let valid = and_parts _ _ whole.2 in
    record {
      path = ap₂ (λ (a b : List ℕ). is_path (a ++ b)) (sym front_is) (sym rest_is) ∙ p.path;
      low = subst (λ (n : ℕ). n < 2 ^ 31) whole.3 (ltb-true f.index (2 ^ 31) valid.0);
      numbers = ap₂ (λ (n : ℕ) (l : List ℕ). n == 0 || is_ok (read_stat l)) (sym whole.3) (sym stat_is) ∙ valid.1;
      characters_are = ap is_utf8 (sym stat_is) ∙ p.characters_are;
      digest_is = ap (λ (d : List ℕ). is_ok (digest d)) (sym sum_is) ∙ p.digest_is;
    }
