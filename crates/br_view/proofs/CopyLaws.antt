-- The newest of the copies of a path is the row that the model takes.
use Rattle.std.proofs.Common.{◌≡◌, ℕ, Bool, true, false, not, ◌&&◌, cond, eqb, leb, ltb, List, [], ◌∷◌, ◌++◌, filter, Option, Some, None, refl, sym, ap, subst, ◌∙◌, append_assoc, append-nil, arith}
use Rattle.std.proofs.lemmas.Bool.{both_ways, and_parts, and_from, eqb-true, eqb-false, eq-eqb, ltb-true, le-leb}
use Rattle.std.proofs.lemmas.List.Elements.{Contains-append_left, Contains-append_right}
use Rattle.std.proofs.lemmas.List.Sorted.{ranks_by}
use Rattle.std.proofs.lemmas.Slice.Eq.{bytes_eq-Decides}
use Rattle.std.specs.Prelude.{Contains, slice_index, option_and_then}
use Rattle.std.specs.List.{AllByRecursion, list_any}
use Rattle.std.specs.Int.{is_in_range}
use Rattle.std.specs.Cmp.{IsStrictWeakOrder, tied_itself, nat_cmp_total}
use Rattle.std.specs.Cmp.Lexicographic.{nat_list_cmp_total}
use Rattle.std.specs.Ordering.{nat_cmp, is_lt, ordering_then}
use Rattle.std.specs.declared.cmp.Ordering.{Ordering}
use Rattle.std.specs.declared.cmp.Ordering.TheVariants.{Less, Equal, Greater}
use Rattle.br_model.specs.Job.{FileRow, JobRows, are_rows, is_file_row, no_pair, same_file}
use Rattle.br_model.specs.Choice.{job_rank, is_after, last_job}
use Rattle.br_model.specs.View.{Entry, is_row_of, newest_job, newest_row, entry_from, unless_deleted, entry_of}
use Rattle.br_model.proofs.EntryLaws.{entry_is_of_row}
use Rattle.br_model.proofs.GroupLaws.{rows_say}
use Rattle.br_model.proofs.ListLaws.{first_in, of_each, to_each, all_weaker, all_append, all_pass, some_passes, from_some, contains_flat_map, contains_map, contains_filter, kept_passes, from_joined, from_image}
use Rattle.br_model.proofs.OrderLaws.{rank_cmp}
use Rattle.br_model.proofs.PairLaws.{one_of_two}
use Rattle.br_choose.proofs.ChoiceLaws.{one_number}
use Rattle.br_choose.proofs.InOrderLaws.{never_itself, last_like}
use Rattle.br_view.specs.Newest.{Copy, copy_rank, is_newer, is_news, kept, job_copies, copies, newest}
use Rattle.br_view.specs.Shown.{shown}

-- ---- the newest of some copies

newer_order : IsStrictWeakOrder is_newer
newer_order = ranks_by nat_list_cmp_total copy_rank

-- one of the copies of the path, than which none is newer; none if the path has no copy
abbrev pub Found : List ℕ → List Copy → Option Copy → Type 0
Found path cs None = AllByRecursion (λ c. is_row_of path c.1 ≡ false) cs
Found path cs (Some d) = Contains cs d × (is_row_of path d.1 ≡ true) × AllByRecursion (λ c. is_row_of path c.1 ≡ true → is_newer d c ≡ false) cs

-- one copy more
found_more : (path : List ℕ) (cs : List Copy) (o : Option Copy) (c : Copy) → Found path cs o → Found path (cs ++ c ∷ []) (kept path o c)
found_more path cs o c found = row (is_row_of path c.1) refl
  where
    other : (o : Option Copy) → is_row_of path c.1 ≡ false → Found path cs o → Found path (cs ++ c ∷ []) o
    other None is h = all_append (λ d. is_row_of path d.1 ≡ false) cs (c ∷ []) h (is, tt)
    other (Some d) is h = (
      Contains-append_left cs (c ∷ []) d h.0,
      h.1,
      all_append (λ e. is_row_of path e.1 ≡ true → is_newer d e ≡ false) cs (c ∷ []) h.2 (λ t. absurd (both_ways (is_row_of path c.1) is t), tt),
    )

    here : Contains (cs ++ c ∷ []) c
    here = Contains-append_right cs (c ∷ []) c (first_in c [] c refl)

    newest_of : (o : Option Copy) → is_row_of path c.1 ≡ true → Found path cs o → (b : Bool) → is_news o c ≡ b → Found path (cs ++ c ∷ []) (cond b (Some c) o)
    newest_of None is h true news = (
      here,
      is,
      all_append (λ e. is_row_of path e.1 ≡ true → is_newer c e ≡ false) cs (c ∷ []) (all_weaker (λ e. is_row_of path e.1 ≡ false) (λ e. is_row_of path e.1 ≡ true → is_newer c e ≡ false) (λ e f t. absurd (both_ways (is_row_of path e.1) f t)) cs h) (λ t. never_itself is_newer newer_order c, tt),
    )
    newest_of None is h false news = absurd cc
    newest_of (Some d) is h true news = (
      here,
      is,
      all_append (λ e. is_row_of path e.1 ≡ true → is_newer c e ≡ false) cs (c ∷ []) (all_weaker (λ e. is_row_of path e.1 ≡ true → is_newer d e ≡ false) (λ e. is_row_of path e.1 ≡ true → is_newer c e ≡ false) (λ e f t. newer_order.chain c d e (newer_order.one_way d c news) (f t)) cs h.2) (λ t. never_itself is_newer newer_order c, tt),
    )
    newest_of (Some d) is h false news = (
      Contains-append_left cs (c ∷ []) d h.0,
      h.1,
      all_append (λ e. is_row_of path e.1 ≡ true → is_newer d e ≡ false) cs (c ∷ []) h.2 (λ t. news, tt),
    )

    row : (b : Bool) → is_row_of path c.1 ≡ b → Found path (cs ++ c ∷ []) (cond (b && is_news o c) (Some c) o)
    row false is = other o is found
    row true is = newest_of o is found (is_news o c) refl

found_among : (path : List ℕ) (before cs : List Copy) (o : Option Copy) → Found path before o → Found path (before ++ cs) (newest path o cs)
found_among path before [] o found = subst (λ ds. Found path ds o) (sym (append-nil before)) found
found_among path before (c ∷ cs) o found =
    subst (λ ds. Found path ds (newest path (kept path o c) cs)) (append_assoc before (c ∷ []) cs)
    (found_among path (before ++ c ∷ []) cs (kept path o c) (found_more path before o c found))

-- the newest of some copies is found among them
pub newest_is_found : (path : List ℕ) (cs : List Copy) → Found path cs (newest path None cs)
newest_is_found path cs = found_among path [] cs None tt

-- ---- copies of jobs

-- a row of a job is a copy
pub copy_in : (jobs : List JobRows) (j : JobRows) (f : FileRow) → Contains jobs j → Contains j.files f → Contains (copies jobs) (j, f)
copy_in jobs j f among inside = contains_flat_map job_copies jobs j (j, f) among (contains_map (λ (g : FileRow). (j, g)) j.files f inside)

-- a path of which no job has a copy has no entry
no_entry : (jobs : List JobRows) (path : List ℕ) → Found path (copies jobs) None → None ≡ entry_of jobs path
no_entry jobs path none = go (entry_of jobs path) refl
  where
    go : (o : Option Entry) → entry_of jobs path ≡ o → None ≡ entry_of jobs path
    go None is = sym is
    go (Some e) is =
        let r = entry_is_of_row jobs path e is in
        absurd (both_ways (is_row_of path r.0.row)
        (of_each (λ (c : Copy). is_row_of path c.1 ≡ false) (copies jobs) (r.0.job, r.0.row) none (copy_in jobs r.0.job r.0.row r.0.among r.0.row_among))
        ((bytes_eq-Decides r.0.row.path path).1 r.1))

-- ---- ranks of copies, of jobs and of rows

then_below : (a b x : Ordering) → is_lt (ordering_then a (ordering_then b x)) ≡ false → is_lt (ordering_then a (ordering_then b Equal)) ≡ false
then_below Less b x e = e
then_below Greater b x e = refl
then_below Equal Less x e = e
then_below Equal Equal x e = refl
then_below Equal Greater x e = refl

-- a job that has no newer copy does not come after
job_not_after : (c d : Copy) → is_newer c d ≡ false → is_after c.0 d.0 ≡ false
job_not_after c d e = then_below (nat_cmp c.0.row.start d.0.row.start) (nat_cmp c.0.row.id d.0.row.id) (ordering_then (nat_cmp c.1.index d.1.index) Equal) e

equal_then : (a x : Ordering) → a ≡ Equal → ordering_then a x ≡ x
equal_then a x e = ap (λ o. ordering_then o x) e

-- a row of the same job that is not newer has no greater index
row_not_above : (j : JobRows) (f g : FileRow) → is_newer (j, f) (j, g) ≡ false → is_lt (rank_cmp (f.index ∷ []) (g.index ∷ [])) ≡ false
row_not_above j f g e =
    let index : Ordering = ordering_then (nat_cmp f.index g.index) Equal in
    let id = equal_then (nat_cmp j.row.id j.row.id) index (tied_itself nat_cmp_total j.row.id) in
    let start = equal_then (nat_cmp j.row.start j.row.start) (ordering_then (nat_cmp j.row.id j.row.id) index) (tied_itself nat_cmp_total j.row.start) in
    sym (ap is_lt (start ∙ id)) ∙ e

-- ---- the entry of the newest copy

-- the job of the newest copy is the newest job
newest_job_is : (jobs : List JobRows) (path : List ℕ) (j : JobRows) (f : FileRow) → no_pair one_number jobs ≡ true → Contains jobs j → Contains j.files f → Found path (copies jobs) (Some (j, f))
    → newest_job jobs path ≡ Some j
unfolding last_job
newest_job_is jobs path j f distinct among inside found =
    let has_row : JobRows → Bool = λ k. list_any (is_row_of path) k.files in
    let here : Contains (filter has_row jobs) j = contains_filter has_row jobs j among (some_passes (is_row_of path) j.files f inside found.1) in
    let none : AllByRecursion (λ k. is_after j k ≡ false) (filter has_row jobs) =
    to_each (λ k. is_after j k ≡ false) (filter has_row jobs) (λ k kept.
    let p = kept_passes has_row jobs k kept in
    let g = from_some (is_row_of path) k.files p.1 in
    job_not_after (j, f) (k, g.0) (of_each (λ (c : Copy). is_row_of path c.1 ≡ true → is_newer (j, f) c ≡ false) (copies jobs) (k, g.0) found.2 (copy_in jobs k g.0 p.0 g.1) g.2)) in
    let last = last_like job_rank (filter has_row jobs) j here none in
    let one : last.element.row.id ≡ j.row.id = ap (λ (r : List ℕ). slice_index r 1) last.same in
    let same : last.element ≡ j =
    one_of_two one_number jobs last.element j distinct (kept_passes has_row jobs last.element last.among).0 among (eq-eqb last.element.row.id j.row.id one) (eq-eqb j.row.id last.element.row.id (sym one)) in
    last.last ∙ ap Some same

-- of a job's rows of one index none is a deletion, or all are; and those that are none are one
entry_of_row : (j : JobRows) (f g : FileRow) → are_rows j ≡ true → Contains j.files f → Contains j.files g → g.index ≡ f.index → shown (j, f) ≡ unless_deleted j g
entry_of_row j f g valid of_f of_g same = go (eqb f.index 0) refl
  where
    go : (b : Bool) → eqb f.index 0 ≡ b → shown (j, f) ≡ unless_deleted j g
    go true zero =
        let f_zero : f.index ≡ 0 = eqb-true f.index 0 zero in
        ap (λ n. cond (is_in_range 1 2147483647 n) (Some (entry_from j f)) None) f_zero
        ∙ sym (ap (λ n. cond (eqb n 0) None (Some (entry_from j g))) (same ∙ f_zero))
    go false some =
        let rows = rows_say j valid in
        let ne = eqb-false f.index 0 some in
        let small = ltb-true f.index 2147483648 (and_parts (ltb f.index 2147483648) _ (of_each (λ r. is_file_row r ≡ true) j.files f (all_pass is_file_row j.files rows.files_fit) of_f)).0 in
        let within : is_in_range 1 2147483647 f.index ≡ true = and_from (leb 1 f.index) (leb f.index 2147483647) (le-leb 1 f.index (omega (arith, ne))) (le-leb f.index 2147483647 (omega (arith, small))) in
        let g_some : eqb g.index 0 ≡ false = ap (λ n. eqb n 0) same ∙ some in
        let one : g ≡ f =
        one_of_two same_file j.files g f rows.files_apart of_g of_f (and_from (not (eqb g.index 0)) (eqb g.index f.index) (ap not g_some) (eq-eqb g.index f.index same))
        (and_from (not (eqb f.index 0)) (eqb f.index g.index) (ap not some) (eq-eqb f.index g.index (sym same))) in
        ap (λ b. cond b (Some (entry_from j f)) None) within ∙ ap (λ r. Some (entry_from j r)) (sym one) ∙ sym (ap (λ b. cond b None (Some (entry_from j g))) g_some)

-- the newest row of the job of the newest copy shows the same entry
same_entry : (jobs : List JobRows) (path : List ℕ) (j : JobRows) (f : FileRow) → are_rows j ≡ true → Contains jobs j → Contains j.files f → Found path (copies jobs) (Some (j, f))
    → shown (j, f) ≡ option_and_then (unless_deleted j) (newest_row j path)
same_entry jobs path j f valid among inside found =
    let rows : List FileRow = filter (is_row_of path) j.files in
    let none : AllByRecursion (λ g. is_lt (rank_cmp (f.index ∷ []) (g.index ∷ [])) ≡ false) rows =
    to_each (λ g. is_lt (rank_cmp (f.index ∷ []) (g.index ∷ [])) ≡ false) rows (λ g kept.
    let p = kept_passes (is_row_of path) j.files g kept in
    row_not_above j f g (of_each (λ (c : Copy). is_row_of path c.1 ≡ true → is_newer (j, f) c ≡ false) (copies jobs) (j, g) found.2 (copy_in jobs j g among p.0) p.1)) in
    let last = last_like (λ (g : FileRow). g.index ∷ []) rows f (contains_filter (is_row_of path) j.files f inside found.1) none in
    let one : last.element.index ≡ f.index = ap (λ (r : List ℕ). slice_index r 0) last.same in
    entry_of_row j f last.element valid inside (kept_passes (is_row_of path) j.files last.element last.among).0 one ∙ ap (option_and_then (unless_deleted j)) (sym last.last)

-- a copy of some jobs is a row of one of them
pub copy_from : (jobs : List JobRows) (c : Copy) → Contains (copies jobs) c → Contains jobs c.0 × Contains c.0.files c.1
copy_from jobs c inside =
    let r = from_joined job_copies jobs c inside in
    let f = from_image (λ (g : FileRow). (r.0, g)) r.0.files c r.2 in
    (subst (Contains jobs) (ap (λ (d : Copy). d.0) f.2) r.1, subst (λ (d : Copy). Contains d.0.files d.1) f.2 f.1)

-- the newest copy shows the entry
pub newest_is_entry : (jobs : List JobRows) (path : List ℕ) → no_pair one_number jobs ≡ true → AllByRecursion (λ j. are_rows j ≡ true) jobs
    → option_and_then shown (newest path None (copies jobs)) ≡ entry_of jobs path
unfolding entry_of
newest_is_entry jobs path distinct valid = go (newest path None (copies jobs)) (newest_is_found path (copies jobs))
  where
    of_copy : (j : JobRows) (f : FileRow) → Found path (copies jobs) (Some (j, f)) → Contains jobs j × Contains j.files f → shown (j, f) ≡ entry_of jobs path
    of_copy j f found from =
        same_entry jobs path j f (of_each (λ k. are_rows k ≡ true) jobs j valid from.0) from.0 from.1 found
        ∙ ap (option_and_then (λ k. option_and_then (unless_deleted k) (newest_row k path))) (sym (newest_job_is jobs path j f distinct from.0 from.1 found))

    go : (o : Option Copy) → Found path (copies jobs) o → option_and_then shown o ≡ entry_of jobs path
    go None none = no_entry jobs path none
    go (Some c) found = of_copy c.0 c.1 found (copy_from jobs c found.0)
