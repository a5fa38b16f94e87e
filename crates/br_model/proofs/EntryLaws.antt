-- A selected entry is that of a saved file's row in one of the chosen jobs.
use Rattle.std.proofs.Common.{◌≡◌, ℕ, ◌<◌, Bool, true, false, not, ◌&&◌, cond, eqb, List, [], ◌∷◌, ◌++◌, filter, Option, Some, None, Ok, refl, sym, ap, subst, ◌∙◌, arith}
use Rattle.std.proofs.lemmas.Bool.{eqb-false}
use Rattle.std.proofs.lemmas.Slice.Eq.{bytes_eq-Decides}
use Rattle.std.specs.Prelude.{Contains, option_and_then, option_to_list, slice_index, unwrap_or, nat_lt}
use Rattle.std.specs.List.{AllByRecursion, list_any}
use Rattle.br_model.specs.Answer.{some_or}
use Rattle.br_model.specs.Order.{in_order, is_among}
use Rattle.br_model.specs.Name.{key_rank}
use Rattle.br_model.specs.Job.{FileRow, JobRows, Job, is_history}
use Rattle.br_model.specs.Choice.{Request, job_rank, is_after, is_good, is_of_client, is_of_fileset, candidates, at_level, last_job, chosen_of, choose}
use Rattle.br_model.specs.View.{Entry, is_row_of, newest_job, newest_row, entry_from, unless_deleted, entry_of, paths_of, view_of}
use Rattle.br_model.specs.Plan.{wanted, selection, planned_entry}
use Rattle.br_model.specs.PlanMeaning.{rows_of_jobs}
use Rattle.br_model.proofs.AnswerLaws.{some_or_ok, bind_ok, refuse_ok, ok_is, from_next}
use Rattle.br_model.proofs.EntryFileLaws.{IsEntryOf}
use Rattle.br_model.proofs.FileLaws.{row_is_alone}
use Rattle.br_model.proofs.GroupLaws.{history_rows, one_job_of_session}
use Rattle.br_model.proofs.ListLaws.{of_option, all_append, all_weaker, from_given, from_image, from_kept, from_last, kept_passes, of_each, to_each}
use Rattle.br_model.proofs.OrderLaws.{in_order_from}

-- ---- jobs and rows

-- the last of some jobs is one of them
pub from_last_job : (jobs : List JobRows) (j : JobRows) → last_job jobs ≡ Some j → Contains jobs j
unfolding last_job
from_last_job jobs j e = in_order_from job_rank jobs j (from_last (in_order job_rank jobs) j e)

-- what of an entry its row in a job says
pub record IsRowIn (jobs : List JobRows) (e : Entry) : Type 0 where
  pub job : JobRows
  pub row : FileRow
  pub among : Contains jobs job
  pub row_among : Contains job.files row
  pub some : 0 < row.index
  pub entry_is : e ≡ entry_from job row

-- an entry that is not a deletion is of a row with an index above 0
pub from_row : (j : JobRows) (f : FileRow) (e : Entry) → unless_deleted j f ≡ Some e → (0 < f.index) × (e ≡ entry_from j f)
from_row j f e given = go (eqb f.index 0) refl given
  where
    go : (b : Bool) → eqb f.index 0 ≡ b → cond b None (Some (entry_from j f)) ≡ Some e → (0 < f.index) × (e ≡ entry_from j f)
    go true is h = absurd cc
    go false is h = (let ne = eqb-false f.index 0 is in omega (arith, ne), cc)

-- the entry of a path is that of a saved file's row with this path in one of the jobs
pub entry_is_of_row : (jobs : List JobRows) (path : List ℕ) (e : Entry) → entry_of jobs path ≡ Some e → (r : IsRowIn jobs e) × (r.row.path ≡ path)
unfolding entry_of
entry_is_of_row jobs path e is =
    let of_job = from_next (λ (j : JobRows). option_and_then (unless_deleted j) (newest_row j path)) (newest_job jobs path) e is in
    let j = of_job.0 in
    let of_row = from_next (unless_deleted j) (newest_row j path) e of_job.2 in
    let f = of_row.0 in
    let made = from_row j f e of_row.2 in
    let has_row : JobRows → Bool = λ k. list_any (is_row_of path) k.files in
    let kept =
    kept_passes (is_row_of path) j.files f
    (in_order_from (λ (g : FileRow). g.index ∷ []) (filter (is_row_of path) j.files) f
    (from_last (in_order (λ (g : FileRow). g.index ∷ []) (filter (is_row_of path) j.files)) f of_row.1)) in (
      record {
        job = j;
        row = f;
        among = from_kept has_row jobs j (from_last_job (filter has_row jobs) j of_job.1);
        row_among = kept.0;
        some = made.0;
        entry_is = made.1;
      },
      (bytes_eq-Decides f.path path).0 kept.1,
    )

-- an entry of the view is that of a saved file's row in one of the jobs
pub view_is_of_rows : (jobs : List JobRows) (e : Entry) → Contains (view_of jobs) e → IsRowIn jobs e
unfolding view_of
view_is_of_rows jobs e inside = let path = from_given (entry_of jobs) (paths_of jobs) e inside in (entry_is_of_row jobs path.0 e path.2).0

-- of a history's entries two with one key are one
pub one_entry_of_key : (jobs : List JobRows) (d e : Entry) → is_history jobs ≡ true → IsRowIn jobs d → IsRowIn jobs e
    → key_rank (planned_entry d).key ≡ key_rank (planned_entry e).key → d ≡ e
one_entry_of_key jobs d e history p q same =
    let id_is : d.session.id ≡ e.session.id = ap (λ (l : List ℕ). slice_index l 0) same in
    let time_is : d.session.time ≡ e.session.time = ap (λ (l : List ℕ). slice_index l 1) same in
    let index_is : d.index ≡ e.index = ap (λ (l : List ℕ). slice_index l 2) same in
    let session_is : d.session ≡ e.session = λ i. record { id = id_is i; time = time_is i } in
    let job_is : p.job ≡ q.job =
    one_job_of_session jobs p.job q.job history p.among q.among (sym (ap (λ (g : Entry). g.session) p.entry_is) ∙ session_is ∙ ap (λ (g : Entry). g.session) q.entry_is) in
    let number_is : q.row.index ≡ p.row.index = sym (ap (λ (g : Entry). g.index) q.entry_is) ∙ sym index_is ∙ ap (λ (g : Entry). g.index) p.entry_is in
    let alone = row_is_alone q.job.files q.row (history_rows jobs q.job history q.among).files_apart q.some q.row_among in
    let row_is : p.row ≡ q.row =
    of_each (λ (f : FileRow). q.row.index ≡ f.index → f ≡ q.row) q.job.files p.row alone (subst (λ (j : JobRows). Contains j.files p.row) job_is p.row_among) number_is in
    p.entry_is ∙ ap (λ (j : JobRows). entry_from j p.row) job_is ∙ ap (entry_from q.job) row_is ∙ sym q.entry_is

-- ---- chosen jobs

-- each job that is chosen of some candidates is one of these
pub chosen_of_are_jobs : (jobs chosen : List JobRows) → chosen_of jobs ≡ Ok chosen → AllByRecursion (Contains jobs) chosen
unfolding chosen_of
chosen_of_are_jobs jobs chosen e =
    let behind : JobRows → Option JobRows = λ full. last_job (filter (is_after full) (at_level 68 jobs)) in
    let give : JobRows → List JobRows = λ full. full ∷ option_to_list (behind full) ++ in_order job_rank (filter (is_after (unwrap_or (behind full) full)) (at_level 73 jobs)) in
    let r = bind_ok (some_or {E = ℕ} (last_job (at_level 70 jobs)) 50) (λ full. Ok (give full)) chosen e in
    let full = r.0 in
    let full_in = from_kept (λ (j : JobRows). eqb j.row.level 70) jobs full (from_last_job (at_level 70 jobs) full (some_or_ok (last_job (at_level 70 jobs)) 50 full r.1)) in
    let later = filter (is_after (unwrap_or (behind full) full)) (at_level 73 jobs) in
    let others : AllByRecursion (Contains jobs) (in_order job_rank later) =
    to_each (Contains jobs) (in_order job_rank later) (λ j inside.
    from_kept (λ (k : JobRows). eqb k.row.level 73) jobs j (from_kept (is_after (unwrap_or (behind full) full)) (at_level 73 jobs) j (in_order_from job_rank later j inside))) in
    subst (λ (js : List JobRows). AllByRecursion (Contains jobs) js) (ok_is (give full) chosen r.2) (
      full_in,
      all_append (Contains jobs) (option_to_list (behind full)) (in_order job_rank later) (of_option (Contains jobs) (behind full) (λ j is.
          from_kept (λ (k : JobRows). eqb k.row.level 68) jobs j (from_kept (is_after full) (at_level 68 jobs) j (from_last_job (filter (is_after full) (at_level 68 jobs)) j is)))) others,
    )

-- each chosen job is one of the history
pub chosen_are_jobs : (history chosen : List JobRows) (q : Request) → choose history q ≡ Ok chosen → AllByRecursion (Contains history) chosen
unfolding choose candidates
chosen_are_jobs history chosen q e =
    let test : JobRows → Bool = λ j. is_good j && is_of_client q.client j && is_of_fileset q.fileset j && nat_lt j.row.start q.moment in
    let next = refuse_ok (not (list_any (is_of_client q.client) history)) 53 _ chosen e in
    let last = refuse_ok (not (list_any (λ j. is_of_client q.client j && is_of_fileset q.fileset j) history)) 54 _ chosen next.1 in
    all_weaker (Contains (filter test history)) (Contains history) (λ j inside. from_kept test history j inside) chosen (chosen_of_are_jobs (filter test history) chosen last.1)

-- a selected entry of chosen jobs is that of a saved file's row in one of the jobs, which is chosen
pub selected_is_of_job : (jobs : List Job) (q : Request) (marks : List (List ℕ)) (chosen : List JobRows) (e : Entry) → choose (rows_of_jobs jobs) q ≡ Ok chosen
    → Contains (selection (view_of chosen) marks) e → (of : IsEntryOf jobs e) × Contains chosen of.job.rows
unfolding selection
selected_is_of_job jobs q marks chosen e is_chosen inside =
    let r = view_is_of_rows chosen e (from_kept (λ (d : Entry). is_among (wanted (view_of chosen) marks) d.path) (view_of chosen) e inside) in
    let in_history : Contains (rows_of_jobs jobs) r.job = of_each (Contains (rows_of_jobs jobs)) chosen r.job (chosen_are_jobs (rows_of_jobs jobs) chosen q is_chosen) r.among in
    let j = from_image (λ (k : Job). k.rows) jobs r.job in_history in (
      record {
        job = j.0;
        row = r.row;
        among = j.1;
        row_among = subst (λ (k : JobRows). Contains k.files r.row) (sym j.2) r.row_among;
        job_is = ap (λ (k : JobRows). k.row.id) j.2 ∙ sym (ap (λ (d : Entry). d.job) r.entry_is);
        session_is = ap (λ (d : Entry). d.session) r.entry_is ∙ sym (ap (λ (k : JobRows). k.row.session) j.2);
        path_is = ap (λ (d : Entry). d.path) r.entry_is;
        index_is = ap (λ (d : Entry). d.index) r.entry_is;
        some = subst (λ (n : ℕ). 0 < n) (sym (ap (λ (d : Entry). d.index) r.entry_is)) r.some;
      },
      subst (Contains chosen) (sym j.2) r.among,
    )
