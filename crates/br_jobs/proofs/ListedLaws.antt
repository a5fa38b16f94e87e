-- A list of jobs of which those that are listed alone have their files.
use Rattle.std.proofs.Common.{◌≡◌, ℕ, Bool, true, false, cond, not, ◌&&◌, nat_lt, List, [], map, filter, Option, Some, None, Result, Ok, Err, refl, ap, ◌∙◌}
use Rattle.std.specs.Borrow.{Bor}
use Rattle.std.specs.List.{AllByRecursion, list_any}
use Rattle.std.specs.Prelude.{Contains}
use Rattle.std.specs.Option.{option_map_or}
use Rattle.br_model.specs.Answer.{◌>>=◌}
use Rattle.br_model.specs.Choice.{Request, candidates, choose, is_good, is_of_client, is_of_fileset}
use Rattle.br_model.specs.Job.{JobRows}
use Rattle.br_model.specs.Name.{checked_name, is_name}
use Rattle.br_model.proofs.AnswerLaws.{refuse_ok}
use Rattle.br_model.proofs.EntryLaws.{chosen_of_are_jobs}
use Rattle.br_model.proofs.ListLaws.{all_weaker, contains_filter, kept_passes, of_each}
use Rattle.br_choose.specs.Wanted.{request_for}
use Rattle.br_history.specs.Needed.{Covers, bare, files_if, is_one_of, numbers_in, with_needed}
use Rattle.br_history.proofs.NeededLaws.{all_stay, covered_choose_alike, filter_image, has_number, same_numbers}
use Rattle.br_jobs.specs.JobFilter.{is_listed, jobs_listed}
use Rattle.br_jobs.specs.JobMarks.{chosen_for, marked, marks}
use Rattle.br_jobs.specs.ListedFiles.{ListsAlike, needed_by}
use Rattle.br_jobs.specs.declared.job_filter.Filter.{Filter}

-- ---- what is listed

-- jobs without some files are listed as they are with them
listed_image : (f : Filter) (ids : List ℕ) (jobs : List JobRows) → jobs_listed f (map (files_if ids) jobs) ≡ map (files_if ids) (jobs_listed f jobs)
listed_image f ids jobs = filter_image (is_listed f) (files_if ids) jobs

-- the jobs without files decide which files are needed
same_needed : (f : Filter) (jobs : List JobRows) → needed_by f (bare jobs) ≡ needed_by f jobs
same_needed f jobs = ap numbers_in (listed_image f [] jobs) ∙ same_numbers [] (jobs_listed f jobs)

listed_alike : (f : Filter) (jobs : List JobRows) → jobs_listed f (map (files_if (needed_by f jobs)) jobs) ≡ jobs_listed f jobs
listed_alike f jobs = listed_image f (needed_by f jobs) jobs ∙ all_stay (needed_by f jobs) (jobs_listed f jobs) (has_number (jobs_listed f jobs))

-- ---- what is marked

abbrev listed_by : Option (Bor (List ℕ)) → Option (Bor (List ℕ)) → Option ℕ → JobRows → Bool
listed_by client fileset moment j =
    option_map_or (λ (c : Bor (List ℕ)). is_of_client c.now j) client true && option_map_or (λ (s : Bor (List ℕ)). is_of_fileset s.now j) fileset true
    && option_map_or (λ (m : ℕ). nat_lt j.row.start m) moment true

chosen_are_candidates : (history chosen : List JobRows) (q : Request) → choose history q ≡ Ok chosen → AllByRecursion (Contains (candidates history q)) chosen
unfolding choose
chosen_are_candidates history chosen q e =
    let next = refuse_ok (not (list_any (is_of_client q.client) history)) 53 _ chosen e in
    let last = refuse_ok (not (list_any (λ j. is_of_client q.client j && is_of_fileset q.fileset j) history)) 54 _ chosen next.1 in
    chosen_of_are_jobs (candidates history q) chosen last.1

without_first : (a b c d : Bool) → (a && b && c && d) ≡ true → (b && c && d) ≡ true
without_first true b c d h = h
without_first false b c d h = absurd cc

-- each candidate of a request is among the jobs that a filter for it lists
candidates_are_listed : (history : List JobRows) (q : Request) (j : JobRows) → Contains (candidates history q) j
    → Contains (filter (λ (k : JobRows). is_of_client q.client k && is_of_fileset q.fileset k && nat_lt k.row.start q.moment) history) j
unfolding candidates
candidates_are_listed history q j inside =
    let test : JobRows → Bool = λ k. is_good k && is_of_client q.client k && is_of_fileset q.fileset k && nat_lt k.row.start q.moment in
    let kept = kept_passes test history j inside in
    contains_filter (λ (k : JobRows). is_of_client q.client k && is_of_fileset q.fileset k && nat_lt k.row.start q.moment) history j kept.0
    (without_first (is_good j) (is_of_client q.client j) (is_of_fileset q.fileset j) (nat_lt j.row.start q.moment) kept.1)

abbrev numbers_for : List JobRows → Request → List ℕ
numbers_for history q = numbers_in (filter (λ (k : JobRows). is_of_client q.client k && is_of_fileset q.fileset k && nat_lt k.row.start q.moment) history)

covers : (history : List JobRows) (q : Request) (r : Result (List JobRows) ℕ) → choose history q ≡ r → Covers (numbers_for history q) r
covers history q (Err n) e = tt
covers history q (Ok chosen) e =
    let of_q = filter (λ (k : JobRows). is_of_client q.client k && is_of_fileset q.fileset k && nat_lt k.row.start q.moment) history in
    all_weaker (Contains (candidates history q)) (λ (j : JobRows). is_one_of (numbers_in of_q) j.row.id ≡ true)
    (λ j inside. of_each (λ (k : JobRows). is_one_of (numbers_in of_q) k.row.id ≡ true) of_q j (has_number of_q) (candidates_are_listed history q j inside))
    chosen (chosen_are_candidates history chosen q e)

chooses_alike : (history : List JobRows) (q : Request) → choose (map (files_if (numbers_for history q)) history) q ≡ choose history q
chooses_alike history q = covered_choose_alike (numbers_for history q) history q (covers history q (choose history q) refl)

-- by the names, which are refused or read as they are
chosen_alike : (history : List JobRows) (client fileset : List ℕ) (moment : ℕ)
    → chosen_for (map (files_if (numbers_for history (request_for client fileset moment))) history) client fileset moment ≡ chosen_for history client fileset moment
unfolding chosen_for checked_name
chosen_alike history client fileset moment = go (is_name client) (is_name fileset)
  where
    go : (a b : Bool)
        → ((cond a (Ok client) (Err 2)) >>= λ c. (cond b (Ok fileset) (Err 2)) >>= λ s. choose (map (files_if (numbers_for history (request_for client fileset moment))) history) (request_for c s moment))
        ≡ ((cond a (Ok client) (Err 2)) >>= λ c. (cond b (Ok fileset) (Err 2)) >>= λ s. choose history (request_for c s moment))
    go true true = chooses_alike history (request_for client fileset moment)
    go true false = refl
    go false b = refl

marked_alike : (history : List JobRows) (client fileset : Option (Bor (List ℕ))) (moment : Option ℕ)
    → marked (map (files_if (numbers_in (filter (listed_by client fileset moment) history))) history) client fileset moment ≡ marked history client fileset moment
marked_alike history (Some client) (Some fileset) (Some moment) = chosen_alike history client.now fileset.now moment
marked_alike history None fileset moment = refl
marked_alike history (Some client) None moment = refl
marked_alike history (Some client) (Some fileset) None = refl

pub lists_alike : ListsAlike
lists_alike f jobs =
    let same : with_needed (needed_by f) jobs ≡ map (files_if (needed_by f jobs)) jobs = ap (λ (ids : List ℕ). map (files_if ids) jobs) (same_needed f jobs) in (
      ap (jobs_listed f) same ∙ listed_alike f jobs,
      ap (λ (js : List JobRows). marks js f) same ∙ marked_alike jobs f.client f.fileset f.before,
    )
