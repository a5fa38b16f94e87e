-- A request chooses the same of a history in which the jobs that it chooses alone have files.
use Rattle.std.proofs.Common.{◌≡◌, ℕ, Bool, true, false, cond, not, ◌&&◌, ◌||◌, eqb, nat_lt, List, [], ◌∷◌, ◌++◌, map, filter, Option, Some, None, Result, Ok, Err, refl, ap, ap₂, ◌∙◌}
use Rattle.std.specs.Prelude.{option_map, option_to_list, unwrap_or}
use Rattle.std.specs.List.{AllByRecursion, last_or, list_any}
use Rattle.std.proofs.lemmas.Bool.Decides.{Decides-eqb}
use Rattle.br_model.specs.Answer.{◌>>=◌, refuse_if, some_or}
use Rattle.br_model.specs.Order.{in_order}
use Rattle.br_model.specs.Job.{JobRows}
use Rattle.br_model.specs.Choice.{Request, is_good, job_rank, is_after, is_of_client, is_of_fileset, candidates, at_level, last_job, chosen_of, choose}
use Rattle.br_model.proofs.ListLaws.{contains_map, some_passes, to_each}
use Rattle.br_model.proofs.OrderLaws.{in_order_map}
use Rattle.br_history.specs.Needed.{ChosenChooseAlike, CoveredChooseAlike, Covers, bare, chosen_numbers, files_if, is_one_of, needed_for, numbers_in}

-- ---- lists of images

pub filter_image : (p : JobRows → Bool) (g : JobRows → JobRows) (jobs : List JobRows) → filter p (map g jobs) ≡ map g (filter (λ j. p (g j)) jobs)
filter_image p g [] = refl
filter_image p g (j ∷ jobs) = go (p (g j)) (filter_image p g jobs)
  where
    go : (b : Bool) → filter p (map g jobs) ≡ map g (filter (λ j. p (g j)) jobs)
        → cond b (g j ∷ filter p (map g jobs)) (filter p (map g jobs)) ≡ map g (cond b (j ∷ filter (λ j. p (g j)) jobs) (filter (λ j. p (g j)) jobs))
    go true h = ap (λ js. g j ∷ js) h
    go false h = h

any_image : (p : JobRows → Bool) (g : JobRows → JobRows) (jobs : List JobRows) → list_any p (map g jobs) ≡ list_any (λ j. p (g j)) jobs
any_image p g [] = refl
any_image p g (j ∷ jobs) = ap (λ b. p (g j) || b) (any_image p g jobs)

last_image : (g : JobRows → JobRows) (o : Option JobRows) (jobs : List JobRows) → last_or (option_map g o) (map g jobs) ≡ option_map g (last_or o jobs)
last_image g o [] = refl
last_image g o (j ∷ jobs) = last_image g (Some j) jobs

-- ---- the choice

module _ (ids : List ℕ) where
  abbrev g : JobRows → JobRows
  g = files_if ids

  abbrev images : Result (List JobRows) ℕ → Result (List JobRows) ℕ
  images (Ok jobs) = Ok (map g jobs)
  images (Err n) = Err n

  abbrev ok : List JobRows → Result (List JobRows) ℕ
  ok jobs = Ok jobs

  last_job_image : (jobs : List JobRows) → last_job (map g jobs) ≡ option_map g (last_job jobs)
  unfolding last_job
  last_job_image jobs = ap (last_or None) (in_order_map job_rank g jobs) ∙ last_image g None (in_order job_rank jobs)

  after_image : (level : ℕ) (full : JobRows) (jobs : List JobRows)
      → filter (is_after (g full)) (at_level level (map g jobs)) ≡ map g (filter (is_after full) (at_level level jobs))
  after_image level full jobs =
      ap (filter (is_after full)) (filter_image (λ (j : JobRows). eqb j.row.level level) g jobs) ∙ filter_image (is_after full) g (at_level level jobs)

  abbrev differential : List JobRows → JobRows → Option JobRows
  differential jobs full = last_job (filter (is_after full) (at_level 68 jobs))

  abbrev chain : List JobRows → JobRows → Option JobRows → List JobRows
  chain jobs full o = full ∷ option_to_list o ++ in_order job_rank (filter (is_after (unwrap_or o full)) (at_level 73 jobs))

  differential_image : (jobs : List JobRows) (full : JobRows) → differential (map g jobs) (g full) ≡ option_map g (differential jobs full)
  differential_image jobs full = ap last_job (after_image 68 full jobs) ∙ last_job_image (filter (is_after full) (at_level 68 jobs))

  chain_image : (jobs : List JobRows) (full : JobRows) (o : Option JobRows) → chain (map g jobs) (g full) (option_map g o) ≡ map g (chain jobs full o)
  chain_image jobs full None =
      ap (λ js. g full ∷ js) (ap (in_order job_rank) (after_image 73 full jobs) ∙ in_order_map job_rank g (filter (is_after full) (at_level 73 jobs)))
  chain_image jobs full (Some d) =
      ap (λ js. g full ∷ g d ∷ js) (ap (in_order job_rank) (after_image 73 d jobs) ∙ in_order_map job_rank g (filter (is_after d) (at_level 73 jobs)))

  chosen_image : (jobs : List JobRows) → chosen_of (map g jobs) ≡ images (chosen_of jobs)
  unfolding chosen_of
  chosen_image jobs =
      ap (λ (o : Option JobRows). some_or o 50 >>= λ full. ok (chain (map g jobs) full (differential (map g jobs) full)))
      (ap last_job (filter_image (λ (j : JobRows). eqb j.row.level 70) g jobs) ∙ last_job_image (at_level 70 jobs))
      ∙ go (last_job (at_level 70 jobs))
    where
      go : (o : Option JobRows) → (some_or (option_map g o) 50 >>= λ full. Ok (chain (map g jobs) full (differential (map g jobs) full)))
          ≡ images (some_or o 50 >>= λ full. Ok (chain jobs full (differential jobs full)))
      go None = refl
      go (Some full) =
          ap (λ (o : Option JobRows). ok (chain (map g jobs) (g full) o)) (differential_image jobs full) ∙ ap ok (chain_image jobs full (differential jobs full))

  abbrev tested : Bool → Bool → Result (List JobRows) ℕ → Result (List JobRows) ℕ
  tested known both r = refuse_if (not known) 53 >>= λ _. refuse_if (not both) 54 >>= λ _. r

  tested_image : (known both : Bool) (jobs : List JobRows) → tested known both (chosen_of (map g jobs)) ≡ images (tested known both (chosen_of jobs))
  tested_image false both jobs = refl
  tested_image true false jobs = refl
  tested_image true true jobs = chosen_image jobs

  abbrev names_client : Request → List JobRows → Bool
  names_client q jobs = list_any (is_of_client q.client) jobs

  abbrev names_both : Request → List JobRows → Bool
  names_both q jobs = list_any (λ j. is_of_client q.client j && is_of_fileset q.fileset j) jobs

  candidates_image : (history : List JobRows) (q : Request) → candidates (map g history) q ≡ map g (candidates history q)
  unfolding candidates
  candidates_image history q =
      filter_image (λ (j : JobRows). is_good j && is_of_client q.client j && is_of_fileset q.fileset j && nat_lt j.row.start q.moment) g history

  -- the choice of a history without some files is that of the history, without these files
  pub choose_image : (history : List JobRows) (q : Request) → choose (map g history) q ≡ images (choose history q)
  unfolding choose
  choose_image history q =
      ap (λ (b : Bool). tested b (names_both q (map g history)) (chosen_of (candidates (map g history) q))) (any_image (is_of_client q.client) g history)
      ∙ ap (λ (b : Bool). tested (names_client q history) b (chosen_of (candidates (map g history) q)))
      (any_image (λ j. is_of_client q.client j && is_of_fileset q.fileset j) g history)
      ∙ ap (λ (jobs : List JobRows). tested (names_client q history) (names_both q history) (chosen_of jobs)) (candidates_image history q)
      ∙ tested_image (names_client q history) (names_both q history) (candidates history q)

-- ---- the numbers

-- a job keeps its number without its files
pub same_numbers : (ids : List ℕ) (jobs : List JobRows) → numbers_in (map (files_if ids) jobs) ≡ numbers_in jobs
same_numbers ids [] = refl
same_numbers ids (j ∷ jobs) = ap (λ l. j.row.id ∷ l) (same_numbers ids jobs)

same_chosen : (ids : List ℕ) (r : Result (List JobRows) ℕ) → chosen_numbers (images ids r) ≡ chosen_numbers r
same_chosen ids (Err n) = refl
same_chosen ids (Ok jobs) = same_numbers ids jobs

-- each job has one of the numbers of all
pub has_number : (jobs : List JobRows) → AllByRecursion (λ (j : JobRows). is_one_of (numbers_in jobs) j.row.id ≡ true) jobs
has_number jobs = to_each (λ (j : JobRows). is_one_of (numbers_in jobs) j.row.id ≡ true) jobs (λ j inside.
    some_passes (λ id. eqb id j.row.id) (numbers_in jobs) j.row.id (contains_map (λ (k : JobRows). k.row.id) jobs j inside) ((Decides-eqb j.row.id j.row.id).1 refl))

-- jobs whose numbers are among these keep their files
pub all_stay : (ids : List ℕ) (jobs : List JobRows) → AllByRecursion (λ (j : JobRows). is_one_of ids j.row.id ≡ true) jobs → map (files_if ids) jobs ≡ jobs
all_stay ids [] h = refl
all_stay ids (j ∷ jobs) h = ap₂ (λ b js. record j { files = cond b j.files [] } ∷ js) h.0 (all_stay ids jobs h.1)

covered_stay : (ids : List ℕ) (r : Result (List JobRows) ℕ) → Covers ids r → images ids r ≡ r
covered_stay ids (Err n) covers = refl
covered_stay ids (Ok jobs) covers = ap Ok (all_stay ids jobs covers)

numbers_cover : (r : Result (List JobRows) ℕ) → Covers (chosen_numbers r) r
numbers_cover (Err n) = tt
numbers_cover (Ok jobs) = has_number jobs

pub covered_choose_alike : CoveredChooseAlike
covered_choose_alike ids history q covers = choose_image ids history q ∙ covered_stay ids (choose history q) covers

pub chosen_choose_alike : ChosenChooseAlike
chosen_choose_alike history q =
    let numbers : needed_for q (bare history) ≡ needed_for q history = ap chosen_numbers (choose_image [] history q) ∙ same_chosen [] (choose history q) in
    ap (λ (ids : List ℕ). choose (map (files_if ids) history) q) numbers
    ∙ covered_choose_alike (needed_for q history) history q (numbers_cover (choose history q))
