-- A job is appended exactly if one with its row can be.
use Rattle.std.proofs.Common.{◌≡◌, ℕ, Bool, true, false, eqb, List, [], ◌∷◌, ◌++◌, Result, Ok, Err, refl}
use Rattle.std.specs.List.{list_any}
use Rattle.br_model.specs.Answer.{◌>>=◌, refuse_if}
use Rattle.br_model.specs.Name.{same_session}
use Rattle.br_model.specs.Job.{JobRow, JobRows, pushed}
use Rattle.br_history.specs.Taken.{admitted, PushedIsAdmitted}

-- a row whose number is there
pub admitted_with_id : (jobs : List JobRows) (row : JobRow) → list_any (λ (k : JobRows). eqb k.row.id row.id) jobs ≡ true → admitted jobs row ≡ Err 40
unfolding admitted
admitted_with_id jobs row there = rw there refl

-- a row whose session is there, and its number is not
pub admitted_with_session : (jobs : List JobRows) (row : JobRow) → list_any (λ (k : JobRows). eqb k.row.id row.id) jobs ≡ false
    → list_any (λ (k : JobRows). same_session k.row.session row.session) jobs ≡ true → admitted jobs row ≡ Err 41
unfolding admitted
admitted_with_session jobs row absent there = rw (absent, there) refl

-- a row of which neither is there
pub admitted_new : (jobs : List JobRows) (row : JobRow) → list_any (λ (k : JobRows). eqb k.row.id row.id) jobs ≡ false
    → list_any (λ (k : JobRows). same_session k.row.session row.session) jobs ≡ false → admitted jobs row ≡ Ok jobs
unfolding admitted
admitted_new jobs row absent missing = rw (absent, missing) refl

-- a list, unless one of two tests refuses it
abbrev tested : {X : Type 0} → Bool → Bool → List X → Result (List X) ℕ
tested a b list = do
  _ ← refuse_if a 40
  _ ← refuse_if b 41
  Ok list

-- more may be appended before the tests or after them
tests_first : {X : Type 0} (a b : Bool) (list more : List X) → tested a b (list ++ more) ≡ (tested a b list >>= λ h. Ok (h ++ more))
tests_first true b list more = refl
tests_first false true list more = refl
tests_first false false list more = refl

pub pushed_is_admitted_lem : PushedIsAdmitted
unfolding pushed admitted
pushed_is_admitted_lem history j =
    let has_id = list_any (λ (k : JobRows). eqb k.row.id j.row.id) history in
    let has_session = list_any (λ (k : JobRows). same_session k.row.session j.row.session) history in
    tests_first has_id has_session history (j ∷ [])
