-- The numbers and sessions of the jobs of a history, which it keeps with the jobs.
use Rattle.std.specs.Prelude.{◌≡◌, ℕ, true, ◌==◌, ◌||◌, List, [], ◌∷◌, ◌++◌, Result, Ok}
use Rattle.std.specs.List.{list_any}
use Rattle.std.specs.Ordering.{nat_cmp}
use Rattle.std.specs.BTreeSet.{BTreeSet, contains}
use Rattle.br_model.specs.Name.{SessionKey, same_session, session_cmp}
use Rattle.br_model.specs.Answer.{◌>>=◌, refuse_if}
use Rattle.br_model.specs.Job.{JobRow, JobRows, is_history, pushed}

-- the sets have the numbers and the sessions of the jobs, which are a history
pub record AreTaken (jobs : List JobRows) (ids : BTreeSet ℕ) (sessions : BTreeSet SessionKey) : Type 0 where
  pub history : is_history jobs ≡ true
  pub has_ids : (q : ℕ) → contains nat_cmp ids q ≡ list_any (λ (k : JobRows). k.row.id == q) jobs
  pub has_sessions : (q : SessionKey) → contains session_cmp sessions q ≡ list_any (λ (k : JobRows). same_session k.row.session q) jobs

-- the second set has one more number
abbrev pub AddsId : BTreeSet ℕ → ℕ → BTreeSet ℕ → Type 0
AddsId old id new = (q : ℕ) → contains nat_cmp new q ≡ (contains nat_cmp old q || id == q)

-- the second set has one more session
abbrev pub AddsSession : BTreeSet SessionKey → SessionKey → BTreeSet SessionKey → Type 0
AddsSession old session new = (q : SessionKey) → contains session_cmp new q ≡ (contains session_cmp old q || same_session session q)

-- two sets have the same numbers
abbrev pub SameIds : BTreeSet ℕ → BTreeSet ℕ → Type 0
SameIds old new = (q : ℕ) → contains nat_cmp new q ≡ contains nat_cmp old q

-- two sets have the same sessions
abbrev pub SameSessions : BTreeSet SessionKey → BTreeSet SessionKey → Type 0
SameSessions old new = (q : SessionKey) → contains session_cmp new q ≡ contains session_cmp old q

-- the history, if a job with this row can be appended; or 40 if it has the number already, or else
-- 41 if it has the session already
unfoldable pub admitted : List JobRows → JobRow → Result (List JobRows) ℕ
admitted history row = do
  _ ← refuse_if (list_any (λ (k : JobRows). k.row.id == row.id) history) 40
  _ ← refuse_if (list_any (λ (k : JobRows). same_session k.row.session row.session) history) 41
  Ok history

-- a job is appended exactly if a job with its row can be, and is refused for the same reason
abbrev pub PushedIsAdmitted : Type 0
PushedIsAdmitted =
    (history : List JobRows) (j : JobRows) → pushed history j ≡ (admitted history j.row >>= λ h. Ok (h ++ j ∷ []))
