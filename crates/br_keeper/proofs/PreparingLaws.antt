-- A job that can't be committed, before anything is written.
use Rattle.std.proofs.Common.{ℕ, ◌≡◌, Bool, true, false, List, Result, Ok, Err, ap, inl, inr, arith}
use Rattle.std.specs.Prelude.{◌==◌}
use Rattle.std.specs.List.{list_any}
use Rattle.br_model.specs.Answer.{◌>>=◌, refuse_if}
use Rattle.br_model.specs.Name.{same_session}
use Rattle.br_model.specs.Job.{JobRow, JobRows}
use Rattle.br_history.specs.Fault.{fault_number}
use Rattle.br_history.specs.Preparing.{MakesSession}
use Rattle.br_history.specs.Saving.{ToCommit}
use Rattle.br_history.specs.Taken.{admitted}
use Rattle.br_history.specs.declared.fault.HistoryFault.{HistoryFault}
use Rattle.br_history.specs.declared.fault.HistoryFault.TheVariants.{Memory, DuplicateJob, DuplicateSession, BadRow}
use Rattle.br_keeper.specs.declared.vouched_lengths.Vouch.{Vouch}
use Rattle.br_keeper.specs.Vouching.{starts_of}
use Rattle.br_keeper.specs.Preparing.{Prepares}

-- a row that is refused for its number or its session
abbrev admits : Bool → Bool → List JobRows → Result (List JobRows) ℕ
admits same_id same_session history = do
  _ ← refuse_if same_id 40
  _ ← refuse_if same_session 41
  Ok history

-- the number of a refusal
abbrev number_of : Result (List JobRows) ℕ → ℕ
number_of (Ok history) = 0
number_of (Err n) = n

not_42 : (same_id same_session : Bool) (history : List JobRows) → admits same_id same_session history ≡ Err 42 → ⊥
not_42 true same_session history e = omega (arith, ap number_of e)
not_42 false true history e = omega (arith, ap number_of e)
not_42 false false history e = omega (arith, ap number_of e)

admitted_not_42 : (history : List JobRows) (row : JobRow) → admitted history row ≡ Err 42 → ⊥
unfolding admitted
admitted_not_42 history row e =
    not_42 (list_any (λ (k : JobRows). k.row.id == row.id) history) (list_any (λ (k : JobRows). same_session k.row.session row.session) history) history e

-- one whose row can't be appended to the history
pub refused_row : (vouches : List Vouch) (history : List JobRows) (c : ToCommit) (why : HistoryFault) → admitted history c.row ≡ Err (fault_number why) → Prepares vouches history c (Err why)
refused_row vouches history c Memory e = tt
refused_row vouches history c DuplicateJob e = e
refused_row vouches history c DuplicateSession e = e
refused_row vouches history c BadRow e = absurd (admitted_not_42 history c.row e)

-- one whose session is not made
pub refused_session : (vouches : List Vouch) (history : List JobRows) (c : ToCommit) (why : HistoryFault) → admitted history c.row ≡ Ok history
    → MakesSession c (starts_of vouches history c.places) (Err why) → Prepares vouches history c (Err why)
refused_session vouches history c Memory ok h = tt
refused_session vouches history c DuplicateJob ok (inl e) = absurd cc
refused_session vouches history c DuplicateJob ok (inr (e, spans)) = absurd cc
refused_session vouches history c DuplicateSession ok (inl e) = absurd cc
refused_session vouches history c DuplicateSession ok (inr (e, spans)) = absurd cc
refused_session vouches history c BadRow ok (inl e) = absurd cc
refused_session vouches history c BadRow ok (inr (e, spans)) = (ok, spans)
