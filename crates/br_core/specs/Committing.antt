-- A job with its session and rows, as it is committed.
use Rattle.std.specs.Prelude.{◌≡◌, ℕ, ◌++◌, ◌∷◌, [], List, IfSome, Result, Ok, Err, ⊤}
use Rattle.std.specs.Global.{Vec}
use Rattle.br_model.specs.Volume.{Volume}
use Rattle.br_model.specs.Job.{JobRows, pushed}
use Rattle.br_model.specs.PlanMeaning.{rows_of_jobs}
use Rattle.br_model.specs.Session.{IsWritten, Written}
use Rattle.br_model.specs.SessionHolds.{AreAppended}
use Rattle.br_history.specs.Fault.{cause}
use Rattle.br_history.specs.Preparing.{HasSession, seen}
use Rattle.br_history.specs.Saving.{ToCommit}
use Rattle.br_history.specs.declared.fault.HistoryFault.{HistoryFault}
use Rattle.br_core.specs.Machine.{Event, World, IsCommitted, IsRefusedFor, lengths_of}
use Rattle.br_core.specs.Machine.Event.{Commit}

-- the rows of the job and its blocks, as its session has them; the job can be among the others
pub record IsPrepared
    (history : List JobRows) (c : ToCommit) (starts : List (List ℕ × ℕ)) (rows : JobRows) (blocks : List (List ℕ × List ℕ))
    : Type 0 where
  pub session : HasSession c starts rows blocks
  pub fits : pushed history rows ≡ Ok (history ++ rows ∷ [])

-- The job is prepared. Or in each state with this history, a commit that finds volumes of these
-- lengths is refused with the same number. If memory runs out, nothing is stated.
abbrev pub Prepares : List JobRows → ToCommit → List (List ℕ × ℕ) → Result (JobRows × Vec (List ℕ × Vec ℕ)) HistoryFault → Type 0
Prepares history c starts (Ok p) = IsPrepared history c starts p.0 (seen p.1.items)
Prepares history c starts (Err why) =
    IfSome (cause why)
    (λ n. (w : World) (found : List Volume) → rows_of_jobs w.jobs ≡ history → lengths_of found ≡ starts → IsRefusedFor w c found n)

-- The result of a commit: the job is there, or nothing is changed. Then the relation refuses it
-- with the same number, unless memory ran out.
abbrev pub CommitsTo : World → ToCommit → World → Result (Unit {0}) HistoryFault → Type 0
CommitsTo before c after (Ok u) = IsCommitted before c before.volumes after
CommitsTo before c after (Err why) = (after ≡ before) × IfSome (cause why) (IsRefusedFor before c before.volumes)

-- the session of the job is written to the volumes, and each of its blocks is appended once
pub record AppendsSession (before : List Volume) (c : ToCommit) (after : List Volume) : Type 0 where
  pub written : Written
  pub is_written : IsWritten c.files c.row.session c.limit c.places (lengths_of before) written
  pub appended : AreAppended written.blocks before after

-- a commit appends the session of its job, and nothing else
abbrev pub AppendsIfCommit : List Volume → Event → List Volume → Type 0
AppendsIfCommit before (Commit c) after = AppendsSession before c after
AppendsIfCommit before event after = ⊤
