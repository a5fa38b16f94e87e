-- A job that can be committed, before anything is written.
use Rattle.std.specs.Prelude.{◌≡◌, List, Result, Ok, Err, ⊤}
use Rattle.br_model.specs.Job.{JobRows}
use Rattle.br_history.specs.Preparing.{AreTooLong, HasSession, seen}
use Rattle.br_history.specs.Saving.{ToCommit}
use Rattle.br_history.specs.Taken.{admitted}
use Rattle.br_history.specs.declared.fault.HistoryFault.{HistoryFault}
use Rattle.br_history.specs.declared.fault.HistoryFault.TheVariants.{Memory, DuplicateJob, DuplicateSession, BadRow}
use Rattle.br_keeper.specs.declared.vouched_lengths.Vouch.{Vouch}
use Rattle.br_keeper.specs.declared.prepared.Prepared.{Prepared}
use Rattle.br_keeper.specs.Vouching.{starts_of}

-- a job of which the row can be appended to the history, and its session from the vouched lengths on
pub record IsPrepared (vouches : List Vouch) (history : List JobRows) (c : ToCommit) (p : Prepared) : Type 0 where
  pub admits : admitted history c.row ≡ Ok history
  pub starts_are : p.starts.items ≡ starts_of vouches history c.places
  pub session : HasSession c (starts_of vouches history c.places) p.rows (seen p.blocks.items)

-- The job is prepared; or its number or its session is in the history; or a span would end too
-- late. If memory runs out, nothing is claimed.
abbrev pub Prepares : List Vouch → List JobRows → ToCommit → Result Prepared HistoryFault → Type 0
Prepares vouches history c (Ok p) = IsPrepared vouches history c p
Prepares vouches history c (Err Memory) = ⊤
Prepares vouches history c (Err DuplicateJob) = admitted history c.row ≡ Err 40
Prepares vouches history c (Err DuplicateSession) = admitted history c.row ≡ Err 41
Prepares vouches history c (Err BadRow) = (admitted history c.row ≡ Ok history) × AreTooLong c (starts_of vouches history c.places)
