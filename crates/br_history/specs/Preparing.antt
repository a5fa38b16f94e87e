-- The session and the rows of a job, before anything is written.
use Rattle.std.specs.Prelude.{◌≡◌, ℕ, ◌<◌, ◌^◌, ◌⊎◌, List, map, Result, Ok, Err}
use Rattle.std.specs.Global.{Vec}
use Rattle.br_model.specs.Job.{Span, JobRows, Job, IsJob}
use Rattle.br_model.specs.Session.{ToSave, Written, IsWritten, rows_of}
use Rattle.br_session.specs.Outcome.{AreSpansRefused, SessionHolds}
use Rattle.br_history.specs.Saving.{ToCommit, IsToCommit}
use Rattle.br_history.specs.declared.fault.HistoryFault.{HistoryFault}
use Rattle.br_history.specs.declared.fault.HistoryFault.TheVariants.{Memory, BadRow}

-- the rows of the job in the catalogue, if its spans are these
abbrev pub job_rows : ToCommit → List Span → JobRows
job_rows c spans = rows_of c.row c.files c.deleted spans

-- the job, if its spans are these
abbrev pub job_of : ToCommit → List Span → Job
job_of c spans = record { rows = job_rows c spans; saved = map (λ (f : ToSave). f.file) c.files }

-- the session of the job is written to volumes of these lengths
pub record IsJobWritten (c : ToCommit) (starts : List (List ℕ × ℕ)) (written : Written) : Type 0 where
  pub is_written : IsWritten c.files c.row.session c.limit c.places starts written
  pub holds : SessionHolds c.files c.row.session c.places starts written

-- a span would end too far, or there would be too many of them
abbrev pub AreTooLong : ToCommit → List (List ℕ × ℕ) → Type 0
AreTooLong c starts = AreSpansRefused c.files c.row.session c.limit c.places starts

-- it is written, unless a span would end too far, or memory runs out
abbrev pub WritesJob : ToCommit → List (List ℕ × ℕ) → Result Written HistoryFault → Type 0
WritesJob c starts (Ok written) = IsJobWritten c starts written
WritesJob c starts (Err why) = (why ≡ Memory) ⊎ ((why ≡ BadRow) × AreTooLong c starts)

-- the job can be committed, and the numbers of its session are of 32 bits
pub record IsInRange (c : ToCommit) : Type 0 where
  pub commits : IsToCommit c
  pub id_fits : c.row.session.id < 2 ^ 32
  pub time_fits : c.row.session.time < 2 ^ 32

-- the session of the job was written to volumes of these lengths, and these are its rows
pub record IsSession (c : ToCommit) (starts : List (List ℕ × ℕ)) (rows : JobRows) (written : Written) : Type 0 where
  pub is_written : IsJobWritten c starts written
  pub rows_are : rows ≡ job_rows c written.spans
  pub is_job : IsJob (job_of c written.spans)
  pub in_range : IsInRange c

-- the session with these blocks
pub record HasSession (c : ToCommit) (starts : List (List ℕ × ℕ)) (rows : JobRows) (blocks : List (List ℕ × List ℕ)) : Type 0 where
  pub written : Written
  pub blocks_are : blocks ≡ written.blocks
  pub is_session : IsSession c starts rows written

-- what is seen of blocks
abbrev pub seen : List (List ℕ × Vec ℕ) → List (List ℕ × List ℕ)
seen blocks = map (λ (b : List ℕ × Vec ℕ). (b.0, b.1.items)) blocks

-- the session, unless a span would end too far, or memory runs out
abbrev pub MakesSession : ToCommit → List (List ℕ × ℕ) → Result (JobRows × Vec (List ℕ × Vec ℕ)) HistoryFault → Type 0
MakesSession c starts (Ok p) = HasSession c starts p.0 (seen p.1.items)
MakesSession c starts (Err why) = (why ≡ Memory) ⊎ ((why ≡ BadRow) × AreTooLong c starts)
