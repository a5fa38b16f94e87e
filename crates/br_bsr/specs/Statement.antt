-- Criteria, keywords and statements as the model has them.
use Rattle.std.specs.Prelude.{ℕ, List, ◌++◌, Result, Ok, Err}
use Rattle.br_model.specs.Bootstrap as model
use Rattle.br_bsr.specs.declared.criterion.Criterion.{Criterion}
use Rattle.br_bsr.specs.declared.criterion.Criterion.TheVariants.{SessionId, SessionTime, VolFile, VolBlock, VolAddr, FileIndex, Stream}

abbrev pub criterion_of : Criterion → model.Criterion
criterion_of SessionId = model.SessionId
criterion_of SessionTime = model.SessionTime
criterion_of VolFile = model.VolFile
criterion_of VolBlock = model.VolBlock
criterion_of VolAddr = model.VolAddr
criterion_of FileIndex = model.FileIndex
criterion_of Stream = model.Stream

abbrev pub range_between : ℕ × ℕ → model.Range
range_between ends = record { low = ends.0; high = ends.1 }

-- the ranges read before, and those read next; or the refusal
abbrev pub behind : List model.Range → Result (List model.Range) ℕ → Result (List model.Range) ℕ
behind ranges (Ok more) = Ok (ranges ++ more)
behind ranges (Err e) = Err e
