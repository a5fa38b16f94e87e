use Rattle.std.proofs.Common.{◌≡◌, take, true}
use Rattle.br_model.specs.Job.{same_file, no_pair}
use Rattle.br_history.specs.Seen.{AreSeen}
use Rattle.br_history.proofs.rows.indexes_differ.Given as goal

-- the rows so far have no index twice, and the set has those above 0
abbrev pub invariant-loop-file : goal.invariant-loop-file
invariant-loop-file l = (no_pair same_file (take l.file-index l.files) ≡ true) × AreSeen l.seen (take l.file-index l.files)
