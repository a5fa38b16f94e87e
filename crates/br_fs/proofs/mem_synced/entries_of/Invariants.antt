use Rattle.std.proofs.Common.{◌≡◌, take}
use Rattle.br_fs.specs.Memory.{entries_in, kept_files}
use Rattle.br_fs.proofs.mem_synced.entries_of.Given as goal

-- the entries so far
abbrev pub invariant-loop-file : goal.invariant-loop-file
invariant-loop-file l = l.entries.items ≡ entries_in l.folder (kept_files (take l.file-index l.files))
