use Rattle.std.proofs.Common.{◌≡◌, take}
use Rattle.br_reread_files.proofs.file_hits.all_shared.Given as goal

-- the hits so far
abbrev pub invariant-loop-hit : goal.invariant-loop-hit
invariant-loop-hit l = l.all.items ≡ take l.hit-index l.hits
