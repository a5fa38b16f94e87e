use Rattle.std.proofs.Common.{take}
use Rattle.br_sink_folder.specs.OtherPaths.{Has, paths_in}
use Rattle.br_sink_folder.proofs.known_paths.known_of.Given as goal

-- the paths of the outcomes so far are known
abbrev pub invariant-loop-key : goal.invariant-loop-key
invariant-loop-key l = Has l.known (paths_in (take l.key-index l.outcomes))
