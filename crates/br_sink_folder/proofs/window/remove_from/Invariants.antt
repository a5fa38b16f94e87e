use Rattle.std.specs.Prelude.{take}
use Rattle.br_sink_folder.specs.Below.{KeepsOutside}
use Rattle.br_sink_folder.specs.Removed.{AreRemoved, files_of}
use Rattle.br_sink_folder.specs.Stopped.{KeepsBefore}
use Rattle.br_sink_folder.proofs.window.remove_from.Given as goal

-- those that were looked at are removed, nothing outside was changed, and no other paths
abbrev pub invariant-loop-one : goal.invariant-loop-one
invariant-loop-one g l =
    record {
      removed : AreRemoved g.M.Remover.is_refused l.root l.place (files_of (take l.one-index l.made)) (g.M.FileMaker.nodes l.maker);
      kept : KeepsBefore l.root l.place (files_of (take l.one-index l.made)) (g.M.FileMaker.nodes l.initial.maker) (g.M.FileMaker.nodes l.maker);
      outside : KeepsOutside l.root (g.M.FileMaker.nodes l.initial.maker) (g.M.FileMaker.nodes l.maker);
    }
