use Rattle.br_sink_folder.specs.Below.{AddsFolders}
use Rattle.br_sink_folder.specs.Way.{HasWayTo}
use Rattle.br_sink_folder.proofs.below_folder.make_way.Given as goal

-- nothing but folders was made, and those on the way so far are there
abbrev pub invariant-loop-at : goal.invariant-loop-at
invariant-loop-at g l =
    record {
      added : AddsFolders l.root (g.M.FileMaker.nodes l.initial.maker) (g.M.FileMaker.nodes l.maker);
      way : HasWayTo l.root l.path l.at (g.M.FileMaker.nodes l.maker);
    }
