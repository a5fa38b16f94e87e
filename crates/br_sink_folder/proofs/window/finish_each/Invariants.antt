use Rattle.std.specs.Prelude.{◌≡◌, ℕ, List, Option, length, take, drop}
use Rattle.br_model.specs.File.{Item}
use Rattle.br_fs.specs.Making.{Nodes}
use Rattle.br_sink_folder.specs.Below.{KeepsOutside}
use Rattle.br_sink_folder.specs.Held.{HoldsOver, IsWritten}
use Rattle.br_sink_folder.specs.Removed.{files_of}
use Rattle.br_sink_folder.specs.Window.{AreBelow}
use Rattle.br_sink_folder.proofs.HeldLaws.{ClosesOver}
use Rattle.br_sink_folder.proofs.window.finish_each.Given as goal

-- places and paths stay, nothing outside was changed, and of the written files those are finished that were
-- closed, unless their result is a fault
abbrev pub invariant-loop-i : goal.invariant-loop-i
invariant-loop-i g l =
    record {
      below : (n : ℕ) → AreBelow n l.initial.made → AreBelow n l.made;
      outside : KeepsOutside l.root (g.M.FileMaker.nodes l.initial.maker) (g.M.FileMaker.nodes l.maker);
      files : files_of l.made ≡ files_of l.initial.made;
      long : length l.made ≡ length l.initial.made;
      held : (items : List Item) (nodes : Option Nodes)
          → HoldsOver (IsWritten g.W.Write.contents l.root) l.root items l.initial.made nodes (g.M.FileMaker.nodes l.initial.maker)
          → ClosesOver g.W.Write.contents l.root items (take l.i l.made) (drop l.i l.made) nodes (g.M.FileMaker.nodes l.maker);
    }
