use Rattle.std.proofs.Common.{◌≡◌, ◌≤◌, ◌<◌, length, take, All}
use Rattle.br_sink.specs.Delivery.{items_in}
use Rattle.br_sink_folder.specs.FolderSink.{HasName, HasText}
use Rattle.br_sink_folder.specs.Held.{HoldsOver, IsNew}
use Rattle.br_sink_folder.specs.Window.{AreBelow}
use Rattle.br_sink_folder.specs.Below.{KeepsOutside}
use Rattle.br_sink_folder.proofs.folder_files.put_each.Given as goal

-- the files so far are counted, and those that are held open are among them
abbrev pub invariant-loop-outcome : goal.invariant-loop-outcome
invariant-loop-outcome g l =
    record {
      done : l.done ≡ length (items_in (take l.outcome-index l.outcomes));
      few : l.done ≤ l.outcome-index;
      room : length l.window.made.items < 16;
      below : AreBelow l.done l.window.made.items;
      outside : KeepsOutside l.root (g.M.FileMaker.nodes l.initial.maker) (g.M.FileMaker.nodes l.maker);
      held : HoldsOver (IsNew g.W.Write.contents l.root) l.root (items_in (take l.outcome-index l.outcomes)) l.window.made.items
          (g.M.FileMaker.nodes l.initial.maker) (g.M.FileMaker.nodes l.maker);
      text : All HasText (items_in (take l.outcome-index l.outcomes));
      name : All HasName (items_in (take l.outcome-index l.outcomes));
    }
