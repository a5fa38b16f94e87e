use Rattle.std.proofs.Common.{◌≡◌, ◌≤◌, length, take}
use Rattle.br_sink.specs.Delivery.{items_in}
use Rattle.br_sink_folder.specs.Below.{KeepsOutside}
use Rattle.br_sink_folder.specs.Resuming.{KeepsWhole, LeavesLike}
use Rattle.br_sink_folder.specs.Way.{MakesFolders}
use Rattle.br_sink_folder.proofs.resumed_delivery.put_each.Given as goal

-- the files of the outcomes so far are counted, files like these and the folders were put, and those that were
-- whole stayed
abbrev pub invariant-loop-outcome : goal.invariant-loop-outcome
invariant-loop-outcome g l =
    let items = items_in (take l.outcome-index l.outcomes) in
    record {
      done : l.done ≡ length items;
      few : l.done ≤ l.outcome-index;
      counted : l.initial.sink.failures ≤ l.sink.failures;
      path : l.sink.path ≡ l.initial.sink.path;
      files : LeavesLike l.initial.sink.path items l.initial.sink.nodes l.sink.nodes;
      folders : MakesFolders l.initial.sink.path items l.sink.nodes;
      stays : KeepsWhole l.initial.sink.path items l.initial.sink.nodes l.sink.nodes;
      outside : KeepsOutside l.initial.sink.path l.initial.sink.nodes l.sink.nodes;
    }
