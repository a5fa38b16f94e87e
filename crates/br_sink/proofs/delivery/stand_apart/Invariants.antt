use Rattle.std.proofs.Common.{◌≡◌, ◌≤◌, [], length, take}
use Rattle.br_sink.specs.Delivery.{AreApart, items_in}
use Rattle.br_types.specs.Conflicts.{Noted}
use Rattle.br_sink.proofs.DeliveryLaws.{paths_behind}
use Rattle.br_sink.proofs.delivery.stand_apart.Given as goal

-- the files of the outcomes so far are apart, and they are noted
abbrev pub invariant-loop-outcome : goal.invariant-loop-outcome
invariant-loop-outcome l =
    let items = items_in (take l.outcome-index l.outcomes) in
    record {
      place : l.place ≡ l.outcome-index;
      many : l.files ≡ length items;
      few : l.files ≤ l.outcome-index;
      apart : AreApart items;
      noted : Noted l.ways (paths_behind [] items);
    }
