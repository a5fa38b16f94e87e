use Rattle.std.proofs.Common.{◌≡◌, map, take}
use Rattle.std.specs.List.{AllByRecursion, AllZip}
use Rattle.br_join.specs.Outcome.{restored}
use Rattle.br_data.specs.ManyDrives.{GoOn}
use Rattle.br_sink.specs.Delivery.{items_in}
use Rattle.br_reread_files.specs.Again.{IsLike, IsMadeOf}
use Rattle.br_reread_parts.specs.Given.{GivesHits}
use Rattle.br_reread_files.proofs.files_once_more.made_once_more.Given as goal

-- the files so far were made once more; if all are given, they are the same
abbrev pub invariant-loop-key : goal.invariant-loop-key
invariant-loop-key g l = record {
  on : GoOn l.initial.many l.many;
  like : AllZip IsLike (items_in l.files.items) (items_in (take l.key-index l.outcomes));
  same : GivesHits l.initial.many l.hits → AllByRecursion (IsMadeOf l.hits) (map restored l.outcomes)
      → items_in l.files.items ≡ items_in (take l.key-index l.outcomes);
}
