use Rattle.std.proofs.Common.{◌≡◌, take}
use Rattle.br_join.specs.Plain.{plain_bytes}
use Rattle.br_records.specs.Records.{fragments}
use Rattle.br_data.specs.ManyDrives.{GoOn}
use Rattle.br_reread_parts.specs.Given.{GivesHits}
use Rattle.br_reread_parts.specs.Windows.{data_bytes}
use Rattle.br_reread_parts.proofs.file_windows.read_window.Given as goal

-- the plain data of the hits so far were read
abbrev pub invariant-loop-hit : goal.invariant-loop-hit
invariant-loop-hit g l = record {
  on : GoOn l.fn.many l.many;
  same : GivesHits l.fn.many l.hits → data_bytes l.window.items ≡ plain_bytes (fragments (take l.hit-index l.hits));
}
