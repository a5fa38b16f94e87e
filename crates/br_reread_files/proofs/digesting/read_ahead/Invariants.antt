use Rattle.std.proofs.Common.{◌≡◌, take}
use Rattle.br_join.specs.Plain.{plain_bytes}
use Rattle.br_records.specs.Records.{fragments}
use Rattle.br_data.specs.ManyDrives.{GoOn}
use Rattle.br_reread_files.specs.Digesting.{keys_of}
use Rattle.br_reread_parts.specs.Given.{GivesHits}
use Rattle.br_reread_parts.specs.Windows.{data_bytes}
use Rattle.br_reread_files.proofs.digesting.read_ahead.Given as goal

-- the hits so far were read, and their plain data kept; if all are given, they are the same
abbrev pub invariant-loop-hit : goal.invariant-loop-hit
invariant-loop-hit g l = record {
  on : GoOn l.fn.many l.many;
  keys : keys_of l.read.items ≡ keys_of (take l.hit-index l.hits);
  window : data_bytes l.window.items ≡ plain_bytes (fragments l.read.items);
  same : GivesHits l.fn.many l.hits → l.read.items ≡ take l.hit-index l.hits;
}
