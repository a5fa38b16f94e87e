use Rattle.std.proofs.Common.{◌≡◌, take}
use Rattle.std.specs.List.{AllByRecursion}
use Rattle.br_model.specs.Meaning.{Hit}
use Rattle.br_data.specs.ManyDrives.{GoOn}
use Rattle.br_reread_parts.specs.Given.{GivesHits}
use Rattle.br_reread_files.proofs.rereading.read_hits.Given as goal

-- the hits so far were read; if all are given, they are the same
abbrev pub invariant-loop-hit : goal.invariant-loop-hit
invariant-loop-hit g l = record {
  on : GoOn l.initial.many l.many;
  keys : AllByRecursion (λ (h : Hit). h.key ≡ l.fn.key) l.read.items;
  same : GivesHits l.initial.many l.hits → l.read.items ≡ take l.hit-index l.hits;
}
