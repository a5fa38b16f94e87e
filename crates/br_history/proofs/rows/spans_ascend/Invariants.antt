use Rattle.std.proofs.Common.{◌≡◌, take, true}
use Rattle.br_model.specs.Job.{overlaps, no_pair}
use Rattle.br_history.specs.Seen.{AreEnds}
use Rattle.br_history.proofs.rows.spans_ascend.Given as goal

-- the spans so far ascend, and the map has where those of each volume end
abbrev pub invariant-loop-span : goal.invariant-loop-span
invariant-loop-span l = (no_pair overlaps (take l.span-index l.spans) ≡ true) × AreEnds l.ends (take l.span-index l.spans)
