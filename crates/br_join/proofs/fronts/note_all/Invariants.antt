use Rattle.std.proofs.Common.{take}
use Rattle.br_model.specs.Meaning.{Hits, with_hits}
use Rattle.br_join.specs.Front.{AreKnown}
use Rattle.br_join.proofs.fronts.note_all.Given as goal

-- the hits so far were noted
abbrev pub invariant-loop-hit : goal.invariant-loop-hit
invariant-loop-hit l = (held : Hits) → AreKnown held l.initial.tree → AreKnown (with_hits held (take l.hit-index l.hits)) l.tree
