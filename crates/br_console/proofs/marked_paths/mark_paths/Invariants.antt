use Rattle.std.proofs.Common.{take}
use Rattle.br_console.specs.MarkedPaths.{texts}
use Rattle.br_console.proofs.PathsLaws.{HasMarked}
use Rattle.br_console.proofs.marked_paths.mark_paths.Given as goal

-- what the patterns so far mark and miss
abbrev pub invariant-loop-pattern : goal.invariant-loop-pattern
invariant-loop-pattern l = HasMarked l.initial.tree l.tree (texts l.missed.items) (texts (take l.pattern-index l.patterns))
