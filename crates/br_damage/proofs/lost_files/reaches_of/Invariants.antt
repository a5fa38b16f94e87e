use Rattle.std.proofs.Common.{◌≡◌, ◌++◌, drop}
use Rattle.br_damage.specs.LostFiles.{reaches_from}
use Rattle.br_damage.proofs.lost_files.reaches_of.Given as goal

-- the ends so far, and those of the spans that are left
abbrev pub invariant-loop-span : goal.invariant-loop-span
invariant-loop-span l = l.reaches.items ++ reaches_from l.greatest (drop l.span-index l.spans) ≡ reaches_from 0 l.spans
