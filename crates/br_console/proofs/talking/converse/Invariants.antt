use Rattle.std.proofs.Common.{◌≡◌, ◌-◌, ◌^◌}
use Rattle.br_console.proofs.TalkLaws.{SoFar}
use Rattle.br_console.proofs.talking.converse.Given as goal

-- what was written so far and what is left give the whole, and what was written is flushed
abbrev pub invariant-loop-line : goal.invariant-loop-line
invariant-loop-line g l =
    SoFar (g.R.Read.remaining l.initial.reader) (g.R.Read.remaining l.reader) (g.W.Write.contents l.initial.writer) (g.W.Write.contents l.writer) l.initial.console l.console l.is_clean
    × (l.console.view ≡ l.initial.console.view)
    × g.W.Flush.is_flushed l.writer

-- the turns that are left
abbrev pub decreases-loop-line : goal.decreases-loop-line
decreases-loop-line g l = 2 ^ 40 - l.turns
