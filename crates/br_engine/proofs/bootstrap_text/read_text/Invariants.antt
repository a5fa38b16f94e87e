use Rattle.std.proofs.Common.{◌≡◌, ◌-◌, ◌^◌, false}
use Rattle.std.specs.Io.KnownBytes.{Consumes}
use Rattle.br_engine.specs.BootstrapText.{has_long_end}
use Rattle.br_engine.proofs.bootstrap_text.read_text.Given as goal

-- what was read so far, whose last line is not too long yet
abbrev pub invariant-loop-text : goal.invariant-loop-text
invariant-loop-text g l =
    Consumes (g.R.Read.remaining l.initial.reader) (g.R.Read.remaining l.reader) l.text.items × (has_long_end l.text.items ≡ false)

-- the turns that are left
abbrev pub decreases-loop-text : goal.decreases-loop-text
decreases-loop-text g l = 2 ^ 40 - l.turns
