use Rattle.std.specs.Prelude.{Some}
use Rattle.br_data.specs.KnownBlocks.{IsKnown}
use Rattle.br_test_formats.proofs.again.read_all.Given as goal

-- the drive shows the block that was read last
abbrev pub invariant-loop-place : goal.invariant-loop-place
invariant-loop-place l = IsKnown (Some l.drive.volumes) l.again
