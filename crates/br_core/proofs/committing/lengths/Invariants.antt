use Rattle.std.proofs.Common.{◌≡◌, take}
use Rattle.br_volume.specs.Memory.{volumes_of}
use Rattle.br_core.specs.Machine.{lengths_of}
use Rattle.br_core.proofs.committing.lengths.Given as goal

-- the lengths so far
abbrev pub invariant-loop-volume : goal.invariant-loop-volume
invariant-loop-volume l = l.lengths.items ≡ lengths_of (volumes_of (take l.volume-index l.volumes))
