use Rattle.std.proofs.Common.{◌≡◌, take}
use Rattle.br_volume.specs.Memory.{volumes_of}
use Rattle.br_volume.proofs.mem_store.copied.Given as goal

-- the volumes so far
abbrev pub invariant-loop-volume : goal.invariant-loop-volume
invariant-loop-volume l = volumes_of l.copy.items ≡ volumes_of (take l.volume-index l.volumes)
