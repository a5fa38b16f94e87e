use Rattle.std.proofs.Common.{◌≡◌, ◌≤◌, take}
use Rattle.std.specs.List.{AllByRecursion}
use Rattle.br_keeper.specs.Writing.{IsVouched}
use Rattle.br_keeper.proofs.appending.check_volumes.Given as goal

-- the volumes so far may be written to, none is changed, and no call has failed
abbrev pub invariant-loop-start : goal.invariant-loop-start
invariant-loop-start g l =
    (g.W.VolumeStore.holds l.volumes ≡ g.W.VolumeStore.holds l.initial.volumes)
    × ((g.W.VolumeStore.failures l.initial.volumes).number ≤ (g.W.VolumeStore.failures l.volumes).number)
    × AllByRecursion (IsVouched l.vouches (g.W.VolumeStore.holds l.initial.volumes)) (take l.start-index l.starts)
    × (g.W.VolumeStore.durable l.volumes ≡ g.W.VolumeStore.durable l.initial.volumes)
    × (g.W.VolumeStore.failures l.volumes ≡ g.W.VolumeStore.failures l.initial.volumes)
