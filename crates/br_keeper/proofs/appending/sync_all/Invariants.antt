use Rattle.std.proofs.Common.{◌≡◌, take}
use Rattle.br_volume.specs.Store.{Lasts}
use Rattle.br_keeper.specs.Writing.{AreDurable, shelf}
use Rattle.br_keeper.proofs.appending.sync_all.Given as goal

-- the volumes of the spans so far are durable, and no call has failed
abbrev pub invariant-loop-at : goal.invariant-loop-at
invariant-loop-at g l =
    (shelf (g.W.VolumeStore.holds l.volumes) (g.W.VolumeStore.failures l.volumes) l.vouches
    ≡ shelf (g.W.VolumeStore.holds l.initial.volumes) (g.W.VolumeStore.failures l.initial.volumes) l.initial.vouches)
    × AreDurable (take l.at l.spans) (g.W.VolumeStore.holds l.volumes) (g.W.VolumeStore.durable l.volumes)
    × Lasts (g.W.VolumeStore.durable l.initial.volumes) (g.W.VolumeStore.durable l.volumes)
