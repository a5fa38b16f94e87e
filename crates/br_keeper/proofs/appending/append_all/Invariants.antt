use Rattle.std.proofs.Common.{take}
use Rattle.br_history.specs.Preparing.{seen}
use Rattle.br_volume.specs.Store.{Lasts}
use Rattle.br_keeper.specs.Writing.{AreWritten, shelf}
use Rattle.br_keeper.proofs.appending.append_all.Given as goal

-- the blocks so far are appended
abbrev pub invariant-loop-block : goal.invariant-loop-block
invariant-loop-block g l =
    AreWritten (seen (take l.block-index l.blocks))
    (shelf (g.W.VolumeStore.holds l.initial.volumes) (g.W.VolumeStore.failures l.initial.volumes) l.initial.vouches)
    (shelf (g.W.VolumeStore.holds l.volumes) (g.W.VolumeStore.failures l.volumes) l.vouches)
    × Lasts (g.W.VolumeStore.durable l.initial.volumes) (g.W.VolumeStore.durable l.volumes)
