use Rattle.br_volume.proofs.SyncLaws.{lasts_more, lasts_settled}
use Rattle.br_keeper.proofs.appending.write_blocks.Goals as goal

pub returns-clause-lasts : goal.returns-clause-lasts
returns-clause-lasts g c =
    let durable = g.W.VolumeStore.durable in
    lasts_settled (durable c.args.volumes.now) (durable c.check_volumes.new.volumes) (durable c.sync_all.new.volumes) c.check_volumes.ensures.settled
    (lasts_more (durable c.check_volumes.new.volumes) (durable c.append_all.new.volumes) (durable c.sync_all.new.volumes) c.append_all.ensures.lasts
    c.sync_all.ensures.lasts)
