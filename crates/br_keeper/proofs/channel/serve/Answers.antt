use Rattle.br_keeper.specs.Keeping.{shelf_of}
use Rattle.br_keeper.specs.Outcomes.{lasting}
use Rattle.br_keeper.proofs.ServedLaws.{goes_on, served, served_on}
use Rattle.br_keeper.proofs.channel.serve.Goals as goal

pub loop-preserved : goal.loop-preserved
loop-preserved g c =
    let shelf = shelf_of g.W.VolumeStore.holds g.W.VolumeStore.failures in
    let old = c.loop.keeper in
    let new = c.answer.new.keeper in
    let job = c.in-Ok.ask.job in
    let is = c.answer.ensures.commit in (
      goes_on (lasting g.C.JobStore g.W.VolumeStore) c.args.keeper old new job c.answer.result.receipt c.loop.invariant.0 is,
      served_on c.args.keeper.list old.list new.list c.loop.invariant.1
          (served g.C.JobStore.inserts g.C.JobStore.refuses shelf job old new c.answer.result.receipt is.0),
    )
