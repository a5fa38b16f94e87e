use Rattle.std.proofs.Common.{ap}
use Rattle.br_keeper.proofs.HoldingLaws.{republished_stands}
use Rattle.br_keeper.proofs.OutlastingLaws.{republished_same}
use Rattle.br_keeper.proofs.keeper.Keeper.republish.Goals as goal

pub returns-clause-stands : goal.returns-clause-stands
returns-clause-stands g c =
    republished_stands g.W.VolumeStore.holds g.W.VolumeStore.failures c.args.self.now c.publish_waiting.new.self c.publish_waiting.result c.publish_waiting.ensures

pub returns-clause-settled : goal.returns-clause-settled
returns-clause-settled g c =
    ap g.W.VolumeStore.durable (republished_same c.args.self.now c.publish_waiting.new.self c.publish_waiting.result c.publish_waiting.ensures)
