use Rattle.br_keeper.proofs.HoldingLaws.{new_stands}
use Rattle.br_keeper.proofs.keeper.Keeper.new.Goals as goal

pub returns-clause-stands : goal.returns-clause-stands
returns-clause-stands g c =
    new_stands g.W.VolumeStore.holds g.W.VolumeStore.failures
    (record { catalogue = c.load_history.new.self; volumes = c.args.volumes; vouches = c.new-2.result.items; list = c.in_ok-listing.listing }) c.new-2.ensures.items
