use Rattle.std.proofs.Common.{refl}
use Rattle.br_keeper.proofs.HoldingLaws.{raw_stands}
use Rattle.br_keeper.proofs.keeper.Keeper.append_raw.Goals as goal

pub returns-clause-stands : goal.returns-clause-stands
returns-clause-stands g c =
    let k = c.self.inside in
    rw (← c.self.view_is)
    (raw_stands g.W.VolumeStore.holds g.W.VolumeStore.failures c.args.vol.now c.args.bytes.now
    (record { catalogue = k.catalogue; volumes = k.volumes; vouches = k.vouches.items; list = k.listing })
    (record { catalogue = k.catalogue; volumes = c.append.new.self; vouches = k.vouches.items; list = k.listing }) c.append.result c.append.ensures.appended c.append.ensures.refused refl)
