use Rattle.std.proofs.Common.{List, subst}
use Rattle.br_model.specs.Volume.{Volume}
use Rattle.br_cli_serve.specs.DriveCount.{EachShows}
use Rattle.br_cli_serve.proofs.DrivenLaws.{shown_restored}
use Rattle.br_cli_serve.proofs.driven_store.MemStoreVolumeReader.restore.Goals as goal

pub returns : goal.returns
returns g c =
    let drives = c.in_ok-drives.drives.items in
    record {
      restored =
          shown_restored c.args.self.now.volumes c.args.wanted drives c.restore_by.new.restore.drives.items (g.W.Write.contents c.args.writer.now)
          (g.W.Write.contents c.restore_by.new.writer) _ c.restore_by.result c.groups_are_valid.ensures c.in_ok-drives.ensures.many
          (subst (λ (volumes : List Volume). EachShows volumes drives) c.volumes.ensures c.in_ok-drives.ensures.each) c.restore_by.ensures.places
          c.restore_by.ensures.restored;
    }
