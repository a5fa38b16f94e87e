use Rattle.br_cli_serve.proofs.VolumesLaws.{restored_untold}
use Rattle.br_cli_serve.proofs.folder_volumes.FolderReaderVolumeReader.restore.Goals as goal

pub returns : goal.returns
returns g c = record {
  restored =
      restored_untold c.args.wanted _ c.in_ok-drives.drives.items c.restore_by.new.restore.drives.items (g.W.Write.contents c.args.writer.now)
      (g.W.Write.contents c.restore_by.new.writer) _ c.restore_by.result c.in_ok-drives.ensures.many c.in_ok-drives.ensures.untold c.restore_by.ensures.places
      c.restore_by.ensures.restored;
}
