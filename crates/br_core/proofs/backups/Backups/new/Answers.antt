use Rattle.std.proofs.Common.{ap}
use Rattle.br_volume.specs.MemStore.{Stored}
use Rattle.br_core.proofs.BackupLaws.{no_backups}
use Rattle.br_core.proofs.backups.Backups.new.Goals as goal

pub invariant_of-result : goal.invariant_of-result
invariant_of-result c =
    let volumes = ap (λ (s : Stored). s.volumes) c.new-3.ensures in
    rw (c.new.ensures, c.new-2.ensures.items, volumes) no_backups
