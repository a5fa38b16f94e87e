use Rattle.std.proofs.Common.{◌≡◌}
use Rattle.br_fs.specs.Durable.{Lasts}
use Rattle.br_fs.proofs.file_appending.write_some.Given as goal

abbrev pub invariant-loop : goal.invariant-loop
invariant-loop g l = record {
  same : g.D.Disk.told l.disk ≡ g.D.Disk.told l.initial.disk;
  file : g.D.Disk.path_of l.file ≡ g.D.Disk.path_of l.initial.file;
  lasts : Lasts (g.D.Disk.durable l.initial.disk) (g.D.Disk.durable l.disk);
}
