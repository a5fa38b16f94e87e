use Rattle.std.proofs.Common.{◌≡◌}
use Rattle.br_fs.proofs.ReadLaws.{IsQuieter}
use Rattle.br_fs.proofs.file_reading.read_some.Given as goal

abbrev pub invariant-loop : goal.invariant-loop
invariant-loop g l = record {
  same : g.D.Disk.told l.disk ≡ g.D.Disk.told l.initial.disk;
  steady : IsQuieter l.counter (g.D.Disk.steady l.initial.disk) (g.D.Disk.steady l.disk);
}
