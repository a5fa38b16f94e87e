use Rattle.std.proofs.Common.{◌≡◌, ◌-◌, ◌≤◌, length}
use Rattle.br_fs.specs.Durable.{Lasts}
use Rattle.br_fs.proofs.AppendLaws.{HasWritten}
use Rattle.br_fs.proofs.file_appending.append_some.Given as goal

abbrev pub invariant-loop-done : goal.invariant-loop-done
invariant-loop-done g l = record {
  below : l.done ≤ length l.bytes;
  file : g.D.Disk.path_of l.file ≡ g.D.Disk.path_of l.initial.file;
  written : HasWritten (g.D.Disk.told l.initial.disk) (g.D.Disk.told l.disk) (g.D.Disk.path_of l.initial.file) l.bytes l.done;
  lasts : Lasts (g.D.Disk.durable l.initial.disk) (g.D.Disk.durable l.disk);
}

abbrev pub decreases-loop-done : goal.decreases-loop-done
decreases-loop-done g l = length l.bytes - l.done
