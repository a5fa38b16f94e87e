use Rattle.std.proofs.Common.{◌≡◌, ◌-◌, ◌≤◌, take, vec_len}
use Rattle.br_fs.specs.Calls.{StaysSteady}
use Rattle.br_fs.specs.Read.{IsFront}
use Rattle.br_fs.proofs.file_reading.read_from.Given as goal

abbrev pub invariant-loop-done : goal.invariant-loop-done
invariant-loop-done g l = record {
  below : l.done ≤ l.wanted;
  inside : l.done ≤ vec_len l.buf;
  front : IsFront (g.D.Disk.told l.disk) (g.D.Disk.path_of l.file) l.addr (take l.done l.buf.items);
  same : g.D.Disk.told l.disk ≡ g.D.Disk.told l.initial.disk;
  steady : StaysSteady (g.D.Disk.steady l.initial.disk) (g.D.Disk.steady l.disk);
}

abbrev pub decreases-loop-done : goal.decreases-loop-done
decreases-loop-done g l = l.wanted - l.done
