use Rattle.std.proofs.Common.{◌≡◌, ◌≤◌, vec_len, vec_capacity}
use Rattle.br_volume.specs.HostDrives.{AreOver, AreUntold}
use Rattle.br_volume.proofs.host_drives.drives_over.Given as goal

abbrev pub invariant-loop-drive : goal.invariant-loop-drive
invariant-loop-drive l = record {
  many : vec_len l.drives ≡ l._drive;
  room : l.count ≤ vec_capacity l.drives;
  over : AreOver l.volumes l.drives.items;
  untold : AreUntold l.drives.items;
}
