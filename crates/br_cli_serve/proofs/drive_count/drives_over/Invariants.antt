use Rattle.std.proofs.Common.{◌≡◌, ◌≤◌, vec_len, vec_capacity}
use Rattle.br_volume.specs.Memory.{volumes_of}
use Rattle.br_cli_serve.specs.DriveCount.{EachShows}
use Rattle.br_cli_serve.proofs.drive_count.drives_over.Given as goal

abbrev pub invariant-loop-drive : goal.invariant-loop-drive
invariant-loop-drive l = record {
  many : vec_len l.drives ≡ l._drive;
  room : l.fn.count ≤ vec_capacity l.drives;
  each : EachShows (volumes_of l.volumes) l.drives.items;
}
