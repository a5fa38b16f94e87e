use Rattle.std.proofs.Common.{◌≡◌, ◌≤◌, ◌+◌, vec_len, vec_capacity}
use Rattle.br_cli_target.proofs.watched_restore.watched_drives.Given as goal

-- each drive so far is watched, and there is room for the others
abbrev pub invariant-loop-drive : goal.invariant-loop-drive
invariant-loop-drive g l = record {
  count : vec_len l.watched + l.drive-iterator.rest.len ≡ vec_len l.fn.drives;
  room : vec_len l.fn.drives ≤ vec_capacity l.watched;
}
