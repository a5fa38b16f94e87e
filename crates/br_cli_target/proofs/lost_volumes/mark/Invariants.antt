use Rattle.std.proofs.Common.{◌≡◌, drop, length}
use Rattle.br_cli_target.specs.LostVolumes.{marked}
use Rattle.br_cli_target.proofs.lost_volumes.mark.Given as goal

-- the flags so far, and those of the groups that are left
abbrev pub invariant-loop-number : goal.invariant-loop-number
invariant-loop-number l = record {
  marked : marked (drop l.number-index l.groups) l.flags.items ≡ marked l.groups l.initial.flags.items;
  many : length l.flags.items ≡ length l.initial.flags.items;
}
