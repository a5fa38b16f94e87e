use Rattle.std.proofs.Common.{◌≡◌, length}
use Rattle.br_cli_target.proofs.lost_volumes.unread_of.Given as goal

-- there is a flag for each group
abbrev pub invariant-loop-piece : goal.invariant-loop-piece
invariant-loop-piece l = length l.unread.flags.items ≡ length l.bootstrap
