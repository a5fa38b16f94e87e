use Rattle.std.proofs.Common.{◌-◌, ◌^◌}
use Rattle.br_cli_target.proofs.searched_hits.append_found.Given as goal

abbrev pub decreases-loop-walk : goal.decreases-loop-walk
decreases-loop-walk g l = 2 ^ 63 - l.walk.addr
