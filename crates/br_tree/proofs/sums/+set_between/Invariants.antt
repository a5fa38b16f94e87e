use Rattle.std.proofs.Common.{length}
use Rattle.br_tree.proofs.sums.+set_between.Given as goal

abbrev pub decreases-set_between : goal.decreases-set_between
decreases-set_between l = length l.sums.now
