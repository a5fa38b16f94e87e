use Rattle.std.proofs.Common.{length}
use Rattle.br_tree.proofs.sums.+count_before.Given as goal

abbrev pub decreases-count_before : goal.decreases-count_before
decreases-count_before l = length l.sums.now
