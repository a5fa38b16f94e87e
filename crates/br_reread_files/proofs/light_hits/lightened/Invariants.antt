use Rattle.std.proofs.Common.{◌≡◌}
use Rattle.br_reread_files.proofs.light_hits.lightened.Given as goal

abbrev pub invariant-loop-i : goal.invariant-loop-i
invariant-loop-i l = l.light.items ≡ l.fn.hits.items
