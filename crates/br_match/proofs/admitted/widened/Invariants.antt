use Rattle.br_match.proofs.RangeLaws.{IsWidened}
use Rattle.br_match.proofs.admitted.widened.Given as goal

abbrev pub invariant-loop-range : goal.invariant-loop-range
invariant-loop-range l = IsWidened l.sorted l.range-index l.greatest l.widened.items
