use Rattle.std.proofs.Common.{◌≡◌, take}
use Rattle.br_history.proofs.rows.copied_spans.Given as goal

-- the spans so far
abbrev pub invariant-loop-span : goal.invariant-loop-span
invariant-loop-span l = l.copy.items ≡ take l.span-index l.spans
