use Rattle.std.proofs.Common.{◌≡◌, take}
use Rattle.br_keeper.specs.Vouching.{end_of_spans}
use Rattle.br_keeper.proofs.vouched_lengths.end_of_spans.Given as goal

-- the end of the spans so far
abbrev pub invariant-loop-span : goal.invariant-loop-span
invariant-loop-span l = l.end ≡ end_of_spans l.fn.vol (take l.span-index l.spans)
