use Rattle.std.proofs.Common.{◌≡◌, ◌++◌}
use Rattle.br_model.specs.Block.{fragments_of}
use Rattle.br_data.proofs.SpanLaws.{SpansTo}
use Rattle.br_data.proofs.data_spans.spans_in.Given as goal

-- the data of the fragments so far are at their places
abbrev pub invariant-loop-fragment : goal.invariant-loop-fragment
invariant-loop-fragment l = SpansTo l.block l.yielded l.fragment-iterator l.end l.spans.items × (l.yielded ++ l.fragment-iterator ≡ fragments_of l.block)
