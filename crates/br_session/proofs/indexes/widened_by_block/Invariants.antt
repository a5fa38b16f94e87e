use Rattle.std.proofs.Common.{◌≡◌, ◌++◌, fold}
use Rattle.br_model.specs.Block.{fragments_of}
use Rattle.br_session.specs.Spans.{indexes_of, with_index}
use Rattle.br_session.proofs.indexes.widened_by_block.Given as goal

-- the range of the fragments so far, and those that are left
abbrev pub invariant-loop-fragment : goal.invariant-loop-fragment
invariant-loop-fragment l = (l.range ≡ fold with_index l.initial.range (indexes_of l.yielded)) × (l.yielded ++ l.fragment-iterator ≡ fragments_of l.bytes)
