use Rattle.std.proofs.Common.{◌≡◌, None, map, fold, flat_map, take}
use Rattle.br_model.specs.Block.{fragments_of}
use Rattle.br_session.specs.Spans.{indexes_of, with_index}
use Rattle.br_session.proofs.indexes.index_range.Given as goal

-- the range of the blocks so far
abbrev pub invariant-loop-block : goal.invariant-loop-block
invariant-loop-block l = l.range ≡ fold with_index None (indexes_of (flat_map fragments_of (map (λ b. b.items) (take l.block-index l.blocks))))
