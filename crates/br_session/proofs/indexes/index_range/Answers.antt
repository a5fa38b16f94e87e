use Rattle.std.proofs.Common.{◌≡◌, ℕ, Vec, Global, map, flat_map, ap, ◌∙◌, List}
use Rattle.std.specs.Prelude.{unwrap_or, Option, Ok}
use Rattle.std.proofs.lemmas.List.{take_all}
use Rattle.br_model.specs.Block.{read_block, fragments_of}
use Rattle.br_session.specs.Spans.{indexes_of}
use Rattle.br_session.proofs.RangeLaws.{range_is, image_at}
use Rattle.br_session.proofs.indexes.index_range.Goals as goal

pub returns-clause-first : goal.returns-clause-first
returns-clause-first c =
    let all = take_all c.loop-block.block-index c.args.blocks.now c.loop-block-test.false in
    ap (λ (p : ℕ × ℕ). p.0) (c.unwrap_or.ensures ∙ ap (λ (o : Option (ℕ × ℕ)). unwrap_or o (0, 0)) (rw all at c.loop-block.invariant) ∙ range_is (indexes_of (flat_map fragments_of (map {A = Vec ℕ Global} {B = List ℕ} (λ b. b.items) c.args.blocks.now))))

pub returns-clause-last : goal.returns-clause-last
returns-clause-last c =
    let all = take_all c.loop-block.block-index c.args.blocks.now c.loop-block-test.false in
    ap (λ (p : ℕ × ℕ). p.1) (c.unwrap_or.ensures ∙ ap (λ (o : Option (ℕ × ℕ)). unwrap_or o (0, 0)) (rw all at c.loop-block.invariant) ∙ range_is (indexes_of (flat_map fragments_of (map {A = Vec ℕ Global} {B = List ℕ} (λ b. b.items) c.args.blocks.now))))

pub widened_by_block-range-requires : goal.widened_by_block-range-requires
widened_by_block-range-requires c =
    let readable = image_at (λ (b : List ℕ). read_block b ≡ Ok b) (λ b. b.items) c.args.blocks.now c.loop-block.block-index c.block-item.result c.requires c.loop-block-test.true in
    let same : c.deref.result.now ≡ _ = c.deref.ensures.value ∙ ap (λ b. b.items) c.block-item.is in
    rw same readable
