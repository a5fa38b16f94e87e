use Rattle.std.proofs.Common.{◌≡◌, length, refl, ap, ◌∙◌, arith}
use Rattle.br_block.proofs.BuildingLaws.{no_fragments}
use Rattle.br_block.proofs.builder.BlockBuilder.new.Goals as goal

alone : (c : goal.In_ok-extend_from_slice) → length c.extend_from_slice.new.self.items ≡ 24
alone c = ap length (c.in_ok-extend_from_slice.ensures.items) ∙ rw c.in_ok-bytes.ensures.items refl

pub invariant_of-result : goal.invariant_of-result
invariant_of-result c = (no_fragments c.args.session c.args.limit c.args.number c.extend_from_slice.new.self.items (omega arith) (alone c) (omega (arith, c.requires.bounds)) c.requires.bounds.1).0

pub returns : goal.returns
returns c = rw (no_fragments c.args.session c.args.limit c.args.number c.extend_from_slice.new.self.items (omega arith) (alone c) (omega (arith, c.requires.bounds)) c.requires.bounds.1).1 refl
