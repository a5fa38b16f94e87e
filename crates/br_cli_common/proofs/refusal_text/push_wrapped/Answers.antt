use Rattle.std.proofs.Common.{rules, ◌≡◌, ◌∷◌, length, arith, ◌+◌}
use Rattle.br_cli_common.specs.RefusalText.{wrapped}
use Rattle.br_cli_common.proofs.WrapLaws.{broken, kept, all_written, shorter}
use Rattle.br_cli_common.proofs.refusal_text.push_wrapped.Goals as goal

pub loop-byte-preserved-in_ok-extend_from_slice : goal.loop-byte-preserved-in_ok-extend_from_slice
loop-byte-preserved-in_ok-extend_from_slice c =
    let parts : c.loop-byte.left.now ≡ c.in-Some.byte ∷ c.in-Some.rest.now = search rules in
    let less = shorter c.loop-byte.left.now c.in-Some.rest.now c.in-Some.byte parts in
    record {
      so_far = broken c.loop-byte.text.items c.extend_from_slice.new.self.items c.loop-byte.left.now c.in-Some.rest.now _ c.loop-byte.column c.in-Some.byte
          parts (search rules) c.in_ok-extend_from_slice.ensures.items c.loop-byte.invariant.so_far;
      room = omega (arith, less, c.loop-byte.invariant.left);
      left = omega (arith, less, c.loop-byte.invariant.left);
    }

pub loop-byte-preserved : goal.loop-byte-preserved
loop-byte-preserved c =
    let parts : c.loop-byte.left.now ≡ c.in-Some.byte ∷ c.in-Some.rest.now = search rules in
    let less = shorter c.loop-byte.left.now c.in-Some.rest.now c.in-Some.byte parts in
    record {
      so_far = kept c.loop-byte.text.items c.push.new.self.items c.loop-byte.left.now c.in-Some.rest.now _ c.loop-byte.column c.in-Some.byte
          parts (search rules) c.in_ok-push.ensures.items c.loop-byte.invariant.so_far;
      room = omega (arith, less, c.loop-byte.invariant.room);
      left = omega (arith, less, c.loop-byte.invariant.left);
    }

pub returns : goal.returns
returns c = all_written c.loop-byte.text.items c.loop-byte.left.now _ c.loop-byte.column (search rules) c.loop-byte.invariant.so_far
