use Rattle.std.proofs.Common.{arith, flat_map, take, ◌∙◌}
use Rattle.br_model.specs.Text.{escaped, escaped_byte}
use Rattle.br_types.proofs.TextLaws.{pushed_more, pushed_all, kept_before, of_error}
use Rattle.br_types.proofs.escape.push_escaped.Goals as goal

pub loop-byte-preserved : goal.loop-byte-preserved
loop-byte-preserved c =
    pushed_more escaped_byte c.args.name.now c.loop-byte.byte-index 0 c.args.text.now.items c.loop-byte.text.items c.push_escaped_byte.new.text.items
    c.loop-byte-test.true c.loop-byte.invariant c.in_ok-push_escaped_byte.ensures.ok

pub returns-in_err-push_escaped_byte-clause-err : goal.returns-in_err-push_escaped_byte-clause-err
returns-in_err-push_escaped_byte-clause-err c =
    let so_far = flat_map escaped_byte (take c.loop-byte.byte-index c.args.name.now) in
    of_error c.from_residual.result (kept_before c.args.text.now.items so_far c.push_escaped_byte.new.text.items (c.in_err-push_escaped_byte.ensures.err ∙ c.loop-byte.invariant))

pub returns-in_err-push_escaped_byte-clause-reads_back : goal.returns-in_err-push_escaped_byte-clause-reads_back
returns-in_err-push_escaped_byte-clause-reads_back c = c.escaped_reads_back.ensures c.args.name.now (λ i. omega (arith, c.type_inv.name i))

pub returns-clause-ok : goal.returns-clause-ok
unfolding escaped
returns-clause-ok c = pushed_all escaped_byte c.args.name.now c.loop-byte.byte-index c.args.text.now.items c.loop-byte.text.items c.loop-byte-test.false c.loop-byte.invariant

pub returns-clause-reads_back : goal.returns-clause-reads_back
returns-clause-reads_back c = c.escaped_reads_back.ensures c.args.name.now (λ i. omega (arith, c.type_inv.name i))
