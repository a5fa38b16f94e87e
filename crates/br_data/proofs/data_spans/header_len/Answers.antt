use Rattle.std.proofs.Common.{arith, ap, sym, ◌∙◌}
use Rattle.br_model.specs.Block.{Header, header_length}
use Rattle.br_model.proofs.VolumeLaws.{header_reads}
use Rattle.br_data.proofs.data_spans.header_len.Goals as goal

pub returns-in-None-clause-same : goal.returns-in-None-clause-same
returns-in-None-clause-same c =
    let reads = header_reads c.args.block.now c.head-head.result c.head-head.ensures.header in
    ap header_length (sym (reads.session_is ∙ sym (ap (λ (h : Header). h.session) c.head.view_is) ∙ c.in-None.is))

pub returns-in-Some-clause-same : goal.returns-in-Some-clause-same
returns-in-Some-clause-same c =
    let reads = header_reads c.args.block.now c.head-head.result c.head-head.ensures.header in
    ap header_length (sym (reads.session_is ∙ sym (ap (λ (h : Header). h.session) c.head.view_is) ∙ c.in-Some.is))

pub returns-in-None-clause-within : goal.returns-in-None-clause-within
returns-in-None-clause-within c =
    let reads = header_reads c.args.block.now c.head-head.result c.head-head.ensures.header in
    omega (arith, reads.long, returns-in-None-clause-same c)

pub returns-in-Some-clause-within : goal.returns-in-Some-clause-within
returns-in-Some-clause-within c =
    let reads = header_reads c.args.block.now c.head-head.result c.head-head.ensures.header in
    omega (arith, reads.long, returns-in-Some-clause-same c)
