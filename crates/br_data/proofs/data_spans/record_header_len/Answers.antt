use Rattle.std.proofs.Common.{ap, sym, ◌∙◌}
use Rattle.br_model.specs.Block.{Header, record_header_length}
use Rattle.br_model.proofs.VolumeLaws.{header_reads}
use Rattle.br_data.proofs.data_spans.record_header_len.Goals as goal

pub returns-in-None : goal.returns-in-None
returns-in-None c =
    let reads = header_reads c.args.block.now c.head-head.result c.head-head.ensures.header in
    ap record_header_length (sym (reads.session_is ∙ sym (ap (λ (h : Header). h.session) c.head.view_is) ∙ c.in-None.is))

pub returns-in-Some : goal.returns-in-Some
returns-in-Some c =
    let reads = header_reads c.args.block.now c.head-head.result c.head-head.ensures.header in
    ap record_header_length (sym (reads.session_is ∙ sym (ap (λ (h : Header). h.session) c.head.view_is) ∙ c.in-Some.is))
