use Rattle.br_data.proofs.SpanLaws.{data_inside, data_is, no_data}
use Rattle.br_data.proofs.data_spans.data_at.Goals as goal

pub bytes_at-requires : goal.bytes_at-requires
bytes_at-requires c = data_inside c.args.bytes.now c.args.spans.now c.args.ordinal c.in-Some.span.now c.requires c.in-Some.ensures.lookup.3.0 c.in-Some.ensures.lookup.1

pub returns-in-Some : goal.returns-in-Some
returns-in-Some c =
    data_is c.args.bytes.now c.args.spans.now c.args.ordinal c.in-Some.span.now c.bytes_at.result.now c.requires c.in-Some.ensures.lookup.3.0 c.in-Some.ensures.lookup.1 c.bytes_at.ensures

pub returns-in-None : goal.returns-in-None
returns-in-None c = no_data c.args.bytes.now c.args.spans.now c.args.ordinal c.requires c.in-None.ensures.lookup.3
