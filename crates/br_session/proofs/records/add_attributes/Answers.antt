use Rattle.std.proofs.Common.{◌∙◌}
use Rattle.br_session.proofs.RecordLaws.{text_is_short}
use Rattle.br_session.proofs.records.add_attributes.Goals as goal

pub add-requires-clause-size : goal.add-requires-clause-size
add-requires-clause-size c =
    text_is_short c.args.index c.kind.result c.path-path.result.now c.link.result.now c.deref.result.now c.stat.result c.args.file.now c.get.ensures.to_greatest c.path-path.ensures.valid
    c.kind.ensures c.path-path.ensures.same c.stat.ensures c.link.ensures (c.deref.ensures.value ∙ c.in_ok-record.ensures)
