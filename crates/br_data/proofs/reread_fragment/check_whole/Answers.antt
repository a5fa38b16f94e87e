use Rattle.std.proofs.Common.{ap, sym, ◌∙◌, length}
use Rattle.br_data.proofs.ReadLaws.{long_is_whole}
use Rattle.br_data.proofs.reread_fragment.check_whole.Goals as goal

pub returns-in-Ok-clause-whole : goal.returns-in-Ok-clause-whole
returns-in-Ok-clause-whole c = long_is_whole c.args.bytes.now c.in-Ok.block c.in-Ok.ensures (ap length (sym c.bytes.ensures.same) ∙ c.if-bytes.true)
