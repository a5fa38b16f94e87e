use Rattle.std.proofs.Common.{◌∙◌}
use Rattle.br_check.proofs.ReadLaws.{covered_is}
use Rattle.br_check.proofs.checksum_walk.covers_any.Goals as goal

pub returns : goal.returns
returns c = c.any_covers.ensures ∙ covered_is c.args.groups.now c.args.addr
