use Rattle.std.proofs.Common.{ap, ◌∙◌}
use Rattle.std.specs.Ordering.{is_lt}
use Rattle.br_join.proofs.FrontLaws.{before_is}
use Rattle.br_join.proofs.waiting.is_before.Goals as goal

pub returns : goal.returns
returns c = c.is_lt.ensures ∙ ap is_lt c.cmp.ensures ∙ before_is c.args._key c.args.spot c.args.other
