use Rattle.std.proofs.Common.{ap, ◌∙◌}
use Rattle.br_join.specs.Joining.{is_ready}
use Rattle.br_join.proofs.PieceLaws.{all_closed_is}
use Rattle.br_join.proofs.joiner.Joiner.ready.Goals as goal

pub returns : goal.returns
returns c = c.all_closed.ensures.all ∙ all_closed_is c.self.inside.pieces c.all_closed.ensures.ordered ∙ ap is_ready c.self.view_is
