use Rattle.std.proofs.Common.{◌∙◌}
use Rattle.br_match.proofs.NearLaws.{covered_around}
use Rattle.br_match.proofs.matchers.covers_any.Goals as goal

pub returns : goal.returns
returns c = c.any_covers.ensures ∙ covered_around c.args.addr c.args.matchers.now c.around.result.now c.around.ensures
