use Rattle.std.proofs.Common.{sym, ◌∙◌}
use Rattle.br_tree.proofs.MatchLaws.{star_is}
use Rattle.br_tree.proofs.pattern.matches.Goals as goal

pub returns-in-Star : goal.returns-in-Star
returns-in-Star c = c.matches_somewhere.ensures ∙ sym (c.in-Star.ensures.same ∙ star_is c.in-Star.rest.now c.in-Star.more.now)
