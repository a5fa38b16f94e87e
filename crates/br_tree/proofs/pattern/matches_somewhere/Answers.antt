use Rattle.std.proofs.Common.{sym, ◌∙◌}
use Rattle.br_tree.proofs.MatchLaws.{goes_on, goes_nowhere, star_goes_on, matches_at_once}
use Rattle.br_tree.proofs.pattern.matches_somewhere.Goals as goal

pub returns-in-Whole : goal.returns-in-Whole
returns-in-Whole c = sym (c.loop-rest.invariant ∙ matches_at_once c.loop-rest.left.now c.loop-rest.behind.now c.in-Whole.ensures)

pub loop-rest-preserved-in-Star : goal.loop-rest-preserved-in-Star
loop-rest-preserved-in-Star c = c.loop-rest.invariant ∙ star_goes_on c.loop-rest.left.now c.loop-rest.behind.now c.in-Star.rest.now c.in-Star.more.now c.in-Star.ensures

pub loop-rest-preserved : goal.loop-rest-preserved
loop-rest-preserved c = c.loop-rest.invariant ∙ goes_on c.loop-rest.left.now c.loop-rest.behind.now c.in-Some.field-0-0.now c.in-Some.more.now c.in-Some.ensures.cases.0 c.in-Never.ensures

pub returns-in-None : goal.returns-in-None
returns-in-None c = sym (c.loop-rest.invariant ∙ goes_nowhere c.loop-rest.left.now c.loop-rest.behind.now c.in-None.ensures.cases c.in-Never.ensures)
