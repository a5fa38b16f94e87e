use Rattle.std.proofs.Common.{true, false, sym, ◌∙◌}
use Rattle.br_tree.proofs.MatchLaws.{leads_to_itself, star_next, leads_on, another_byte, no_byte, at_end}
use Rattle.br_tree.proofs.pattern.match_front.Goals as goal

pub loop-mark-init : goal.loop-mark-init
loop-mark-init c = leads_to_itself c.args.pattern.now c.args.name.now

pub returns-then-mark-eq42 : goal.returns-then-mark-eq42
returns-then-mark-eq42 c =
    star_next c.args.pattern.now c.args.name.now c.loop-mark.left.now c.loop-mark.behind.now c.in-Some.mark.now c.in-Some.rest.now c.loop-mark.invariant c.in-Some.ensures.cases.0 c.if-mark-eq42.true

pub returns-then-not-takes : goal.returns-then-not-takes
returns-then-not-takes c =
    another_byte c.args.pattern.now c.args.name.now c.loop-mark.left.now c.loop-mark.behind.now c.in-Some.mark.now c.in-Some.rest.now c.in-Some-split_first.byte.now c.in-Some-split_first.more.now
    c.loop-mark.invariant c.in-Some.ensures.cases.0 c.in-Some-split_first.ensures.cases.0 c.if-mark-eq42.false (sym c.takes.ensures ∙ c.if-not-takes.true)

pub loop-mark-preserved : goal.loop-mark-preserved
loop-mark-preserved c =
    leads_on c.args.pattern.now c.args.name.now c.loop-mark.left.now c.loop-mark.behind.now c.in-Some.mark.now c.in-Some.rest.now c.in-Some-split_first.byte.now c.in-Some-split_first.more.now
    c.loop-mark.invariant c.in-Some.ensures.cases.0 c.in-Some-split_first.ensures.cases.0 c.if-mark-eq42.false (sym c.takes.ensures ∙ c.if-not-takes.false)

pub returns-in-None : goal.returns-in-None
returns-in-None c =
    no_byte c.args.pattern.now c.args.name.now c.loop-mark.left.now c.loop-mark.behind.now c.in-Some.mark.now c.in-Some.rest.now
    c.loop-mark.invariant c.in-Some.ensures.cases.0 c.in-None.ensures.cases c.if-mark-eq42.false

pub returns-then-is_empty : goal.returns-then-is_empty
returns-then-is_empty c = at_end c.args.pattern.now c.args.name.now c.loop-mark.left.now c.loop-mark.behind.now true c.loop-mark.invariant c.in_default.ensures.cases (sym c.if-is_empty.true ∙ c.is_empty.ensures)

pub returns-else-is_empty : goal.returns-else-is_empty
returns-else-is_empty c = at_end c.args.pattern.now c.args.name.now c.loop-mark.left.now c.loop-mark.behind.now false c.loop-mark.invariant c.in_default.ensures.cases (sym c.if-is_empty.false ∙ c.is_empty.ensures)
