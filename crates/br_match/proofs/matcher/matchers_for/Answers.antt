use Rattle.br_match.proofs.GroupLaws.{alike_more}
use Rattle.br_match.proofs.matcher.matchers_for.Goals as goal

pub loop-number-preserved : goal.loop-number-preserved
loop-number-preserved c =
    let l = c.loop-number in
    let more = alike_more l.matchers.items c.args.groups.now l.number-index c.in_ok-new.field-0 c.loop-number-item.result c.loop-number-test.true c.loop-number-item.is c.in_ok-new.ensures l.invariant in
    rw (c.in_ok-push.ensures.items) more
