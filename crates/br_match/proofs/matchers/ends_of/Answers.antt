use Rattle.br_match.proofs.NearLaws.{ends_more, ends_all}
use Rattle.br_match.proofs.matchers.ends_of.Goals as goal

pub loop-group-preserved : goal.loop-group-preserved
loop-group-preserved c =
    let l = c.loop-group in
    rw (c.in_ok-push.ensures.items) (rw (c.max-greatest.ensures)
    (ends_more c.args.groups.now l.ends.items l.group-index l.greatest c.last_address.result c.group-item.result c.loop-group-test.true c.group-item.is c.last_address.ensures l.invariant))

pub returns : goal.returns
returns c = ends_all _ _ _ _ c.loop-group-test.false c.loop-group.invariant
