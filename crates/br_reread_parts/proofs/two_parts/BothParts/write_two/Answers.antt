use Rattle.std.proofs.Common.{[]}
use Rattle.br_data.proofs.GoOnLaws.{go_more}
use Rattle.br_reread_parts.proofs.GivenLaws.{fail_after}
use Rattle.br_reread_parts.proofs.PutLaws.{err_of_some}
use Rattle.br_reread_parts.proofs.StepLaws.{none_of, opened_fits}
use Rattle.br_reread_parts.proofs.TwoLaws.{alike_two, read_same, same_two, written_two}
use Rattle.br_reread_parts.proofs.two_parts.BothParts.write_two.Goals as goal

pub returns-in-Err-clause-written : goal.returns-in-Err-clause-written
returns-in-Err-clause-written g c = (none_of _ _, none_of _ _)

pub returns-clause-written : goal.returns-clause-written
returns-clause-written g c =
    written_two c.two_put.result c.put_both-put.result _ c.args.one.now c.args.other.now _ _ _ _ _ _ _ _ _ _ c.new.ensures c.new-2.ensures c.in-Ok.ensures.one.left
    c.in-Ok.ensures.other.left c.put_both-put.ensures.one c.put_both-put.ensures.other c.put_both-put.ensures.front_one c.put_both-put.ensures.front_other c.two_put.ensures.comes

pub returns-clause-alike : goal.returns-clause-alike
returns-clause-alike g c = alike_two c.two_put.result c.put_both-put.result c.args.one.now c.args.other.now _ _ c.two_put.ensures.comes

pub returns-clause-same : goal.returns-clause-same
returns-clause-same g c = λ given.
    same_two c.standing_stays.ensures c.two_put.result c.put_both-put.result c.args.self.now.many _ c.args.self.now.one.now c.args.self.now.other.now c.args.one.now c.args.other.now
    _ _ _ _ _ _ _ _ _ _ _ _ c.open_two.ensures.on c.new.ensures c.new-2.ensures c.in-Ok.ensures.one c.in-Ok.ensures.other c.put_both-put.ensures.one c.put_both-put.ensures.other
    c.two_put.ensures.comes given

pub returns-in-Err-clause-changed : goal.returns-in-Err-clause-changed
returns-in-Err-clause-changed g c = λ given is. c.in-Err.ensures.changed (err_of_some _ _ is) given.0.0 given.1.0

pub returns-in-Err-clause-lost : goal.returns-in-Err-clause-lost
returns-in-Err-clause-lost g c = λ is. c.in-Err.ensures.lost (err_of_some _ _ is)

pub returns-clause-changed : goal.returns-clause-changed
returns-clause-changed g c = λ given is.
    let stays = c.standing_stays.ensures in
    let many = c.args.self.now.many in
    let hits = c.args.self.now.one.now in
    let more = c.args.self.now.other.now in
    let one = c.args.one.now in
    let other = c.args.other.now in
    c.put_both-put.ensures.changed
    (c.two_put.ensures.changed
    (read_same stays c.put_both-put.result many _ hits more one other _ _ _ _ _ _ _ _ _ _ _ _ c.open_two.ensures.on c.new.ensures c.new-2.ensures c.in-Ok.ensures.one
    c.in-Ok.ensures.other c.put_both-put.ensures.one c.put_both-put.ensures.other given)
    is) (
      opened_fits stays many _ hits one _ c.open_two.ensures.on c.in-Ok.ensures.one given.0,
      opened_fits stays many _ more other _ c.open_two.ensures.on c.in-Ok.ensures.other given.1,
    )

pub returns-clause-lost : goal.returns-clause-lost
returns-clause-lost g c = λ is. fail_after _ _ _ c.open_two.ensures.on.1 (c.put_both-put.ensures.lost (c.two_put.ensures.lost is))

pub returns-clause-on : goal.returns-clause-on
returns-clause-on g c = go_more _ _ _ c.open_two.ensures.on c.put_both-put.ensures.on
