use Rattle.std.proofs.Common.{◌++◌, ap, sym, ◌∙◌, append_assoc}
use Rattle.br_core.proofs.PointLaws.{none_left, ran_all, ran_more}
use Rattle.br_core.proofs.machine_runs.replies_to.Goals as goal

pub loop-event-preserved : goal.loop-event-preserved
loop-event-preserved g c =
    let i = c.loop-event.invariant in record {
      walk = rw append_assoc (ap (λ l. c.loop-event.yielded ++ l) (sym c.in-Some.ensures.steps.0) ∙ i.walk);
      run = ran_more c.args.world.now c.loop-event.world c.reply_to.new.world c.loop-event.yielded c.loop-event.replies.items _ c.in-Some.event c.in_ok-reply_to.field-0 i.run c.in_ok-reply_to.ensures c.in_ok-push.ensures.items;
    }

pub returns : goal.returns
returns g c =
    let i = c.loop-event.invariant in
    let none = none_left c.loop-event.event-iterator.rest.items (sym c.loop-event.event-iterator.rest.ok.0 ∙ c.in-None.ensures.steps.0) in
    ran_all c.args.world.now c.loop-event.world c.loop-event.yielded c.loop-event.event-iterator.rest.items c.args.events.items c.loop-event.replies.items none i.walk i.run
