use Rattle.std.proofs.Common.{sym, ap, ◌∙◌, arith}
use Rattle.std.proofs.lemmas.List.{nil_from_length}
use Rattle.crossbeam_queue.specs.Passes.{view}
use Rattle.br_pool.specs.Gathering.{with_pushed}
use Rattle.br_pool.specs.declared.batch_queue.Crew.{Crew}
use Rattle.br_pool.proofs.OutletLaws.{next_sent, nothing_kept}
use Rattle.br_pool.proofs.outlet.send_each.Goals as goal

pub loop-batch-init : goal.loop-batch-init
loop-batch-init g c = record {
  pass = c.requires.pass;
  sent = ap (with_pushed (view c.args.pass.now)) c.into_iter-batch-iterator.ensures.into_iter_gives.0;
}

pub send-requires-clause-part : goal.send-requires-clause-part
send-requires-clause-part g c = let a = ap (λ (v : Crew). v.parts) c.loop-batch.invariant.sent in let b = c.requires.part in omega (arith, a, b)

pub loop-batch-preserved : goal.loop-batch-preserved
loop-batch-preserved g c = record {
  pass = c.send.ensures.pass;
  sent = next_sent (view c.loop-batch.pass) (view c.send.new.pass) _ c.loop-batch.batch-iterator.rest.items _ c.in-Some.batch c.in-Some.ensures.steps.0 c.send.ensures.sent c.loop-batch.invariant.sent;
}

pub returns-clause-sent : goal.returns-clause-sent
returns-clause-sent g c =
    sym (nothing_kept (view c.loop-batch.pass) c.loop-batch.batch-iterator.rest.items
    (nil_from_length c.loop-batch.batch-iterator.rest.items (sym c.loop-batch.batch-iterator.rest.ok.0 ∙ c.in-None.ensures.steps.0)))
    ∙ c.loop-batch.invariant.sent
