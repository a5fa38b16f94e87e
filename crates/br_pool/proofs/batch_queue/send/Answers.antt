use Rattle.std.proofs.Common.{◌<◌, sym, subst, ◌∙◌}
use Rattle.br_pool.specs.Crew.{sent_by}
use Rattle.br_pool.specs.declared.batch_queue.Crew.{Crew}
use Rattle.br_pool.proofs.batch_queue.send.Goals as goal

pub try_send-requires-clause-part : goal.try_send-requires-clause-part
try_send-requires-clause-part g c = subst (λ (v : Crew). 0 < v.parts) (sym c.loop.invariant.same) c.requires.part

pub loop-preserved : goal.loop-preserved
loop-preserved g c = record {
  batch = c.in-Err.ensures.back ∙ c.loop.invariant.batch;
  pass = c.try_send.ensures.pass;
  same = c.in-Err.ensures.same ∙ c.loop.invariant.same;
}

pub returns-in-Ok-clause-sent : goal.returns-in-Ok-clause-sent
returns-in-Ok-clause-sent g c = c.in-Ok.ensures.sent ∙ (λ i. sent_by (c.loop.invariant.same i) (c.loop.invariant.batch i))
