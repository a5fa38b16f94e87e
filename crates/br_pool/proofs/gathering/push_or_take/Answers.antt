use Rattle.std.proofs.Common.{◌≡◌, ◌<◌, true, refl, sym, subst, ◌∙◌}
use Rattle.std.proofs.lemmas.Bool.{and_parts}
use Rattle.std.specs.Prelude.{◌&&◌, IsTrue}
use Rattle.crossbeam_queue.specs.Passes.{view}
use Rattle.br_pool.specs.Crew.{sent_by}
use Rattle.br_pool.specs.declared.batch_queue.Crew.{Crew}
use Rattle.br_pool.proofs.GatheringLaws.{still_itself, still_on, takes_none, takes_on}
use Rattle.br_pool.proofs.gathering.push_or_take.Goals as goal

pub loop-init : goal.loop-init
loop-init g c = record {
  batch = refl;
  pass = c.requires.passes.0;
  own = c.requires.passes.1;
  unsent = refl;
  same = still_itself (view c.args.pass.now) (view c.args.pass.now) refl;
  took = takes_none _ (view c.args.pass.now) (view c.args.pass.now) c.args.joiner.now c.args.joiner.now refl refl;
}

pub try_send-requires-clause-part : goal.try_send-requires-clause-part
try_send-requires-clause-part g c = subst (λ (v : Crew). 0 < v.parts) (sym c.loop.invariant.unsent) c.requires.part

pub take_next-fine-requires-clause-gathers : goal.take_next-fine-requires-clause-gathers
take_next-fine-requires-clause-gathers g c = c.loop.invariant.same.0 ∙ c.requires.gathers

pub loop-preserved : goal.loop-preserved
loop-preserved g c = let i = c.loop.invariant in record {
  batch = c.in-Err.ensures.back ∙ i.batch;
  pass = c.take_next-fine.ensures.pass;
  own = c.try_send.ensures.pass;
  unsent = c.in-Err.ensures.same ∙ i.unsent;
  same = still_on (view c.args.pass.now) (view c.loop.pass) (view c.take_next-fine.new.pass) i.same c.take_next-fine.ensures.still;
  took = takes_on (c.loop.fine ≡ true) (IsTrue c.take_next-fine.result) (IsTrue (c.loop.fine && c.take_next-fine.result)) (view c.args.pass.now) (view c.loop.pass) (view c.take_next-fine.new.pass)
      c.args.joiner.now c.loop.joiner c.take_next-fine.new.joiner (λ e. (and_parts c.loop.fine c.take_next-fine.result e).0) (λ e. (and_parts c.loop.fine c.take_next-fine.result e).1) i.took c.take_next-fine.ensures.took;
}

pub returns-in-Ok-clause-sent : goal.returns-in-Ok-clause-sent
returns-in-Ok-clause-sent g c = c.in-Ok.ensures.sent ∙ (λ i. sent_by (c.loop.invariant.unsent i) (c.loop.invariant.batch i))
