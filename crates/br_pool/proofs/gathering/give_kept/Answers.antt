use Rattle.std.proofs.Common.{◌≡◌, true, refl, sym, ap, ◌∙◌, arith}
use Rattle.std.proofs.lemmas.Bool.{and_parts}
use Rattle.std.proofs.lemmas.List.{nil_from_length}
use Rattle.std.specs.Prelude.{◌&&◌, IsTrue}
use Rattle.crossbeam_queue.specs.Passes.{view}
use Rattle.br_pool.specs.Gathering.{with_pushed}
use Rattle.br_pool.specs.declared.batch_queue.Crew.{Crew}
use Rattle.br_pool.proofs.GatheringLaws.{still_itself, still_on, takes_none, takes_on}
use Rattle.br_pool.proofs.OutletLaws.{next_sent, nothing_kept}
use Rattle.br_pool.proofs.gathering.give_kept.Goals as goal

pub loop-batch-init : goal.loop-batch-init
loop-batch-init g c = record {
  pass = c.requires.passes.0;
  own = c.requires.passes.1;
  sent = ap (with_pushed (view c.args.own.now)) c.into_iter-batch-iterator.ensures.into_iter_gives.0;
  same = still_itself (view c.args.pass.now) (view c.args.pass.now) refl;
  took = takes_none _ (view c.args.pass.now) (view c.args.pass.now) c.args.joiner.now c.args.joiner.now refl refl;
}

pub push_or_take-fine-requires-clause-gathers : goal.push_or_take-fine-requires-clause-gathers
push_or_take-fine-requires-clause-gathers g c = c.loop-batch.invariant.same.0 ∙ c.requires.gathers

pub push_or_take-fine-requires-clause-part : goal.push_or_take-fine-requires-clause-part
push_or_take-fine-requires-clause-part g c = let a = ap (λ (v : Crew). v.parts) c.loop-batch.invariant.sent in let b = c.requires.part in omega (arith, a, b)

pub loop-batch-preserved : goal.loop-batch-preserved
loop-batch-preserved g c = let i = c.loop-batch.invariant in let e = c.push_or_take-fine.ensures in record {
  pass = e.passes.0;
  own = e.passes.1;
  sent = next_sent (view c.loop-batch.own) (view c.push_or_take-fine.new.own) _ c.loop-batch.batch-iterator.rest.items _ c.in-Some.batch c.in-Some.ensures.steps.0 e.sent i.sent;
  same = still_on (view c.args.pass.now) (view c.loop-batch.pass) (view c.push_or_take-fine.new.pass) i.same e.still;
  took = takes_on (c.loop-batch.fine ≡ true) (IsTrue c.push_or_take-fine.result) (IsTrue (c.loop-batch.fine && c.push_or_take-fine.result)) (view c.args.pass.now) (view c.loop-batch.pass) (view c.push_or_take-fine.new.pass)
      c.args.joiner.now c.loop-batch.joiner c.push_or_take-fine.new.joiner (λ e. (and_parts c.loop-batch.fine c.push_or_take-fine.result e).0) (λ e. (and_parts c.loop-batch.fine c.push_or_take-fine.result e).1) i.took e.took;
}

pub returns-clause-sent : goal.returns-clause-sent
returns-clause-sent g c =
    sym (nothing_kept (view c.loop-batch.own) c.loop-batch.batch-iterator.rest.items
    (nil_from_length c.loop-batch.batch-iterator.rest.items (sym c.loop-batch.batch-iterator.rest.ok.0 ∙ c.in-None.ensures.steps.0)))
    ∙ c.loop-batch.invariant.sent
