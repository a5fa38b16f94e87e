use Rattle.std.proofs.Common.{◌≡◌, sym, subst, refl, ap}
use Rattle.crossbeam_queue.specs.Passes.{view}
use Rattle.br_pool.specs.Crew.{HasAll}
use Rattle.br_pool.specs.declared.batch_queue.Crew.{Crew}
use Rattle.br_pool.proofs.GatheringLaws.{still_itself, takes_lost, takes_none, takes_one}
use Rattle.br_pool.proofs.gathering.take_one.Goals as goal

pub returns-in-None-clause-still : goal.returns-in-None-clause-still
returns-in-None-clause-still g c = still_itself (view c.args.pass.now) (view c.next_batch.new.pass) c.in-None.ensures.same

pub returns-in-None-clause-took : goal.returns-in-None-clause-took
returns-in-None-clause-took g c = takes_none _ (view c.args.pass.now) (view c.next_batch.new.pass) c.args.joiner.now c.args.joiner.now c.in-None.ensures.same refl

pub returns-in-None-clause-all : goal.returns-in-None-clause-all
returns-in-None-clause-all g c = λ e. subst (λ (v : Crew). HasAll v.pushed v.popped) (sym c.in-None.ensures.same) c.in-None.ensures.all

pub returns-in-None-clause-no_other : goal.returns-in-None-clause-no_other
returns-in-None-clause-no_other g c = λ e. subst (λ (v : Crew). v.parts ≡ 65536 → HasAll v.popped v.pushed) (sym c.in-None.ensures.same) c.in-None.ensures.no_other

pub returns-in-Ok-clause-took : goal.returns-in-Ok-clause-took
returns-in-Ok-clause-took g c =
    takes_one _ (view c.args.pass.now) (view c.next_batch.new.pass) c.args.joiner.now c.take_hits.new.self c.in-Some.batch (ap (λ (v : Crew). v.popped) c.in-Some.ensures.popped) c.in-Ok.ensures.ok

pub returns-in_default-clause-took : goal.returns-in_default-clause-took
returns-in_default-clause-took g c =
    takes_lost _ (view c.args.pass.now) (view c.next_batch.new.pass) c.args.joiner.now c.take_hits.new.self c.in-Some.batch (λ none. none refl) (ap (λ (v : Crew). v.popped) c.in-Some.ensures.popped) c.in_default.ensures.err
