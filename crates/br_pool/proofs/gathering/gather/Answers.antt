use Rattle.std.proofs.Common.{◌≡◌, ◌≢◌, true, false, refl, ◌∙◌}
use Rattle.crossbeam_queue.specs.Passes.{view}
use Rattle.br_pool.specs.declared.gathering.Look.TheVariants.{Empty, Lost, Taken}
use Rattle.br_pool.proofs.GatheringLaws.{still_itself, still_on, takes_none, takes_on}
use Rattle.br_pool.proofs.gathering.gather.Goals as goal

pub loop-init : goal.loop-init
loop-init g c = record {
  pass = c.requires.pass;
  same = still_itself (view c.args.pass.now) (view c.args.pass.now) refl;
  took = takes_none _ (view c.args.pass.now) (view c.args.pass.now) c.args.joiner.now c.args.joiner.now refl refl;
}

pub take_one-requires-clause-gathers : goal.take_one-requires-clause-gathers
take_one-requires-clause-gathers g c = c.loop.invariant.same.0 ∙ c.requires.gathers

-- a batch was taken
pub loop-preserved-in-Taken : goal.loop-preserved-in-Taken
loop-preserved-in-Taken g c = let i = c.loop.invariant in record {
  pass = c.take_one.ensures.pass;
  same = still_on (view c.args.pass.now) (view c.loop.pass) (view c.take_one.new.pass) i.same c.take_one.ensures.still;
  took = takes_on (c.loop.fine ≡ true) (Taken ≢ Lost) (c.loop.fine ≡ true) (view c.args.pass.now) (view c.loop.pass) (view c.take_one.new.pass) c.args.joiner.now c.loop.joiner c.take_one.new.joiner
      (λ e. e) (λ e. λ q. cc) i.took c.in-Taken.ensures.took;
}

-- or was lost
pub loop-preserved-in-Lost : goal.loop-preserved-in-Lost
loop-preserved-in-Lost g c = let i = c.loop.invariant in record {
  pass = c.take_one.ensures.pass;
  same = still_on (view c.args.pass.now) (view c.loop.pass) (view c.take_one.new.pass) i.same c.take_one.ensures.still;
  took = takes_on (c.loop.fine ≡ true) (Lost ≢ Lost) (false ≡ true) (view c.args.pass.now) (view c.loop.pass) (view c.take_one.new.pass) c.args.joiner.now c.loop.joiner c.take_one.new.joiner
      (λ e. absurd cc) (λ e. absurd cc) i.took c.in-Lost.ensures.took;
}

-- the queue was empty
pub loop-preserved : goal.loop-preserved
loop-preserved g c = let i = c.loop.invariant in record {
  pass = c.take_one.ensures.pass;
  same = still_on (view c.args.pass.now) (view c.loop.pass) (view c.take_one.new.pass) i.same c.take_one.ensures.still;
  took = takes_on (c.loop.fine ≡ true) (Empty ≢ Lost) (c.loop.fine ≡ true) (view c.args.pass.now) (view c.loop.pass) (view c.take_one.new.pass) c.args.joiner.now c.loop.joiner c.take_one.new.joiner
      (λ e. e) (λ e. λ q. cc) i.took c.in-Empty.ensures.took;
}

pub returns-then-over-clause-still : goal.returns-then-over-clause-still
returns-then-over-clause-still g c = still_on (view c.args.pass.now) (view c.loop.pass) (view c.take_one.new.pass) c.loop.invariant.same c.take_one.ensures.still

pub returns-then-over-clause-took : goal.returns-then-over-clause-took
returns-then-over-clause-took g c =
    takes_on (c.loop.fine ≡ true) (Empty ≢ Lost) (c.loop.fine ≡ true) (view c.args.pass.now) (view c.loop.pass) (view c.take_one.new.pass) c.args.joiner.now c.loop.joiner c.take_one.new.joiner
    (λ e. e) (λ e. λ q. cc) c.loop.invariant.took c.in-Empty.ensures.took

pub returns-then-over-clause-all : goal.returns-then-over-clause-all
returns-then-over-clause-all g c = c.in-Empty.ensures.all refl

pub returns-then-over-clause-no_other : goal.returns-then-over-clause-no_other
returns-then-over-clause-no_other g c = c.in-Empty.ensures.no_other refl
