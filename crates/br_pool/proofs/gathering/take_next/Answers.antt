use Rattle.std.proofs.Common.{◌≢◌, true}
use Rattle.std.specs.Prelude.{IsTrue}
use Rattle.crossbeam_queue.specs.Passes.{view}
use Rattle.br_pool.specs.declared.gathering.Look.TheVariants.{Empty, Lost, Taken}
use Rattle.br_pool.proofs.GatheringLaws.{takes_so}
use Rattle.br_pool.proofs.gathering.take_next.Goals as goal

pub returns-in-Taken-clause-took : goal.returns-in-Taken-clause-took
returns-in-Taken-clause-took g c =
    takes_so (Taken ≢ Lost) (IsTrue true) (view c.args.pass.now) (view c.take_one.new.pass) c.args.joiner.now c.take_one.new.joiner (λ e. λ q. cc) c.in-Taken.ensures.took

pub returns-in-Empty-clause-took : goal.returns-in-Empty-clause-took
returns-in-Empty-clause-took g c =
    takes_so (Empty ≢ Lost) (IsTrue true) (view c.args.pass.now) (view c.take_one.new.pass) c.args.joiner.now c.take_one.new.joiner (λ e. λ q. cc) c.in-Empty.ensures.took
