use Rattle.crossbeam_queue.specs.Passes.{view}
use Rattle.br_pool.proofs.CrewLaws.{merges}
use Rattle.br_pool.proofs.batch_queue.take_in.Goals as goal

pub absorb-requires-clause-rule : goal.absorb-requires-clause-rule
absorb-requires-clause-rule c = merges c.args.pass.now.id (view c.args.pass.now) c.args.other.id (view c.args.other)
