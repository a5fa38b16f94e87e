use Rattle.crossbeam_queue.specs.Passes.{view}
use Rattle.br_pool.proofs.CrewLaws.{forks}
use Rattle.br_pool.proofs.batch_queue.pass_for_worker.Goals as goal

pub another-requires-clause-rule : goal.another-requires-clause-rule
another-requires-clause-rule c = forks c.args.pass.now.id (view c.args.pass.now) c.requires.parts
