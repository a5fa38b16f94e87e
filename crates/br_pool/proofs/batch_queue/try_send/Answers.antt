use Rattle.crossbeam_queue.specs.Passes.{view, ruled_capacity}
use Rattle.br_pool.proofs.CrewLaws.{sends}
use Rattle.br_pool.proofs.batch_queue.try_send.Goals as goal

pub push_as-requires-clause-rule : goal.push_as-requires-clause-rule
push_as-requires-clause-rule g c = (
  sends (ruled_capacity c.args.line.now) c.args.pass.now.id (view c.args.pass.now) c.args.batch c.requires.part,
  λ items views h at. tt,
)
