use Rattle.crossbeam_queue.specs.Passes.{view}
use Rattle.br_pool.proofs.CrewLaws.{takes, learns, none_left, all_popped, no_other}
use Rattle.br_pool.proofs.batch_queue.next_batch.Goals as goal

pub pop_as-requires-clause-rule : goal.pop_as-requires-clause-rule
pop_as-requires-clause-rule g c = (
  takes c.args.pass.now.id (view c.args.pass.now) c.requires.gathers,
  learns c.args.pass.now.id (view c.args.pass.now) c.requires.gathers,
)

pub returns-in-None-clause-all : goal.returns-in-None-clause-all
returns-in-None-clause-all g c = all_popped (view c.args.pass.now) (none_left (view c.args.pass.now) c.in-None.ensures.rule.1)

pub returns-in-None-clause-no_other : goal.returns-in-None-clause-no_other
returns-in-None-clause-no_other g c = no_other (view c.args.pass.now) (none_left (view c.args.pass.now) c.in-None.ensures.rule.1)
