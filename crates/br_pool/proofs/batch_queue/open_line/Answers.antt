use Rattle.br_pool.proofs.CrewLaws.{begins}
use Rattle.br_pool.proofs.batch_queue.open_line.Goals as goal

pub ruled-requires-clause-rule : goal.ruled-requires-clause-rule
ruled-requires-clause-rule c = begins
