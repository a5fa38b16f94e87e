use Rattle.crossbeam_queue.specs.Passes.{view}
use Rattle.br_pool.proofs.OutletLaws.{one_kept}
use Rattle.br_pool.proofs.outlet.keep.Goals as goal

pub returns-clause-sent : goal.returns-clause-sent
returns-clause-sent c = one_kept (view c.args.outlet.now.pass) c.args.outlet.now.kept.items c.push.new.self.items c.args.batch c.in_ok-push.ensures.items
