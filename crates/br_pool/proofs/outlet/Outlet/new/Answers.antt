use Rattle.crossbeam_queue.specs.Passes.{view}
use Rattle.br_pool.proofs.OutletLaws.{nothing_kept}
use Rattle.br_pool.proofs.outlet.Outlet.new.Goals as goal

pub returns-clause-shown : goal.returns-clause-shown
returns-clause-shown c = nothing_kept (view c.args.pass) c.new-kept.result.items c.new-kept.ensures.items
