-- What a sender sent: the batches that it pushed, and those that it keeps.
use Rattle.crossbeam_queue.specs.Passes.{view}
use Rattle.br_pool.specs.Gathering.{with_pushed}
use Rattle.br_pool.specs.declared.batch_queue.Crew.{Crew}
use Rattle.br_pool.specs.declared.outlet.Outlet.{Outlet}

-- what the pass knows, with the batches that are kept as if they were pushed
abbrev pub outlet_view : Outlet → Crew
outlet_view outlet = with_pushed (view outlet.pass) outlet.kept.items
