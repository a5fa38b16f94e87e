use Rattle.br_core.proofs.FirstLaws.{planned_now}
use Rattle.br_core.proofs.open_restore.OpenRestore.new.Goals as goal

pub returns : goal.returns
returns c w stages jobs =
    planned_now w c.args.commits c.args.request c.args.marks.items c.args.plan c.in_ok-pieces.statuses.items c.new.result.items c.in_ok-pieces.joiner.hits stages jobs
    c.in_ok-pieces.ensures.1 c.new.ensures.items c.in_ok-pieces.ensures.2
