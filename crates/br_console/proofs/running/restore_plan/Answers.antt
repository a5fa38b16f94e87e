use Rattle.std.proofs.Common.{Ok, Err, subst, ◌∙◌}
use Rattle.br_engine.proofs.EndLaws.{stops_weaker}
use Rattle.br_engine.specs.Restores.{change}
use Rattle.br_engine.specs.Restoring.{NoneStand}
use Rattle.br_console.proofs.RunLaws.{by_plan, change_stays, no_drive_stays, plan_refused, plan_restored, restored_has_end}
use Rattle.br_console.proofs.running.restore_plan.Goals as goal

-- ---- the restore is refused

pub returns-clause-restores : goal.returns-clause-restores
returns-clause-restores g c =
    let seen = change g.D.Drive g.W.Write g.S.Sink (c.args.restore.now, c.args.writer.now) (c.run.new.self, c.run.new.writer) in
    let parts = c.into_parts-bootstrap in
    let order = c.order_of-order in
    plan_refused c.args.wanted seen.old.told seen.new.told seen.old.written seen.new.written seen.old.has seen.new.has c.args.plan c.in-Err.fault c.console_fault.result c.console_fault.ensures
    (by_plan order.result seen (Err c.in-Err.fault) c.args.plan parts.result.0 parts.result.1 c.args.wanted order.ensures.bootstrap order.ensures.counts order.ensures.names order.ensures.wanted
    parts.ensures.bootstrap parts.ensures.names c.in-Err.ensures.restores)

pub returns-clause-endless : goal.returns-clause-endless
returns-clause-endless g c = restored_has_end c.in-Err.fault c.console_fault.result c.console_fault.ensures

pub returns-clause-failed : goal.returns-clause-failed
returns-clause-failed g c = λ is. c.in-Err.ensures.failed (no_drive_stays c.in-Err.fault c.console_fault.result c.console_fault.ensures is)

pub returns-clause-changed : goal.returns-clause-changed
returns-clause-changed g c = λ is.
    let seen = change g.D.Drive g.W.Write g.S.Sink (c.args.restore.now, c.args.writer.now) (c.run.new.self, c.run.new.writer) in
    subst (NoneStand seen.old.told seen.new.told) (c.order_of-order.ensures.bootstrap ∙ c.into_parts-bootstrap.ensures.bootstrap)
    (c.in-Err.ensures.changed (change_stays c.in-Err.fault c.console_fault.result c.console_fault.ensures is))

-- ---- the files are restored

pub returns-in-Ok-clause-restores : goal.returns-in-Ok-clause-restores
returns-in-Ok-clause-restores g c =
    let seen = change g.D.Drive g.W.Write g.S.Sink (c.args.restore.now, c.args.writer.now) (c.run.new.self, c.run.new.writer) in
    let parts = c.into_parts-bootstrap in
    let order = c.order_of-order in
    plan_restored c.args.wanted seen.old.told seen.new.told seen.old.written seen.new.written seen.old.has seen.new.has c.args.plan c.in-Ok.done
    (by_plan order.result seen (Ok c.in-Ok.done) c.args.plan parts.result.0 parts.result.1 c.args.wanted order.ensures.bootstrap order.ensures.counts order.ensures.names order.ensures.wanted
    parts.ensures.bootstrap parts.ensures.names c.in-Ok.ensures.restores)

pub returns-in-Ok-clause-changed : goal.returns-in-Ok-clause-changed
returns-in-Ok-clause-changed g c =
    let seen = change g.D.Drive g.W.Write g.S.Sink (c.args.restore.now, c.args.writer.now) (c.run.new.self, c.run.new.writer) in
    stops_weaker 72 _ _ c.in-Ok.done.end
    (subst (NoneStand seen.old.told seen.new.told) (c.order_of-order.ensures.bootstrap ∙ c.into_parts-bootstrap.ensures.bootstrap)) c.in-Ok.ensures.changed
