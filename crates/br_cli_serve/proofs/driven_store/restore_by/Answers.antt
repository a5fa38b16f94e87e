use Rattle.std.proofs.Common.{Ok, Err}
use Rattle.br_engine.specs.Restores.{change}
use Rattle.br_cli_serve.proofs.DrivenLaws.{driven}
use Rattle.br_cli_serve.proofs.driven_store.restore_by.Goals as goal

pub returns-in-Ok-clause-restored : goal.returns-in-Ok-clause-restored
returns-in-Ok-clause-restored g c =
    driven c.args.wanted c.plain-order.result
    (change g.D.Drive g.W.Write g.S.Sink (c.args.restore.now, c.args.writer.now) (c.run.new.self, c.run.new.writer)) (Ok c.in-Ok.done)
    c.plain-order.ensures.bootstrap c.plain-order.ensures.names c.plain-order.ensures.wanted c.in-Ok.ensures.restores

pub returns-in-Err-clause-restored : goal.returns-in-Err-clause-restored
returns-in-Err-clause-restored g c =
    driven c.args.wanted c.plain-order.result
    (change g.D.Drive g.W.Write g.S.Sink (c.args.restore.now, c.args.writer.now) (c.run.new.self, c.run.new.writer)) (Err c.in-Err.fault)
    c.plain-order.ensures.bootstrap c.plain-order.ensures.names c.plain-order.ensures.wanted c.in-Err.ensures.restores
