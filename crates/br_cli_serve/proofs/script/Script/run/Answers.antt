use Rattle.br_cli_serve.proofs.DeskLaws.{does_more}
use Rattle.br_cli_serve.proofs.script.Script.run.Goals as goal

pub loop-line-preserved : goal.loop-line-preserved
loop-line-preserved g c = record {
  own = c.take_reading.ensures.own;
  does =
      does_more g.C.JobStore.inserts g.C.JobStore.refuses g.V.VolumeStore.holds g.V.VolumeStore.failures c.args.self.now.desk.keeper
      c.loop-line.self.desk.keeper c.take_reading.new.self.desk.keeper c.loop-line.self.desk.session c.take_reading.new.self.desk.session
      c.loop-line.invariant.does c.take_reading.ensures.sees c.take_reading.ensures.few;
}

pub returns-in_err-take_reading-clause-does : goal.returns-in_err-take_reading-clause-does
returns-in_err-take_reading-clause-does g c =
    does_more g.C.JobStore.inserts g.C.JobStore.refuses g.V.VolumeStore.holds g.V.VolumeStore.failures c.args.self.now.desk.keeper
    c.loop-line.self.desk.keeper c.take_reading.new.self.desk.keeper c.loop-line.self.desk.session c.take_reading.new.self.desk.session
    c.loop-line.invariant.does c.take_reading.ensures.sees c.take_reading.ensures.few
