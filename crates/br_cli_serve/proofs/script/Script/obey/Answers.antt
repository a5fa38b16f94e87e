use Rattle.br_cli_serve.proofs.DeskLaws.{appended_few}
use Rattle.br_cli_serve.proofs.script.Script.obey.Goals as goal

pub returns-in_err-append-in-Volume-clause-few : goal.returns-in_err-append-in-Volume-clause-few
returns-in_err-append-in-Volume-clause-few g c =
    appended_few g.C.JobStore.inserts g.C.JobStore.refuses g.V.VolumeStore.holds g.V.VolumeStore.failures c.in-Volume.name c.deref.result.now
    c.append.new.self.desk.session c.args.self.now.desk.keeper c.append.new.self.desk.keeper c.append.ensures.appended

pub returns-in_ok-append-in-Volume-clause-few : goal.returns-in_ok-append-in-Volume-clause-few
returns-in_ok-append-in-Volume-clause-few g c =
    appended_few g.C.JobStore.inserts g.C.JobStore.refuses g.V.VolumeStore.holds g.V.VolumeStore.failures c.in-Volume.name c.deref.result.now
    c.append.new.self.desk.session c.args.self.now.desk.keeper c.append.new.self.desk.keeper c.append.ensures.appended
