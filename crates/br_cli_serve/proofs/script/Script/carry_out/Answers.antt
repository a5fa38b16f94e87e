use Rattle.std.proofs.Common.{rules}
use Rattle.br_cli_serve.proofs.LineLaws.{none_takes}
use Rattle.br_cli_serve.proofs.script.Script.carry_out.Goals as goal

pub returns-in-None-clause-carries : goal.returns-in-None-clause-carries
returns-in-None-clause-carries g c =
    none_takes g.C.JobStore.inserts g.C.JobStore.refuses g.V.VolumeStore.holds g.V.VolumeStore.failures g.W.Write.contents
    c.args.self.now _ c.take_line.new.self c.args.writer.now c.take_line.new.writer c.args.lines.now.number c.take_line.result c.args.line.now
    (search rules) (search rules) c.take_line.ensures.takes
