use Rattle.std.proofs.Common.{None, refl, sym}
use Rattle.std.proofs.lemmas.List.Elements.{length_all_zip}
use Rattle.br_engine.specs.Restores.{change}
use Rattle.br_engine.proofs.RestoreLaws.{by_order}
use Rattle.br_cli.proofs.ExtractLaws.{wanted_by_order}
use Rattle.br_cli.proofs.extract_command.extract_over.Goals as goal

pub returns-in-Ok-clause-extracts : goal.returns-in-Ok-clause-extracts
returns-in-Ok-clause-extracts g c =
    rw c.in-Ok.is
    (by_order (record { asked = c.counted.result; names = None; wanted = c.args.extraction.now.wanted })
    (change g.D.Drive g.W.Write g.S.Sink (c.args.restore.now, c.args.writer.now) (c.run.new.self, c.run.new.writer)) c.run.result c.in-Ok.read.bootstrap
    c.in-Ok.read.counts.items c.counted.ensures.bootstrap c.counted.ensures.counts refl c.run.ensures.restores)

pub returns-in-Ok-clause-wanted : goal.returns-in-Ok-clause-wanted
returns-in-Ok-clause-wanted g c =
    rw c.in-Ok.is
    (wanted_by_order (record { asked = c.counted.result; names = None; wanted = c.args.extraction.now.wanted })
    (change g.D.Drive g.W.Write g.S.Sink (c.args.restore.now, c.args.writer.now) (c.run.new.self, c.run.new.writer)) c.run.result c.in-Ok.read.bootstrap
    c.counted.ensures.bootstrap refl c.run.ensures.wanted)

pub returns-in-Ok-clause-many : goal.returns-in-Ok-clause-many
returns-in-Ok-clause-many g c = sym (length_all_zip _ _ _ c.run.ensures.places)
