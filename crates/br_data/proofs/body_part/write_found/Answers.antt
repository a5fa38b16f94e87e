use Rattle.br_data.proofs.WrittenLaws.{none_front}
use Rattle.br_data.proofs.body_part.write_found.Goals as goal

pub returns-in-Err-clause-front : goal.returns-in-Err-clause-front
returns-in-Err-clause-front g c = none_front (g.W.Write.contents c.args.writer.now) _
