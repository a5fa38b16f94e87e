use Rattle.br_data.proofs.WrittenLaws.{none_front}
use Rattle.br_data.proofs.file_bytes.Content.write_to.Goals as goal

pub returns-in-Left-clause-front : goal.returns-in-Left-clause-front
returns-in-Left-clause-front g c = none_front (g.W.Write.contents c.args.writer.now) _
