use Rattle.br_types.proofs.EscapeLaws.{escaped_reads_back_lem}
use Rattle.br_types.proofs.escape.escaped_reads_back.Goals as goal

pub returns : goal.returns
returns c = escaped_reads_back_lem
