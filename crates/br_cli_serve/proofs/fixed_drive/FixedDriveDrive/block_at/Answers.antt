use Rattle.br_cli_serve.proofs.FixedLaws.{answers_beside}
use Rattle.br_cli_serve.proofs.fixed_drive.FixedDriveDrive.block_at.Goals as goal

pub returns-clause-answers : goal.returns-clause-answers
returns-clause-answers c =
    answers_beside c.block_at.new.self c.args.vol.now (c.args.addr, c.args.size) c.block_at.new.buf.items c.block_at.result c.has_name.ensures c.block_at.ensures.answers
