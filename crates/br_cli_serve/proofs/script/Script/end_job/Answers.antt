use Rattle.std.proofs.Common.{ap}
use Rattle.br_cli_serve.proofs.script.Script.end_job.Goals as goal

pub returns-in-Err-clause-ends : goal.returns-in-Err-clause-ends
returns-in-Err-clause-ends g c =
    rw (c.in-Err.ensures, ← c.number.ensures) (ap (λ s. s.desk.keeper) c.refuse_line.ensures.same, c.refuse_line.ensures.written)
