use Rattle.std.proofs.Common.{ap, inl}
use Rattle.br_reread_parts.specs.Steps.{either_fault}
use Rattle.br_reread_parts.proofs.TwoLaws.{fails_either}
use Rattle.br_reread_parts.proofs.two_parts.two_put.Goals as goal

pub returns-in-Ok-clause-reason : goal.returns-in-Ok-clause-reason
returns-in-Ok-clause-reason c = fails_either c.after_reading.result c.args.put c.in-Ok.fault c.in-Ok.is c.after_reading.ensures.reason

pub returns-in-Err-clause-reason : goal.returns-in-Err-clause-reason
returns-in-Err-clause-reason c = inl (ap either_fault c.in-Err.is)
