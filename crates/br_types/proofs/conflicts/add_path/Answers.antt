use Rattle.br_types.proofs.PathConflictLaws.{one_more_key}
use Rattle.br_types.proofs.conflicts.add_path.Goals as goal

pub returns-in-Ok : goal.returns-in-Ok
returns-in-Ok c = one_more_key c.args.set.now c.insert.new.self c.args.path c.in-Ok.ensures.updates
