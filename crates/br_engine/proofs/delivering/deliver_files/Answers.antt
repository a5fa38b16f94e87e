use Rattle.std.proofs.Common.{map}
use Rattle.br_join.specs.Outcome.{restored}
use Rattle.br_engine.proofs.EndLaws.{never_stops}
use Rattle.br_engine.proofs.delivering.deliver_files.Goals as goal

pub returns-in-None-clause-lost : goal.returns-in-None-clause-lost
returns-in-None-clause-lost g c = never_stops 70 ⊥ (map restored c.args.outcomes.now) c.end_of.result c.end_of.ensures

pub returns-in-None-clause-changed : goal.returns-in-None-clause-changed
returns-in-None-clause-changed g c = never_stops 72 ⊥ (map restored c.args.outcomes.now) c.end_of.result c.end_of.ensures
