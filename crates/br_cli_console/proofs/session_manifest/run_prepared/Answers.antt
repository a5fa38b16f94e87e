use Rattle.std.proofs.lemmas.Result.{on_ok_weaker}
use Rattle.br_cli_console.proofs.session_manifest.run_prepared.Goals as goal

pub returns-in-Some-clause-finishes : goal.returns-in-Some-clause-finishes
returns-in-Some-clause-finishes g c = rw c.in-Some.is c.finish.ensures.finishes

pub returns-in-None-clause-finishes : goal.returns-in-None-clause-finishes
returns-in-None-clause-finishes g c = rw c.in-None.is c.finish-in-None.ensures.finishes

pub returns-in-None-clause-apart : goal.returns-in-None-clause-apart
returns-in-None-clause-apart g c = rw c.in-None.is (on_ok_weaker c.finish-in-None.result (λ shown. tt) c.finish-in-None.ensures.flushed)
