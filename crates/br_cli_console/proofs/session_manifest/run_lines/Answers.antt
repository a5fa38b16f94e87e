use Rattle.std.proofs.lemmas.Result.{on_ok_weaker}
use Rattle.br_cli_console.proofs.SessionLaws.{stays_shown}
use Rattle.br_cli_console.proofs.session_manifest.run_lines.Goals as goal

-- ---- the manifest has a writer of its own

pub returns-in-Some-clause-session : goal.returns-in-Some-clause-session
returns-in-Some-clause-session g c = rw c.in-Some.is (c.prepare-prepared.result, c.prepare-prepared.ensures.begins, c.finish.ensures.finishes)

pub returns-in-Some-clause-flushed : goal.returns-in-Some-clause-flushed
returns-in-Some-clause-flushed g c = stays_shown _ _ c.prepare-prepared.result c.finish.result _ c.finish.ensures.finishes c.prepare-prepared.ensures.flushed

-- ---- it follows the answers

pub returns-in-None-clause-session : goal.returns-in-None-clause-session
returns-in-None-clause-session g c = rw c.in-None.is c.run_console.ensures.delivers

pub returns-in-None-clause-apart : goal.returns-in-None-clause-apart
returns-in-None-clause-apart g c = rw c.in-None.is (on_ok_weaker c.run_console.result (λ shown. tt) c.run_console.ensures.flushed)
