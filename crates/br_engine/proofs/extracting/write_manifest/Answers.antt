use Rattle.std.proofs.KnownBytes.{Appends-kept}
use Rattle.br_engine.proofs.extracting.write_manifest.Goals as goal

pub returns-clause-written : goal.returns-clause-written
returns-clause-written g c = Appends-kept _ _ _ _ c.in_ok-write_manifest.ensures c.flush_all.ensures.bytes
