use Rattle.std.proofs.Common.{◌+◌, arith}
use Rattle.sqlite_wal.specs.PageSize.{bytes_of}
use Rattle.sqlite_wal.specs.Opening.{RefusesLog}
use Rattle.sqlite_wal.proofs.CleanLemmas.{halves}
use Rattle.sqlite_wal.proofs.OutcomeLemmas.{HasCause-weaker}
use Rattle.sqlite.specs.Files.{image_of}
use Rattle.sqlite.proofs.FileLemmas.{log_cause}
use Rattle.br_catalog_files.proofs.raw_store.to_seal.Goals as goal

pub returns-in-Err-clause-cause : goal.returns-in-Err-clause-cause
returns-in-Err-clause-cause g c clean =
    let files = c.args.files.now in
    let why = RefusesLog (bytes_of c.args.size) (g.D.Disk.seen files.log) in
    let more = g.D.Disk.faults files.db in
    rw c.probe_error.ensures.value (log_cause _ _ _ (image_of g.D.Disk files) _ c.in-Err.error
    (HasCause-weaker _ _ (g.D.Disk.faults files.log + more) (g.D.Disk.faults c.probe_frames.new.log + more) why why c.in-Err.error (λ fault. omega (arith, fault)) (λ x. x)
    (c.in-Err.ensures.cause.0 (halves g.D.Disk _ _ clean).0))
    (λ w. let found = w.1.2.found.found in (found.frames, rw (← w.2) found.replays)))
