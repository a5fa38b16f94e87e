use Rattle.std.proofs.Common.{Err, ap, subst, sym}
use Rattle.std.proofs.lemmas.Result.{IfOk-weaker}
use Rattle.br_volume.specs.declared.fault.DriveFault.{DriveFault}
use Rattle.br_check.specs.ChecksumWalk.{IsSeen}
use Rattle.br_check.specs.declared.checksum_walk.AtAddress.{AtAddress}
use Rattle.br_check.proofs.ReadLaws.{read_seen, unread_seen}
use Rattle.br_check.proofs.checksum_walk.read.Goals as goal

pub returns-in-Ok-clause-seen : goal.returns-in-Ok-clause-seen
returns-in-Ok-clause-seen g c =
    let shown = g.D.Drive.shows c.block_at.new.self in
    let failures = g.D.Drive.failures c.args.drive.now in
    let failed = g.D.Drive.failures c.block_at.new.self in
    let buffer = c.block_at.new.buf.items in
    subst (λ (s : AtAddress). IsSeen shown failures failed c.args.vol.now c.args.addr c.args.size buffer s) (sym c.seen_by.ensures)
    (read_seen shown failures failed c.args.vol.now c.args.addr c.args.size buffer c.in-Ok.got c.in-Ok.ensures.answers c.in-Ok.ensures.sized)

pub returns-in-Err-clause-seen : goal.returns-in-Err-clause-seen
returns-in-Err-clause-seen g c =
    let shown = g.D.Drive.shows c.block_at.new.self in
    let failures = g.D.Drive.failures c.args.drive.now in
    let failed = g.D.Drive.failures c.block_at.new.self in
    IfOk-weaker c.unseen.result _ _
    (λ s which.
    unread_seen shown failures failed c.args.vol.now c.args.addr c.args.size c.block_at.new.buf.items c.in-Err.fault s c.in-Err.ensures.answers
    (λ is. c.in-Err.ensures.failed (ap (λ (f : DriveFault). Err f) is)) which)
    c.unseen.ensures
