use Rattle.std.proofs.Common.{◌∙◌, ℕ, List, subst, sym}
use Rattle.std.proofs.lemmas.Result.{IfOk-weaker}
use Rattle.br_check.specs.AskedBlocks.{groups_of, volume_of}
use Rattle.br_check.specs.ChecksumWalk.{HasSize, IsCompared, IsSeen}
use Rattle.br_check.specs.declared.checksum_walk.AtAddress.TheVariants.{Bytes}
use Rattle.br_check.proofs.LaterLaws.{still}
use Rattle.br_check.proofs.StepLaws.{compared_step, unasked_passes}
use Rattle.br_check.proofs.checksum_walk.AskedBlocks.pass.Goals as goal

pub returns-then-not-covers_any-clause-step : goal.returns-then-not-covers_any-clause-step
returns-then-not-covers_any-clause-step g c =
    let failures = g.D.Drive.failures c.args.drive.now in
    unasked_passes (g.D.Drive.shows c.args.drive.now) failures failures (volume_of c.args.self.now) (groups_of c.args.self.now) c.args.addr c.args.text.now.items c.args.size
    c.requires.near (sym c.covers_any.ensures ∙ c.if-not-covers_any.true) c.requires.sized

pub returns-in-Bytes-clause-step : goal.returns-in-Bytes-clause-step
returns-in-Bytes-clause-step g c =
    let asked = c.args.self.now in
    let a = c.args.addr in
    let size = c.args.size in
    let first = g.D.Drive.shows c.args.drive.now in
    let second = g.D.Drive.shows c.read.new.drive in
    let failures = g.D.Drive.failures c.args.drive.now in
    let failed = g.D.Drive.failures c.read.new.drive in
    let text = c.args.text.now.items in
    let after = c.compare.new.text.items in
    let buffer = c.read.new.buf.items in
    let seen : IsSeen second failures failed (volume_of asked) a size buffer Bytes = rw (c.in-Bytes.is) at c.in_ok-read.ensures.seen in
    IfOk-weaker c.compare.result _ _
    (λ step is.
    compared_step second failures failed (volume_of asked) (groups_of asked) a text size buffer after step c.requires.near (sym c.covers_any.ensures ∙ c.if-not-covers_any.false)
    (still first second (volume_of asked) (λ bytes. HasSize bytes a size) c.read.ensures.grows c.requires.sized) seen.0
    (subst (λ (xs : List ℕ). IsCompared (volume_of asked) a size xs text after step) c.deref.ensures.value is))
    c.compare.ensures
