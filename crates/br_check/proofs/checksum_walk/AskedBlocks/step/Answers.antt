use Rattle.std.proofs.Common.{◌∙◌, ℕ, ap, subst, sym}
use Rattle.br_model.specs.Block.{Header, read_header}
use Rattle.br_volume.proofs.ExtendLaws.{grows_more}
use Rattle.br_check.specs.AskedBlocks.{groups_of, volume_of}
use Rattle.br_check.specs.ChecksumWalk.{HasSize, InLater, IsSeen}
use Rattle.br_check.specs.declared.checksum_walk.AtAddress.TheVariants.{Bytes, Nothing}
use Rattle.br_check.proofs.LaterLaws.{size_later}
use Rattle.br_check.proofs.StepLaws.{above_ends, bad_ends, nothing_ends}
use Rattle.br_check.proofs.checksum_walk.AskedBlocks.step.Goals as goal

pub returns-then-is_above-clause-step : goal.returns-then-is_above-clause-step
returns-then-is_above-clause-step g c =
    let failures = g.D.Drive.failures c.args.drive.now in
    above_ends (g.D.Drive.shows c.args.drive.now) failures failures (volume_of c.args.self.now) (groups_of c.args.self.now) c.args.addr c.args.text.now.items
    (sym c.is_above.ensures ∙ c.if-is_above.true)

pub pass-requires-clause-sized : goal.pass-requires-clause-sized
pass-requires-clause-sized g c =
    let volume = volume_of c.args.self.now in
    let a = c.args.addr in
    let shown = g.D.Drive.shows c.read.new.drive in
    let buffer = c.read.new.buf.items in
    let h = c.in-Ok.head in
    let seen : IsSeen shown (g.D.Drive.failures c.args.drive.now) (g.D.Drive.failures c.read.new.drive) volume a 24 buffer Bytes = rw (c.in-Bytes.is) at c.in_ok-read.ensures.seen in
    subst (λ (n : ℕ). InLater shown volume (λ bytes. HasSize bytes a n)) (sym (ap (λ (g : Header). g.size) c.head.view_is))
    (size_later shown volume a buffer h seen.0 (ap read_header (sym c.deref.ensures.value) ∙ c.in-Ok.ensures.exact))

pub returns-in-Ok-clause-grows : goal.returns-in-Ok-clause-grows
returns-in-Ok-clause-grows g c =
    grows_more (g.D.Drive.shows c.args.drive.now) (g.D.Drive.shows c.read.new.drive) (g.D.Drive.shows c.pass.new.drive) c.read.ensures.grows c.pass.ensures.grows

pub returns-in-Err-clause-step : goal.returns-in-Err-clause-step
returns-in-Err-clause-step g c =
    let volume = volume_of c.args.self.now in
    let a = c.args.addr in
    let shown = g.D.Drive.shows c.read.new.drive in
    let failures = g.D.Drive.failures c.args.drive.now in
    let failed = g.D.Drive.failures c.read.new.drive in
    let buffer = c.read.new.buf.items in
    let seen : IsSeen shown failures failed volume a 24 buffer Bytes = rw (c.in-Bytes.is) at c.in_ok-read.ensures.seen in
    bad_ends shown failures failed volume (groups_of c.args.self.now) a c.args.text.now.items buffer _ (sym c.is_above.ensures ∙ c.if-is_above.false)
    (ap read_header (sym c.deref.ensures.value) ∙ c.in-Err.ensures.exact) seen.0

pub returns-in-Nothing-clause-step : goal.returns-in-Nothing-clause-step
returns-in-Nothing-clause-step g c =
    let volume = volume_of c.args.self.now in
    let shown = g.D.Drive.shows c.read.new.drive in
    let failures = g.D.Drive.failures c.args.drive.now in
    let failed = g.D.Drive.failures c.read.new.drive in
    let seen : IsSeen shown failures failed volume c.args.addr 24 c.read.new.buf.items Nothing = rw (c.in-Nothing.is) at c.in_ok-read.ensures.seen in
    nothing_ends shown failures failed volume (groups_of c.args.self.now) c.args.addr c.args.text.now.items seen
