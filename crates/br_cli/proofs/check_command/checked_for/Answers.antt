use Rattle.std.proofs.Common.{List, Option, ℕ, subst}
use Rattle.std.proofs.lemmas.Result.{IfOk-weaker}
use Rattle.std.specs.Io.KnownBytes.{Appends}
use Rattle.br_volume.proofs.ExtendLaws.{grows_more}
use Rattle.br_check.specs.Check.{ChecksOver}
use Rattle.br_check.specs.Shown.{shown_between}
use Rattle.br_cli.proofs.TellLaws.{tells_after}
use Rattle.br_cli.proofs.check_command.checked_for.Goals as goal

pub returns-in-Passed-clause-checked : goal.returns-in-Passed-clause-checked
returns-in-Passed-clause-checked g c =
    rw c.in-Passed.is
    (subst
    (λ (cs : List (Option ℕ)). ChecksOver (shown_between g.D.Drive c.args.drive.now c.check.new.drive) c.args.read.now.bootstrap cs c.args.budget c.in_ok-checked.checked)
    c.deref.ensures.value c.in_ok-checked.ensures.checked)

pub returns-in-Compared-clause-checked : goal.returns-in-Compared-clause-checked
returns-in-Compared-clause-checked g c =
    let checks =
    subst
    (λ (cs : List (Option ℕ)). ChecksOver (shown_between g.D.Drive c.args.drive.now c.check.new.drive) c.args.read.now.bootstrap cs c.args.budget c.in_ok-checked.checked)
    c.deref.ensures.value c.in_ok-checked.ensures.checked in
    rw c.in-Compared.is
    (IfOk-weaker c.with_checksums.result _ _ (λ summed sums. (c.check.new.drive, c.in_ok-checked.checked, checks, sums)) c.with_checksums.ensures.sums)

pub returns-in-Compared-clause-grows : goal.returns-in-Compared-clause-grows
returns-in-Compared-clause-grows g c =
    grows_more (g.D.Drive.shows c.args.drive.now) (g.D.Drive.shows c.check.new.drive) (g.D.Drive.shows c.with_checksums.new.drive) c.check.ensures.grows
    c.with_checksums.ensures.grows

pub returns-in-Compared-clause-written : goal.returns-in-Compared-clause-written
returns-in-Compared-clause-written g c =
    let first = c.in_ok-checked.checked.findings.items in
    let held = g.W.Write.contents c.args.writer.now in
    let now = g.W.Write.contents c.show.new.writer in
    let shown = subst (λ (xs : List ℕ). Appends held now xs) c.deref-2.ensures.value c.in_ok-show.ensures.written in
    IfOk-weaker c.with_checksums.result _ _ (λ summed told. tells_after held now (g.W.Write.contents c.with_checksums.new.writer) first summed.findings.items shown told)
    c.with_checksums.ensures.written
