use Rattle.std.proofs.Common.{refl}
use Rattle.std.proofs.KnownBytes.{Appends-trans}
use Rattle.br_check.specs.Check.{end_text}
use Rattle.br_cli.proofs.check_command.check_over.Goals as goal

-- ---- the text of the bootstrap is refused

pub returns-in-Err-clause-checks : goal.returns-in-Err-clause-checks
returns-in-Err-clause-checks g c = simp c.in-Err.is (refl, refl)

-- ---- it is checked

pub returns-clause-checks : goal.returns-clause-checks
returns-clause-checks g c =
    let checked = c.in_ok-checked.checked in
    let held = g.W.Write.contents c.args.writer.now in
    let now = g.W.Write.contents c.checked_for.new.writer in
    let holds = g.W.Write.contents c.show_end.new.writer in
    simp c.in-Ok.is (
      checked,
      c.in_ok-checked.ensures.checked,
      Appends-trans held now holds checked.findings.items (end_text checked) c.in_ok-checked.ensures.written c.in_ok-show_end.ensures.written,
      c.status_of.ensures,
    )
