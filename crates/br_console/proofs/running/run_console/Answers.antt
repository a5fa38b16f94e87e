use Rattle.std.proofs.Common.{Option, Some, None, Ok, map, refl, subst}
use Rattle.std.proofs.lemmas.Result.{err_from_is_err_and}
use Rattle.br_model.specs.Plan.{Plan}
use Rattle.br_pool.proofs.WorkedLaws.{all_kept}
use Rattle.br_engine.specs.Restores.{change}
use Rattle.br_engine.proofs.EndLaws.{stops_weaker}
use Rattle.br_console.specs.ConsoleFault.{IsNoPiece}
use Rattle.br_console.specs.Running.{BeginsOver}
use Rattle.br_console.proofs.RunLaws.{misses_nothing, misses_planned, no_drive_in_piece, none_planned, restores_files, restores_undone, runs_refused, runs_restored, runs_stopped, runs_undone, tells_refused, tells_restored, tells_stopped, tells_undone}
use Rattle.br_console.proofs.running.run_console.Goals as goal

-- ---- before a drive is asked

pub returns-in_err-lines-clause-delivers : goal.returns-in_err-lines-clause-delivers
returns-in_err-lines-clause-delivers g c =
    let p = err_from_is_err_and c.from_residual.result c.from_residual.ensures.1 in
    rw p.1 refl

pub returns-in_err-lines-clause-runs : goal.returns-in_err-lines-clause-runs
returns-in_err-lines-clause-runs g c =
    let p = err_from_is_err_and c.from_residual.result c.from_residual.ensures.1 in
    let shown = map g.D.Drive.shows c.args.restore.now.drives.items in
    rw (p.1, p.2)
    (runs_refused (g.R.Read.remaining c.args.reader.now) shown shown (g.W.Write.contents c.args.writer.now) (g.W.Write.contents c.prepare.new.writer)
    c.args.asked.now.history c.args.asked.now.request c.in_err-lines.field-0.0 c.in_err-lines.ensures.begins)

pub returns-in_err-lines-clause-tells : goal.returns-in_err-lines-clause-tells
returns-in_err-lines-clause-tells g c =
    let p = err_from_is_err_and c.from_residual.result c.from_residual.ensures.1 in
    rw (p.1, p.2)
    (tells_refused (g.R.Read.remaining c.args.reader.now) (g.W.Write.contents c.args.writer.now) (g.W.Write.contents c.prepare.new.writer)
    c.args.asked.now.history c.args.asked.now.request c.in_err-lines.field-0.0 c.in_err-lines.ensures.begins)

pub returns-in_err-lines-clause-untouched : goal.returns-in_err-lines-clause-untouched
returns-in_err-lines-clause-untouched g c = λ n refused.
    let same = c.in_err-lines.ensures.untouched n refused in
    (same.0, refl, same.1)

pub returns-in_err-lines-clause-places : goal.returns-in_err-lines-clause-places
returns-in_err-lines-clause-places g c = all_kept g.D.Drive.shows g.D.Drive.failures c.args.restore.now.drives.items

pub returns-in_err-lines-clause-endless : goal.returns-in_err-lines-clause-endless
returns-in_err-lines-clause-endless g c =
    let p = err_from_is_err_and c.from_residual.result c.from_residual.ensures.1 in
    rw (p.1, p.2) c.in_err-lines.ensures.endless

pub returns-in_err-lines-clause-failed : goal.returns-in_err-lines-clause-failed
returns-in_err-lines-clause-failed g c =
    let p = err_from_is_err_and c.from_residual.result c.from_residual.ensures.1 in
    rw (p.1, p.2) (λ is. absurd (no_drive_in_piece c.in_err-lines.field-0.0 c.in_err-lines.ensures.driveless is))

pub returns-in_err-lines-clause-changed : goal.returns-in_err-lines-clause-changed
returns-in_err-lines-clause-changed g c =
    let p = err_from_is_err_and c.from_residual.result c.from_residual.ensures.1 in
    rw (p.1, p.2) (λ is. absurd (subst IsNoPiece is c.in_err-lines.ensures.driveless))

-- ---- the dialogue did not end by `done`

pub returns-in_default-clause-delivers : goal.returns-in_default-clause-delivers
returns-in_default-clause-delivers g c =
    let known = g.R.Read.remaining c.args.reader.now in
    let shown = map g.D.Drive.shows c.args.restore.now.drives.items in
    let before = g.W.Write.contents c.args.writer.now in
    let after = g.W.Write.contents c.prepare.new.writer in
    let asked = c.args.asked.now in
    let lines = c.in_ok-lines.lines in (
      None,
      restores_undone known shown shown before after asked.history asked.request lines
          (subst (λ (plan : Option Plan). BeginsOver known before after asked.history asked.request (Ok (lines, plan))) c.in_default.is c.in_ok-lines.ensures.begins),
      refl,
      misses_nothing known asked.history asked.request c.args.wanted,
    )

pub returns-in_default-clause-runs : goal.returns-in_default-clause-runs
returns-in_default-clause-runs g c =
    let known = g.R.Read.remaining c.args.reader.now in
    let shown = map g.D.Drive.shows c.args.restore.now.drives.items in
    let before = g.W.Write.contents c.args.writer.now in
    let after = g.W.Write.contents c.prepare.new.writer in
    let asked = c.args.asked.now in
    let lines = c.in_ok-lines.lines in
    runs_undone known shown shown before after asked.history asked.request lines
    (subst (λ (plan : Option Plan). BeginsOver known before after asked.history asked.request (Ok (lines, plan))) c.in_default.is c.in_ok-lines.ensures.begins)

pub returns-in_default-clause-tells : goal.returns-in_default-clause-tells
returns-in_default-clause-tells g c =
    let known = g.R.Read.remaining c.args.reader.now in
    let before = g.W.Write.contents c.args.writer.now in
    let after = g.W.Write.contents c.prepare.new.writer in
    let asked = c.args.asked.now in
    let lines = c.in_ok-lines.lines in
    tells_undone known before after asked.history asked.request lines
    (subst (λ (plan : Option Plan). BeginsOver known before after asked.history asked.request (Ok (lines, plan))) c.in_default.is c.in_ok-lines.ensures.begins)

pub returns-in_default-clause-untouched : goal.returns-in_default-clause-untouched
returns-in_default-clause-untouched g c = λ n refused. absurd (c.in_ok-lines.ensures.chosen n refused)

pub returns-in_default-clause-places : goal.returns-in_default-clause-places
returns-in_default-clause-places g c = all_kept g.D.Drive.shows g.D.Drive.failures c.args.restore.now.drives.items

-- ---- the restore is refused

pub returns-in-Err-clause-delivers : goal.returns-in-Err-clause-delivers
returns-in-Err-clause-delivers g c = c.in-Err.ensures.restores.2

pub returns-in-Err-clause-runs : goal.returns-in-Err-clause-runs
returns-in-Err-clause-runs g c =
    let known = g.R.Read.remaining c.args.reader.now in
    let before = g.W.Write.contents c.args.writer.now in
    let seen = change g.D.Drive g.W.Write g.S.Sink (c.args.restore.now, c.prepare.new.writer) (c.restore_plan.new.restore, c.restore_plan.new.writer) in
    let asked = c.args.asked.now in
    let lines = c.in_ok-lines.lines in
    let plan = c.in-Some.plan in
    let begins =
    subst (λ (p : Option Plan). BeginsOver known before seen.old.written asked.history asked.request (Ok (lines, p))) c.in-Some.is c.in_ok-lines.ensures.begins in
    runs_stopped known c.args.wanted seen.old.told seen.new.told before seen.old.written seen.new.written seen.old.has seen.new.has asked.history asked.request lines plan c.in-Err.fault begins
    c.in-Err.ensures.restores

pub returns-in-Err-clause-tells : goal.returns-in-Err-clause-tells
returns-in-Err-clause-tells g c =
    let known = g.R.Read.remaining c.args.reader.now in
    let before = g.W.Write.contents c.args.writer.now in
    let seen = change g.D.Drive g.W.Write g.S.Sink (c.args.restore.now, c.prepare.new.writer) (c.restore_plan.new.restore, c.restore_plan.new.writer) in
    let asked = c.args.asked.now in
    let lines = c.in_ok-lines.lines in
    let plan = c.in-Some.plan in
    let begins =
    subst (λ (p : Option Plan). BeginsOver known before seen.old.written asked.history asked.request (Ok (lines, p))) c.in-Some.is c.in_ok-lines.ensures.begins in
    tells_stopped known before seen.old.written seen.new.written asked.history asked.request lines plan c.in-Err.fault begins c.in-Err.ensures.restores.1

pub returns-in-Err-clause-untouched : goal.returns-in-Err-clause-untouched
returns-in-Err-clause-untouched g c = λ n refused. absurd (c.in_ok-lines.ensures.chosen n refused)

pub returns-in-Err-clause-changed : goal.returns-in-Err-clause-changed
returns-in-Err-clause-changed g c = λ is.
    let known = g.R.Read.remaining c.args.reader.now in
    let before = g.W.Write.contents c.args.writer.now in
    let seen = change g.D.Drive g.W.Write g.S.Sink (c.args.restore.now, c.prepare.new.writer) (c.restore_plan.new.restore, c.restore_plan.new.writer) in
    let asked = c.args.asked.now in
    let lines = c.in_ok-lines.lines in
    let plan = c.in-Some.plan in
    let begins =
    subst (λ (p : Option Plan). BeginsOver known before seen.old.written asked.history asked.request (Ok (lines, p))) c.in-Some.is c.in_ok-lines.ensures.begins in
    none_planned known seen.old.told seen.new.told before seen.old.written asked.history asked.request lines plan begins (c.in-Err.ensures.changed is)

-- ---- the files are restored

pub returns-in-Ok-clause-delivers : goal.returns-in-Ok-clause-delivers
returns-in-Ok-clause-delivers g c =
    let known = g.R.Read.remaining c.args.reader.now in
    let before = g.W.Write.contents c.args.writer.now in
    let seen = change g.D.Drive g.W.Write g.S.Sink (c.args.restore.now, c.prepare.new.writer) (c.restore_plan.new.restore, c.restore_plan.new.writer) in
    let asked = c.args.asked.now in
    let lines = c.in_ok-lines.lines in
    let plan = c.in-Some.plan in
    let begins =
    subst (λ (p : Option Plan). BeginsOver known before seen.old.written asked.history asked.request (Ok (lines, p))) c.in-Some.is c.in_ok-lines.ensures.begins in
    let made = c.in-Ok.ensures.restores in (
      Some made.0,
      restores_files known c.args.wanted seen.old.told seen.new.told before seen.old.written seen.new.written seen.old.has seen.new.has asked.history asked.request lines plan c.in-Ok.done begins made,
      made.3,
      misses_planned known before seen.old.written asked.history asked.request lines plan c.args.wanted made.0 c.in-Ok.done begins made.4,
    )

pub returns-in-Ok-clause-runs : goal.returns-in-Ok-clause-runs
returns-in-Ok-clause-runs g c =
    let known = g.R.Read.remaining c.args.reader.now in
    let before = g.W.Write.contents c.args.writer.now in
    let seen = change g.D.Drive g.W.Write g.S.Sink (c.args.restore.now, c.prepare.new.writer) (c.restore_plan.new.restore, c.restore_plan.new.writer) in
    let asked = c.args.asked.now in
    let lines = c.in_ok-lines.lines in
    let plan = c.in-Some.plan in
    let begins =
    subst (λ (p : Option Plan). BeginsOver known before seen.old.written asked.history asked.request (Ok (lines, p))) c.in-Some.is c.in_ok-lines.ensures.begins in
    runs_restored known c.args.wanted seen.old.told seen.new.told before seen.old.written seen.new.written seen.old.has seen.new.has asked.history asked.request lines plan c.in-Ok.done begins
    c.in-Ok.ensures.restores

pub returns-in-Ok-clause-tells : goal.returns-in-Ok-clause-tells
returns-in-Ok-clause-tells g c =
    let known = g.R.Read.remaining c.args.reader.now in
    let before = g.W.Write.contents c.args.writer.now in
    let seen = change g.D.Drive g.W.Write g.S.Sink (c.args.restore.now, c.prepare.new.writer) (c.restore_plan.new.restore, c.restore_plan.new.writer) in
    let asked = c.args.asked.now in
    let lines = c.in_ok-lines.lines in
    let plan = c.in-Some.plan in
    let begins =
    subst (λ (p : Option Plan). BeginsOver known before seen.old.written asked.history asked.request (Ok (lines, p))) c.in-Some.is c.in_ok-lines.ensures.begins in
    tells_restored known c.args.wanted seen.old.told seen.new.told before seen.old.written seen.new.written seen.old.has seen.new.has asked.history asked.request lines plan c.in-Ok.done begins
    c.in-Ok.ensures.restores

pub returns-in-Ok-clause-untouched : goal.returns-in-Ok-clause-untouched
returns-in-Ok-clause-untouched g c = λ n refused. absurd (c.in_ok-lines.ensures.chosen n refused)

pub returns-in-Ok-clause-changed : goal.returns-in-Ok-clause-changed
returns-in-Ok-clause-changed g c =
    let known = g.R.Read.remaining c.args.reader.now in
    let before = g.W.Write.contents c.args.writer.now in
    let seen = change g.D.Drive g.W.Write g.S.Sink (c.args.restore.now, c.prepare.new.writer) (c.restore_plan.new.restore, c.restore_plan.new.writer) in
    let asked = c.args.asked.now in
    let lines = c.in_ok-lines.lines in
    let plan = c.in-Some.plan in
    let begins =
    subst (λ (p : Option Plan). BeginsOver known before seen.old.written asked.history asked.request (Ok (lines, p))) c.in-Some.is c.in_ok-lines.ensures.begins in
    stops_weaker 72 _ _ c.in-Ok.done.end
    (none_planned known seen.old.told seen.new.told before seen.old.written asked.history asked.request lines plan begins)
    c.in-Ok.ensures.changed
