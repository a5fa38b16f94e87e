use Rattle.std.proofs.Common.{List, Option, Ok, map, refl, sym, subst}
use Rattle.std.proofs.lemmas.Result.{err_from_is_err_and}
use Rattle.br_mark.specs.Said.{said}
use Rattle.br_core.specs.Machine.Event.{Plan}
use Rattle.br_core.specs.Stepping.{RestoresStep, world_with}
use Rattle.br_core.specs.declared.event.Reply.TheVariants.{Planned}
use Rattle.br_core.specs.declared.open_restore.OpenRestore.{OpenRestore}
use Rattle.br_core.proofs.StepLaws.{plan_begins, plan_refused}
use Rattle.br_core.proofs.steps.plan_restore.Goals as goal

pub returns-in_err-restore : goal.returns-in_err-restore
returns-in_err-restore c =
    let p = err_from_is_err_and c.from_residual.result c.from_residual.ensures.1 in
    rw (p.1, p.2)
    (plan_refused (world_with c.args.backups.now c.args.restores.now.items) c.args.request (map said c.args.script.now) c.in_err-restore.field-0.0 c.in_err-restore.ensures)

pub returns-in_err-add : goal.returns-in_err-add
returns-in_err-add c =
    let p = err_from_is_err_and c.from_residual-in_err-add.result c.from_residual-in_err-add.ensures.1 in
    rw (p.1, p.2, c.in_err-add.ensures.err) (refl, tt)

pub returns : goal.returns
returns c =
    let before = c.args.restores.now.items in
    let script = map said c.args.script.now in
    subst (λ (after : List (Option OpenRestore)). RestoresStep c.args.backups.now before (Plan c.args.request script) after (Ok (Planned c.in_ok-add.field-0))) (sym c.in_ok-add.ensures.ok)
    (plan_begins c.args.backups.now before c.args.request script c.in_ok-restore.restore c.in_ok-add.field-0 c.in_ok-restore.ensures c.in_ok-add.ensures.number)
