use Rattle.std.proofs.Common.{◌≡◌, List, Option, None, Some, subst, sym}
use Rattle.std.specs.Prelude.{slice_get}
use Rattle.br_volume.specs.Memory.{volumes_of}
use Rattle.br_core.specs.Moving.{commits_at}
use Rattle.br_core.specs.declared.open_restore.OpenRestore.{OpenRestore}
use Rattle.br_core.proofs.StepLaws.{finish_given, finish_none, finish_over}
use Rattle.br_core.proofs.steps.finish_piece.Goals as goal

pub returns-in_default : goal.returns-in_default
returns-in_default c =
    let none = subst (λ (rs : List (Option OpenRestore)). commits_at (slice_get rs c.args.number) ≡ None) c.deref.ensures.value (sym c.in_default.ensures) in
    finish_none c.args.backups.now c.args.restores.now.items c.args.number c.args.piece none

pub returns-in_default-volumes_after : goal.returns-in_default-volumes_after
returns-in_default-volumes_after c =
    let told = subst (λ (rs : List (Option OpenRestore)). commits_at (slice_get rs c.args.number) ≡ Some c.in-Some.since) c.deref.ensures.value (sym c.in-Some.ensures) in
    finish_over c.args.backups.now c.args.restores.now.items c.args.number c.args.piece c.in-Some.since c.requires told (sym c.in_default-volumes_after.ensures)

pub returns : goal.returns
returns c =
    let told = subst (λ (rs : List (Option OpenRestore)). commits_at (slice_get rs c.args.number) ≡ Some c.in-Some.since) c.deref.ensures.value (sym c.in-Some.ensures) in
    finish_given c.args.backups.now c.args.restores.now.items c.step_of_one.new.restores.items c.args.number c.args.piece c.in-Some.since (volumes_of c.in-Some-volumes_after.volumes.now)
    c.step_of_one.result c.requires told (sym c.in-Some-volumes_after.ensures) c.step_of_one.ensures
