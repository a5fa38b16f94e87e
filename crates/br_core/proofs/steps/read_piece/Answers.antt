use Rattle.std.proofs.Common.{List, Option, None, Some, subst}
use Rattle.br_volume.specs.Memory.{volumes_of}
use Rattle.br_core.specs.Stepping.{ShowsTo}
use Rattle.br_core.specs.declared.open_restore.OpenRestore.{OpenRestore}
use Rattle.br_core.proofs.StepLaws.{read_given, read_none}
use Rattle.br_core.proofs.steps.read_piece.Goals as goal

pub returns-in_default : goal.returns-in_default
returns-in_default c =
    let none = subst (λ (rs : List (Option OpenRestore)). ShowsTo c.args.backups.now rs c.args.number c.args.commits None) c.deref.ensures.value c.in_default.ensures in
    read_none c.args.backups.now c.args.restores.now.items c.args.number c.args.piece c.args.commits none

pub returns : goal.returns
returns c =
    let volumes = volumes_of c.in-Some.volumes.now in
    let shows = subst (λ (rs : List (Option OpenRestore)). ShowsTo c.args.backups.now rs c.args.number c.args.commits (Some volumes)) c.deref.ensures.value c.in-Some.ensures in
    read_given c.args.backups.now c.args.restores.now.items c.step_of_one.new.restores.items c.args.number c.args.piece c.args.commits volumes c.step_of_one.result c.requires shows
    c.step_of_one.ensures
