use Rattle.std.proofs.Common.{sym, subst}
use Rattle.std.proofs.lemmas.Result.{IfOk-weaker}
use Rattle.br_data.specs.ManyDrives.{RereadingMany}
use Rattle.br_reread_files.specs.Runs.{GivesRuns}
use Rattle.br_reread_files.specs.Sharing.{runs_in}
use Rattle.br_reread_files.proofs.sharing.run_works.Goals as goal

pub returns-clause-begun : goal.returns-clause-begun
returns-clause-begun g c =
    IfOk-weaker c.run_apart-done.result _ _
    (λ done begun given.
    begun
    (subst (λ (m : RereadingMany). GivesRuns m (runs_in c.args.works.items))
    (λ i. record { drives = sym c.take_drives-drives.ensures.drives i; groups = sym c.groups-groups.ensures i }) given))
    c.run_apart-done.ensures.begun
