use Rattle.std.proofs.Common.{◌∙◌, ap, subst, sym, Result}
use Rattle.br_model.specs.Job.{JobRow}
use Rattle.br_keeper.specs.Beginnings.{Beginning}
use Rattle.br_keeper.specs.Channel.{IsCommit, Replied}
use Rattle.br_keeper.specs.Keeping.{shelf_of}
use Rattle.br_keeper.specs.Outcomes.{lasting}
use Rattle.br_keeper.specs.declared.fault.KeeperFault.{KeeperFault}
use Rattle.br_keeper.proofs.OutcomeLaws.{commits_of}
use Rattle.br_keeper.proofs.ServedLaws.{replies}
use Rattle.br_keeper.proofs.channel.answer.Goals as goal

pub reply_to-requires : goal.reply_to-requires
reply_to-requires g c =
    let shelf = shelf_of g.W.VolumeStore.holds g.W.VolumeStore.failures in
    let says = c.commit-receipt.ensures in
    let commits =
    commits_of g.C.JobStore.inserts g.C.JobStore.refuses shelf c.args.job c.args.keeper.now c.commit-receipt.new.self c.commit-receipt.result
    says.stored says.waits says.blocks says.torn says.refused in
    rw (ap (λ (row : JobRow). row.id) (c.behind-job.view_is ∙ c.row.ensures.same)) (
    replies g.C.JobStore.inserts g.C.JobStore.refuses shelf c.args.job g.K.Naming.book c.args.keeper.now c.commit-receipt.new.self c.commit-receipt.result c.requires commits)

pub returns-clause-commit : goal.returns-clause-commit
returns-clause-commit g c =
    let shelf = shelf_of g.W.VolumeStore.holds g.W.VolumeStore.failures in
    let says = c.commit-receipt.ensures in
    subst
    (λ (r : Result Beginning KeeperFault). IsCommit (lasting g.C.JobStore g.W.VolumeStore) c.args.job c.args.keeper.now c.commit-receipt.new.self r)
    (sym (ap (λ (r : Replied). r.receipt) c.reply_to.ensures)) (
      commits_of g.C.JobStore.inserts g.C.JobStore.refuses shelf c.args.job c.args.keeper.now c.commit-receipt.new.self c.commit-receipt.result
          says.stored says.waits says.blocks says.torn says.refused,
      says.holds,
      says.outlasts,
    )
