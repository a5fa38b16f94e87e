use Rattle.br_keeper.specs.Keeping.{shelf_of}
use Rattle.br_keeper.specs.Outcomes.{lasting}
use Rattle.br_keeper.proofs.HoldingLaws.{commits_hold}
use Rattle.br_keeper.proofs.OutcomeLaws.{blocks_of, committed, refused_of, stored_of, torn_of, waits_of}
use Rattle.br_keeper.proofs.OutlastingLaws.{commits_outlast}
use Rattle.br_keeper.proofs.keeper.Keeper.commit.Goals as goal

pub returns-clause-stored : goal.returns-clause-stored
returns-clause-stored g c =
    stored_of g.C.JobStore.inserts g.C.JobStore.refuses (shelf_of g.W.VolumeStore.holds g.W.VolumeStore.failures) c.args.job c.args.self.now c.commit_saved.new.self
    c.commit_saved.result
    (committed (lasting g.C.JobStore g.W.VolumeStore) c.args.job c.args.self.now c.commit_saved.new.self c.commit_saved.result c.commit_saved.ensures.commits)

pub returns-clause-waits : goal.returns-clause-waits
returns-clause-waits g c =
    waits_of g.C.JobStore.inserts g.C.JobStore.refuses (shelf_of g.W.VolumeStore.holds g.W.VolumeStore.failures) c.args.job c.args.self.now c.commit_saved.new.self
    c.commit_saved.result
    (committed (lasting g.C.JobStore g.W.VolumeStore) c.args.job c.args.self.now c.commit_saved.new.self c.commit_saved.result c.commit_saved.ensures.commits)

pub returns-clause-blocks : goal.returns-clause-blocks
returns-clause-blocks g c =
    blocks_of g.C.JobStore.inserts g.C.JobStore.refuses (shelf_of g.W.VolumeStore.holds g.W.VolumeStore.failures) c.args.job c.args.self.now c.commit_saved.new.self
    c.commit_saved.result
    (committed (lasting g.C.JobStore g.W.VolumeStore) c.args.job c.args.self.now c.commit_saved.new.self c.commit_saved.result c.commit_saved.ensures.commits)

pub returns-clause-torn : goal.returns-clause-torn
returns-clause-torn g c =
    torn_of g.C.JobStore.inserts g.C.JobStore.refuses (shelf_of g.W.VolumeStore.holds g.W.VolumeStore.failures) c.args.job c.args.self.now c.commit_saved.new.self
    c.commit_saved.result
    (committed (lasting g.C.JobStore g.W.VolumeStore) c.args.job c.args.self.now c.commit_saved.new.self c.commit_saved.result c.commit_saved.ensures.commits)

pub returns-clause-refused : goal.returns-clause-refused
returns-clause-refused g c =
    refused_of g.C.JobStore.inserts g.C.JobStore.refuses (shelf_of g.W.VolumeStore.holds g.W.VolumeStore.failures) c.args.job c.args.self.now c.commit_saved.new.self
    c.commit_saved.result
    (committed (lasting g.C.JobStore g.W.VolumeStore) c.args.job c.args.self.now c.commit_saved.new.self c.commit_saved.result c.commit_saved.ensures.commits)

pub returns-clause-holds : goal.returns-clause-holds
returns-clause-holds g c =
    commits_hold g.C.JobStore.inserts g.C.JobStore.refuses (shelf_of g.W.VolumeStore.holds g.W.VolumeStore.failures) c.args.job c.args.self.now c.commit_saved.new.self
    c.commit_saved.result
    (committed (lasting g.C.JobStore g.W.VolumeStore) c.args.job c.args.self.now c.commit_saved.new.self c.commit_saved.result c.commit_saved.ensures.commits)

pub returns-clause-outlasts : goal.returns-clause-outlasts
returns-clause-outlasts g c =
    commits_outlast (lasting g.C.JobStore g.W.VolumeStore) c.args.job c.args.self.now c.commit_saved.new.self c.commit_saved.result c.commit_saved.ensures.commits
    c.commit_saved.ensures.lasts
