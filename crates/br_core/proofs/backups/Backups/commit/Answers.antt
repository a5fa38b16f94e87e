use Rattle.std.proofs.Common.{OnOk, ap, subst, ◌∙◌}
use Rattle.std.proofs.lemmas.Result.{err_from_is_err_and}
use Rattle.br_core.specs.Machine.{World, lengths_of}
use Rattle.br_core.specs.Backups.{backups_of}
use Rattle.br_core.specs.Committing.{AppendsSession, CommitsTo}
use Rattle.br_core.proofs.BackupLaws.{adds, appends, are_whole, as_many, refuses}
use Rattle.br_core.proofs.backups.Backups.commit.Goals as goal

pub returns-in_err-starts-clause-each : goal.returns-in_err-starts-clause-each
returns-in_err-starts-clause-each c = as_many c.args.self.now _ _ _ c.self.view_is c.self.invariant

pub returns-in_err-starts-clause-whole : goal.returns-in_err-starts-clause-whole
returns-in_err-starts-clause-whole c = are_whole c.args.self.now _ _ _ c.self.view_is c.self.invariant

pub returns-in_err-rows-clause-committed : goal.returns-in_err-rows-clause-committed
returns-in_err-rows-clause-committed c =
    let p = err_from_is_err_and c.from_residual-in_err-rows.result c.from_residual-in_err-rows.ensures.1 in
    let starts = c.deref.ensures.value ∙ c.in_ok-starts.ensures ∙ ap lengths_of c.volumes.ensures in
    rw (p.1, p.2) (refuses c.args.self.now _ _ _ c.args.job _ c.in_err-rows.field-0.0 c.self.view_is c.self.invariant starts c.in_err-rows.ensures)

pub returns-in_err-rows-clause-each : goal.returns-in_err-rows-clause-each
returns-in_err-rows-clause-each c = as_many c.args.self.now _ _ _ c.self.view_is c.self.invariant

pub returns-in_err-rows-clause-whole : goal.returns-in_err-rows-clause-whole
returns-in_err-rows-clause-whole c = are_whole c.args.self.now _ _ _ c.self.view_is c.self.invariant

pub returns-in_err-later-clause-each : goal.returns-in_err-later-clause-each
returns-in_err-later-clause-each c = as_many c.args.self.now _ _ _ c.self.view_is c.self.invariant

pub returns-in_err-later-clause-whole : goal.returns-in_err-later-clause-whole
returns-in_err-later-clause-whole c = are_whole c.args.self.now _ _ _ c.self.view_is c.self.invariant

pub invariant_of-self : goal.invariant_of-self
invariant_of-self c =
    let old = c.self.inside in
    let new = c.add.new in
    let starts = c.deref.ensures.value ∙ c.in_ok-starts.ensures ∙ ap lengths_of c.volumes.ensures in
    (adds c.add.result old.history new.history old.commits.items new.commits.items old.volumes.volumes c.in_ok-later.later.volumes new.volumes.volumes c.args.job c.in_ok-rows.rows
    c.deref.result.now c.in_ok-rows.blocks.items c.deref-2.result.now c.self.invariant starts c.deref-2.ensures.value c.in_ok-rows.ensures c.in_ok-later.ensures.appended
    c.in_ok-later.ensures.extend c.add.ensures.answers c.add.ensures.ok c.add.ensures.err).1

pub returns-clause-committed : goal.returns-clause-committed
returns-clause-committed c =
    let old = c.self.inside in
    let new = c.add.new in
    let starts = c.deref.ensures.value ∙ c.in_ok-starts.ensures ∙ ap lengths_of c.volumes.ensures in
    subst (λ (w : World). CommitsTo w c.args.job (backups_of new.history new.commits.items new.volumes.volumes) c.add.result) c.self.view_is
    (adds c.add.result old.history new.history old.commits.items new.commits.items old.volumes.volumes c.in_ok-later.later.volumes new.volumes.volumes c.args.job c.in_ok-rows.rows
    c.deref.result.now c.in_ok-rows.blocks.items c.deref-2.result.now c.self.invariant starts c.deref-2.ensures.value c.in_ok-rows.ensures c.in_ok-later.ensures.appended
    c.in_ok-later.ensures.extend c.add.ensures.answers c.add.ensures.ok c.add.ensures.err).0

pub returns-clause-appends : goal.returns-clause-appends
returns-clause-appends c =
    let old = c.self.inside in
    let new = c.add.new in
    let starts = c.deref.ensures.value ∙ c.in_ok-starts.ensures ∙ ap lengths_of c.volumes.ensures in
    subst (λ (w : World). OnOk c.add.result (AppendsSession w.volumes c.args.job new.volumes.volumes)) c.self.view_is
    (appends c.add.result old.history new.history old.commits.items new.commits.items old.volumes.volumes c.in_ok-later.later.volumes new.volumes.volumes c.args.job c.in_ok-rows.rows
    c.deref.result.now c.in_ok-rows.blocks.items c.deref-2.result.now starts c.deref-2.ensures.value c.in_ok-rows.ensures c.in_ok-later.ensures.appended c.add.ensures.ok)

pub returns-clause-each : goal.returns-clause-each
returns-clause-each c = as_many c.args.self.now _ _ _ c.self.view_is c.self.invariant

pub returns-clause-whole : goal.returns-clause-whole
returns-clause-whole c = (invariant_of-self c).whole
