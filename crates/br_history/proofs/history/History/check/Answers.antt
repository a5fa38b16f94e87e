use Rattle.std.proofs.Common.{[], ap, ◌∙◌}
use Rattle.br_model.specs.Job.{JobRow}
use Rattle.br_history.proofs.AdmittedLaws.{admitted_with_id, admitted_with_session, admitted_new}
use Rattle.br_history.proofs.HistoryLaws.{has_number, has_session}
use Rattle.br_history.proofs.history.History.check.Goals as goal

pub returns-then-contains : goal.returns-then-contains
returns-then-contains c =
    admitted_with_id c.args.self.now c.args.row.now
    (has_number _ c.args.self.now c.self.inside.ids c.self.inside.sessions (record { row = c.args.row.now; files = []; spans = [] }) c.row.inside.id _ c.self.invariant c.self.view_is
    (ap (λ (r : JobRow). r.id) c.row.view_is) c.contains.ensures
    ∙ c.if-contains.true)

pub returns-then-contains-2 : goal.returns-then-contains-2
returns-then-contains-2 c =
    admitted_with_session c.args.self.now c.args.row.now
    (has_number _ c.args.self.now c.self.inside.ids c.self.inside.sessions (record { row = c.args.row.now; files = []; spans = [] }) c.row.inside.id _ c.self.invariant c.self.view_is
    (ap (λ (r : JobRow). r.id) c.row.view_is) c.contains.ensures
    ∙ c.if-contains.false)
    (has_session _ c.args.self.now c.self.inside.ids c.self.inside.sessions (record { row = c.args.row.now; files = []; spans = [] }) c.row.inside.session _ c.self.invariant c.self.view_is
    (ap (λ (r : JobRow). r.session) c.row.view_is) c.contains-2.ensures
    ∙ c.if-contains-2.true)

pub returns : goal.returns
returns c =
    admitted_new c.args.self.now c.args.row.now
    (has_number _ c.args.self.now c.self.inside.ids c.self.inside.sessions (record { row = c.args.row.now; files = []; spans = [] }) c.row.inside.id _ c.self.invariant c.self.view_is
    (ap (λ (r : JobRow). r.id) c.row.view_is) c.contains.ensures
    ∙ c.if-contains.false)
    (has_session _ c.args.self.now c.self.inside.ids c.self.inside.sessions (record { row = c.args.row.now; files = []; spans = [] }) c.row.inside.session _ c.self.invariant c.self.view_is
    (ap (λ (r : JobRow). r.session) c.row.view_is) c.contains-2.ensures
    ∙ c.if-contains-2.false)
