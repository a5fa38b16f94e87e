use Rattle.std.proofs.Common.{◌≡◌, sym, ap, subst, ◌∙◌, List, ◌∷◌, [], ◌++◌, Ok, rules, ◌-◌, take, length, vec_len}
use Rattle.br_model.specs.Job.{JobRow, JobRows}
use Rattle.std.specs.BTreeSet.{contains}
use Rattle.std.specs.Ordering.{nat_cmp}
use Rattle.br_model.specs.Name.{session_cmp}
use Rattle.br_history.specs.Taken.{AddsId, AddsSession}
use Rattle.br_history.proofs.HistoryLaws.{has_number, has_session, pushed_with_id, pushed_with_session, pushed_new, taken_more, taken_same, as_it_was}
use Rattle.br_history.proofs.history.History.push.Goals as goal

pub returns-then-contains-clause-answers : goal.returns-then-contains-clause-answers
returns-then-contains-clause-answers c =
    let of = c.row.view_is ∙ c.row-row.ensures.same in
    pushed_with_id c.args.self.now c.args.rows
    (has_number _ c.args.self.now c.self.inside.ids c.self.inside.sessions c.args.rows c.row.inside.id _ c.self.invariant c.self.view_is (ap (λ (r : JobRow). r.id) of) c.contains.ensures
    ∙ c.if-contains.true)

pub returns-then-contains-2-clause-answers : goal.returns-then-contains-2-clause-answers
returns-then-contains-2-clause-answers c =
    let of = c.row.view_is ∙ c.row-row.ensures.same in
    pushed_with_session c.args.self.now c.args.rows
    (has_number _ c.args.self.now c.self.inside.ids c.self.inside.sessions c.args.rows c.row.inside.id _ c.self.invariant c.self.view_is (ap (λ (r : JobRow). r.id) of) c.contains.ensures
    ∙ c.if-contains.false)
    (has_session _ c.args.self.now c.self.inside.ids c.self.inside.sessions c.args.rows c.row.inside.session _ c.self.invariant c.self.view_is (ap (λ (r : JobRow). r.session) of)
    c.contains-2.ensures
    ∙ c.if-contains-2.true)

pub invariant_of-self-in-Err : goal.invariant_of-self-in-Err
invariant_of-self-in-Err c =
    let grown : c.push.new.self.items ≡ c.self.inside.jobs.items ++ c.args.rows ∷ [] = search rules in
    let n : vec_len c.push.new.self ≡ length c.push.new.self.items = search rules in
    let back = c.pop.ensures.rest ∙ ap (λ k. take (k - 1) c.push.new.self.items) n ∙ as_it_was c.self.inside.jobs.items c.push.new.self.items c.args.rows grown in
    rw back (taken_same c.self.inside.jobs.items c.self.inside.ids c.insert_both.new.ids c.self.inside.sessions c.insert_both.new.sessions c.self.invariant c.in-Err.ensures.same_ids c.in-Err.ensures.same_sessions)

pub invariant_of-self-in_default : goal.invariant_of-self-in_default
invariant_of-self-in_default c =
    let of = c.row.view_is ∙ c.row-row.ensures.same in
    let id : c.row.inside.id ≡ c.args.rows.row.id = ap (λ (r : JobRow). r.id) of in
    let session : c.row.inside.session ≡ c.args.rows.row.session = ap (λ (r : JobRow). r.session) of in
    let grown : c.push.new.self.items ≡ c.self.inside.jobs.items ++ c.args.rows ∷ [] = search rules in
    rw grown
    (taken_more c.self.inside.jobs.items c.self.inside.ids c.insert_both.new.ids c.self.inside.sessions c.insert_both.new.sessions c.args.rows c.self.invariant c.row-row.ensures.valid
    (ap (contains nat_cmp c.self.inside.ids) (sym id) ∙ sym c.contains.ensures ∙ c.if-contains.false)
    (ap (contains session_cmp c.self.inside.sessions) (sym session) ∙ sym c.contains-2.ensures ∙ c.if-contains-2.false)
    (subst (λ n. AddsId c.self.inside.ids n c.insert_both.new.ids) id c.in_default.ensures.ids)
    (subst (λ s. AddsSession c.self.inside.sessions s c.insert_both.new.sessions) session c.in_default.ensures.sessions))

pub returns-clause-answers : goal.returns-clause-answers
returns-clause-answers c =
    let of = c.row.view_is ∙ c.row-row.ensures.same in
    let grown : c.push.new.self.items ≡ c.args.self.now ++ c.args.rows ∷ [] = search rules in
    pushed_new c.args.self.now c.args.rows
    (has_number _ c.args.self.now c.self.inside.ids c.self.inside.sessions c.args.rows c.row.inside.id _ c.self.invariant c.self.view_is (ap (λ (r : JobRow). r.id) of) c.contains.ensures
    ∙ c.if-contains.false)
    (has_session _ c.args.self.now c.self.inside.ids c.self.inside.sessions c.args.rows c.row.inside.session _ c.self.invariant c.self.view_is (ap (λ (r : JobRow). r.session) of)
    c.contains-2.ensures
    ∙ c.if-contains-2.false)
    ∙ ap (λ (ks : List JobRows). Ok ks) (sym grown)
