use Rattle.std.proofs.Common.{List, ℕ, subst, ◌∙◌}
use Rattle.std.proofs.lemmas.Result.{IfOk-weaker}
use Rattle.br_model.specs.Bootstrap.{Group}
use Rattle.br_volume.proofs.ExtendLaws.{grows_more}
use Rattle.br_check.specs.Check.{IsChecked}
use Rattle.br_check.specs.Shown.{moment}
use Rattle.br_check.proofs.CheckLaws.{checked_over}
use Rattle.br_check.proofs.run.check.Goals as goal

pub returns-in_err-push_labels-clause-grows : goal.returns-in_err-push_labels-clause-grows
returns-in_err-push_labels-clause-grows g c =
    grows_more (g.D.Drive.shows c.args.drive.now) (g.D.Drive.shows c.search.new.drive) (g.D.Drive.shows c.push_labels.new.drive) c.search.ensures.grows
    c.push_labels.ensures.grows

pub returns-clause-checked : goal.returns-clause-checked
returns-clause-checked g c =
    let groups = c.args.bootstrap.now in
    let results = c.in_ok-results.results.items in
    let text = c.push_labels.new.text.items in
    IfOk-weaker c.checked_of.result _ _
    (λ checked done.
    checked_over (moment g.D.Drive c.args.drive.now) (moment g.D.Drive c.search.new.drive) (moment g.D.Drive c.push_labels.new.drive) groups c.args.counts.now c.args.budget
    c.deref.result.now c.deref-2.result.now results c.new-labels.result.items text checked (c.deref.ensures.value ∙ c.in_ok-pieces.ensures)
    (c.deref-2.ensures.value ∙ c.in_ok-pieces.ensures) c.new-labels.ensures.items c.in_ok-results.ensures.searched c.in_ok-push_labels.ensures.tells
    (subst (λ (gs : List Group). IsChecked gs c.args.counts.now c.args.budget results text checked) c.groups.ensures.same
    (subst (λ (xs : List ℕ). IsChecked c.groups.result.now c.args.counts.now c.args.budget results xs checked) c.deref-3.ensures.value done)))
    c.checked_of.ensures

pub returns-clause-grows : goal.returns-clause-grows
returns-clause-grows g c =
    grows_more (g.D.Drive.shows c.args.drive.now) (g.D.Drive.shows c.search.new.drive) (g.D.Drive.shows c.push_labels.new.drive) c.search.ensures.grows
    c.push_labels.ensures.grows
