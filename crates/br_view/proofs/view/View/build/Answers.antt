use Rattle.std.proofs.Common.{map, List, sym, subst, ◌∙◌}
use Rattle.std.specs.Borrow.{Bor}
use Rattle.br_model.specs.Job.{JobRows}
use Rattle.br_model.specs.View.{IsView}
use Rattle.br_model.proofs.ViewLaws.{view_is_in_order_lem}
use Rattle.br_view.proofs.ViewLaws.{view_is}
use Rattle.br_view.proofs.view.View.build.Goals as goal

pub invariant_of-result : goal.invariant_of-result
invariant_of-result c =
    let jobs : List JobRows = map (λ (b : Bor JobRows). b.now) c.args.jobs.now in
    let is = c.in_ok-entries.ensures.entries ∙ view_is jobs c.in_ok-kept.kept c.requires c.in_ok-kept.ensures c.in_ok-entries.ensures.ordered in
    subst IsView (sym is) (view_is_in_order_lem jobs)

pub returns : goal.returns
returns c =
    let jobs : List JobRows = map (λ (b : Bor JobRows). b.now) c.args.jobs.now in
    c.in_ok-entries.ensures.entries ∙ view_is jobs c.in_ok-kept.kept c.requires c.in_ok-kept.ensures c.in_ok-entries.ensures.ordered
