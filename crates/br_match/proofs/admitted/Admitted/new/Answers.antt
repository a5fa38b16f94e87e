use Rattle.std.proofs.Common.{List, ap, ◌∙◌}
use Rattle.br_model.specs.Bootstrap.{Range, admits}
use Rattle.br_match.proofs.RangeLaws.{admits_in_order}
use Rattle.br_match.proofs.admitted.Admitted.new.Goals as goal

pub returns : goal.returns
returns c = λ n.
    c.in_ok-widened.ensures.same n ∙ ap (λ (rs : List Range). admits rs n) c.deref.ensures.value ∙ admits_in_order c.args.ranges.now c.in_ok-sorted.sorted.items n c.in_ok-sorted.ensures.same
