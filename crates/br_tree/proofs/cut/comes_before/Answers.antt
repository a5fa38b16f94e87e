use Rattle.std.proofs.Common.{◌++◌, ◌∙◌, ap, sym}
use Rattle.std.specs.Ordering.{is_lt}
use Rattle.br_model.proofs.OrderLaws.{rank_cmp}
use Rattle.br_tree.proofs.AroundLaws.{compared_within, compared_outside}
use Rattle.br_tree.proofs.cut.comes_before.Goals as goal

pub returns-then-starts_with : goal.returns-then-starts_with
returns-then-starts_with c =
    let d = c.args.directory.now in
    let t = c.args.text.now in
    c.is_lt.ensures ∙ ap is_lt (c.cmp.ensures ∙ ap (λ r. rank_cmp r t) c.rest_of.ensures ∙ compared_within c.args.path.now d t (sym c.starts_with.ensures.value ∙ c.if-starts_with.true))

pub returns-else-starts_with : goal.returns-else-starts_with
returns-else-starts_with c =
    c.is_lt-else-starts_with.ensures ∙ ap is_lt (c.cmp-else-starts_with.ensures ∙ compared_outside c.args.path.now c.args.directory.now c.args.text.now (sym c.starts_with.ensures.value ∙ c.if-starts_with.false))
