use Rattle.std.proofs.Common.{ap, ◌∙◌}
use Rattle.br_model.specs.Restored.{planned_in}
use Rattle.br_core.proofs.FirstLaws.{parts_first}
use Rattle.br_core.proofs.open_restore.parts_of.Goals as goal

pub returns : goal.returns
returns c =
    parts_first c.args.plan.now c.bootstrap.result.now c.in_ok-pieces.pieces.items c.deref.result.now c.deref-2.result.now c.in_ok-statuses.statuses.items c.in_ok-joiner.joiner c.in_ok-names.names
    c.bootstrap.ensures c.in_ok-pieces.ensures c.deref.ensures.value c.deref-2.ensures.value c.in_ok-statuses.ensures c.in_ok-joiner.ensures
    (ap planned_in c.in_ok-names.ensures ∙ c.names.ensures)
