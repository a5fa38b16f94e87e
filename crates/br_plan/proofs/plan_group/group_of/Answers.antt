use Rattle.std.proofs.Common.{◌∙◌, ap}
use Rattle.br_model.specs.Name.{is_volume_name}
use Rattle.br_plan.proofs.ValidLaws.{group_valid}
use Rattle.br_plan.proofs.plan_group.group_of.Goals as goal

pub returns-clause-valid : goal.returns-clause-valid
returns-clause-valid c =
    group_valid _ c.in_ok-copy.field-0 _ _ _ _ (c.group.view_is ∙ c.on-group.ensures) (ap is_volume_name c.in_ok-copy.ensures ∙ c.bytes.ensures.valid)
    c.in_ok-group-inside.ensures.valid c.in_ok-group-inside-2.ensures.valid c.in_ok-group-inside-3.ensures.valid c.in_ok-group-inside-4.ensures.valid
