use Rattle.std.proofs.Common.{◌≡◌, true, ◌++◌, take}
use Rattle.std.specs.List.{list_all}
use Rattle.std.specs.Prelude.{flat_map}
use Rattle.br_model.specs.BootstrapText.{is_group}
use Rattle.br_plan.specs.Parts.{groups_of_span}
use Rattle.br_plan.proofs.plan_group.add_job.Given as goal

-- after the first groups those of the spans so far, which a bootstrap may have
abbrev pub invariant-loop-span : goal.invariant-loop-span
invariant-loop-span l = (l.groups.items ≡ l.initial.groups.items ++ flat_map (groups_of_span l.files.files.now l.job) (take l.span-index l.span-items)) × (list_all is_group l.groups.items ≡ true)
