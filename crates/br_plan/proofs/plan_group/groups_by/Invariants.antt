use Rattle.std.proofs.Common.{◌≡◌, true, take, map}
use Rattle.std.specs.List.{list_all}
use Rattle.br_model.specs.BootstrapText.{is_group}
use Rattle.br_plan.specs.Parts.{groups_of_jobs}
use Rattle.br_plan.proofs.plan_group.groups_by.Given as goal

-- the groups of the jobs so far, which a bootstrap may have
abbrev pub invariant-loop-job : goal.invariant-loop-job
invariant-loop-job l = (l.groups.items ≡ groups_of_jobs l.files.files.now (map (λ j. j.now) (take l.job-index l.jobs))) × (list_all is_group l.groups.items ≡ true)
