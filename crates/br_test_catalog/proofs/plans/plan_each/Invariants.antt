use Rattle.std.specs.Prelude.{◌≡◌}
use Rattle.br_test_catalog.proofs.plans.plan_each.Given as goal

abbrev pub invariant-loop-job : goal.invariant-loop-job
invariant-loop-job g l = l.session.book ≡ l.keeper.list.book
