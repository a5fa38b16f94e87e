use Rattle.std.specs.Prelude.{◌≡◌}
use Rattle.br_test_catalog.proofs.serving.call.Given as goal

abbrev pub invariant-loop-place : goal.invariant-loop-place
invariant-loop-place g l = l.session.book ≡ g.K.Naming.book
