use Rattle.std.proofs.Common.{◌≡◌, [], take, drop}
use Rattle.br_session.specs.Order.{are_linked_back}
use Rattle.br_session.proofs.order.are_all_linked_back.Given as goal

-- the files that are left decide
abbrev pub invariant-loop-place : goal.invariant-loop-place
invariant-loop-place l = are_linked_back (take l.place l.files) (drop l.place l.files) ≡ are_linked_back [] l.files
