use Rattle.std.proofs.Common.{◌≡◌, ℕ, eqb, take, true}
use Rattle.std.specs.List.{list_all, enumerate_from}
use Rattle.br_model.specs.Job.{Span}
use Rattle.br_history.proofs.rows.are_numbered.Given as goal

-- the spans so far have their numbers
abbrev pub invariant-loop-i : goal.invariant-loop-i
invariant-loop-i l = list_all (λ (s : ℕ × Span). eqb s.1.vol_index s.0) (take l.i (enumerate_from 1 l.spans)) ≡ true
