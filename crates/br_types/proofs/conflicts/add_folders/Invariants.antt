use Rattle.std.proofs.Common.{◌≡◌, ℕ, ◌||◌, List, take}
use Rattle.br_types.specs.Conflicts.{goes_on_behind, has_path}
use Rattle.br_types.proofs.conflicts.add_folders.Given as goal

abbrev pub invariant-loop-i : goal.invariant-loop-i
invariant-loop-i l = (q : List ℕ) → has_path (λ k. k.now) l.folders q ≡ (goes_on_behind q (take l.i l.path) || has_path (λ k. k.now) l.initial.folders q)
