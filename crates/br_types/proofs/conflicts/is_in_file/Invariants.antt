use Rattle.std.proofs.Common.{◌≡◌, ℕ, ◌<◌, false, take, slice_index}
use Rattle.br_types.specs.Conflicts.{has_path}
use Rattle.br_types.proofs.conflicts.is_in_file.Given as goal

abbrev pub invariant-loop-i : goal.invariant-loop-i
invariant-loop-i l = (k : ℕ) → k < l.i → slice_index l.path k ≡ 47 → has_path (λ j. j.now) l.files (take k l.path) ≡ false
