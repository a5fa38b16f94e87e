-- A sink over memory.
use Rattle.std.specs.Prelude.{ℕ, ◌+◌, ◌-◌, List, [], ◌∷◌, ◌++◌}
use Rattle.br_model.specs.File.{Item}

-- the files that were put, the index of the put that fails, counted from now on (0: none), and the
-- number of failures
pub record Kept : Type 0 where
  pub items : List Item
  pub fails_at : ℕ
  pub failures : ℕ

-- the sink after a put of this file
abbrev pub with_put : Item → Kept → Kept
with_put item sink = record { items = sink.items ++ item ∷ []; fails_at = sink.fails_at - 1; failures = sink.failures }

-- the sink after a put that was refused since memory ran out
abbrev pub without_put : Kept → Kept
without_put sink = record { items = sink.items; fails_at = sink.fails_at - 1; failures = sink.failures }

-- the sink after the put that failed
abbrev pub with_failure : Kept → Kept
with_failure sink = record { items = sink.items; fails_at = 0; failures = sink.failures + 1 }
