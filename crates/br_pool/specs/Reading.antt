-- What the workers read of some pieces.
use Rattle.std.specs.Prelude.{◌≡◌, ℕ, List, Vec, Option, Result, IfOk}
use Rattle.std.specs.Global.{Global}
use Rattle.br_model.specs.Volume.{Volume}
use Rattle.br_model.specs.Meaning.{Piece}
use Rattle.br_claim.specs.Claims.{Claimed, Seated}
use Rattle.br_pool.specs.Slots.{with_each}
use Rattle.br_pool.specs.Workers.{Answer, HaveWorked, outs, shown_by}
use Rattle.br_pool.specs.declared.worker.Reader.{Reader}

-- The readers read pieces that are left: the slots are filled with what the workers of these seats
-- answered.
abbrev pub Reads : {D E : Type 0} → (D → Option (List Volume)) → Claimed → List Piece → List ℕ → List (Reader D) → List (Reader D) → List (Option Answer) → List (Option Answer)
    → Result (Vec Seated Global) E → Type 0
Reads shows claims pieces left before after slots filled result =
    IfOk result (λ seats. (answers : List (ℕ × Answer)) × (filled ≡ with_each slots answers)
    × HaveWorked claims.claims pieces left (shown_by shows before) (shown_by shows after) (outs before) (outs after) seats.items answers)
