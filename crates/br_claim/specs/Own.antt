-- The claims' own seat.
use Rattle.std.specs.Prelude.{◌≡◌, ℕ, ◌-◌, [], Option, MatchOption}
use Rattle.atomic_table.specs.Seated.{TableId}
use Rattle.atomic_table.specs.Table.{Me}
use Rattle.br_claim.specs.declared.rule.Hand.{Hand}
use Rattle.br_claim.specs.declared.kept.Kept.{Kept}
use Rattle.br_claim.specs.Rule.{hand}

-- the table has one word, and the seat with this view is at it, has no slot, and knows the key as its
-- limit
abbrev pub IsAtTable : {S : Type 0} → TableId → ℕ → TableId → Me S Hand → Type 0
IsAtTable table key seat me = (table.words ≡ 1) × (seat ≡ table) × (me ≡ (me.0, [])) × (me.0.limit ≡ key)

-- it is kept, and has all parts that no other seat has
abbrev pub IsOwn : TableId → ℕ → ℕ → Option Kept → Type 0
IsOwn claims limit made kept = MatchOption kept ⊥ (λ (k : Kept). (k.seat.table_id ≡ claims) × (k.seat.me ≡ (hand limit (65536 - made) [] 0, [])))
