-- The rule of the queue of batches: what was pushed is in the queue or was popped, and nothing else is.
use Rattle.std.specs.Prelude.{◌≡◌, ℕ, ◌+◌, ◌-◌, Bool, true, false, List, [], ◌∷◌, ◌++◌, ◌⊎◌}
use mathlib.Core.Option.{some}
use lib.ListN.{get_elem?}
use Rattle.br_match.specs.declared.hit.Batch.{Batch}
use Rattle.br_pool.specs.declared.batch_queue.Crew.{Crew}

abbrev pub crew : Bool → ℕ → List Batch → List Batch → Crew
crew gathers parts pushed popped = record { gathers = gathers; parts = parts; pushed = pushed; popped = popped }

-- a pass that pushed a batch
abbrev pub sent_by : Crew → Batch → Crew
sent_by v x = crew v.gathers v.parts (v.pushed ++ x ∷ []) v.popped

-- a pass that popped a batch
abbrev pub taken_by : Crew → Batch → Crew
taken_by v x = crew v.gathers v.parts v.pushed (v.popped ++ x ∷ [])

-- a pass that gave one of its parts to another pass
abbrev pub one_part_fewer : Crew → Crew
one_part_fewer v = crew v.gathers (v.parts - 1) v.pushed v.popped

-- a pass of a worker that has pushed nothing yet
abbrev pub hired : Crew
hired = crew false 1 [] []

-- a pass that took another in
abbrev pub joined : Crew → Crew → Crew
joined v w = crew v.gathers (v.parts + w.parts) (v.pushed ++ w.pushed) v.popped

-- a pass that was taken in
abbrev pub spent : Crew
spent = crew false 0 [] []

-- the batch is in the list
abbrev pub Has : Batch → List Batch → Type 0
Has b [] = ⊥
Has b (x ∷ xs) = (x ≡ b) ⊎ Has b xs

-- each batch of the first list is in the second
abbrev pub HasAll : List Batch → List Batch → Type 0
HasAll bs xs = (b : Batch) → Has b bs → Has b xs

-- the parts of all passes
abbrev pub parts_of : List Crew → ℕ
parts_of [] = 0
parts_of (v ∷ vs) = v.parts + parts_of vs

-- what all passes pushed
abbrev pub pushed_of : List Crew → List Batch
pushed_of [] = []
pushed_of (v ∷ vs) = v.pushed ++ pushed_of vs

-- Only one pass pops, and it knows what was popped. What a pass pushed is in the queue or was
-- popped. A pass without parts was taken in by another.
pub record FitsCrew (gatherer : ℕ) (got items : List Batch) (port : ℕ) (v : Crew) : Type 0 where
  pub gathers : v.gathers ≡ true → (port ≡ gatherer) × (v.popped ≡ got)
  pub pushed : HasAll v.pushed (got ++ items)
  pub idle : v.parts ≡ 0 → v.pushed ≡ []

-- the rule
pub record IsKept (items : List Batch) (views : List Crew) : Type 0 where
  pub gatherer : ℕ
  pub got : List Batch
  pub parts : parts_of views ≡ 65536
  pub from : HasAll (got ++ items) (pushed_of views)
  pub fits : (port : ℕ) (v : Crew) → get_elem? views port ≡ some v → FitsCrew gatherer got items port v

-- What the gatherer learns about the batches in the queue: together with those that it popped they
-- include all that it pushed and took in. If it has all parts, they include no others.
abbrev pub TellsAll : Crew → List Batch → Type 0
TellsAll v items = HasAll v.pushed (v.popped ++ items) × (v.parts ≡ 65536 → HasAll (v.popped ++ items) v.pushed)
