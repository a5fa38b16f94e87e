-- What a gatherer gives a joiner from the batches that it pops.
use Rattle.std.specs.Prelude.{◌≡◌, List, ◌++◌, flat_map}
use Rattle.br_model.specs.Meaning.{Hit}
use Rattle.br_match.specs.declared.hit.Batch.{Batch}
use Rattle.br_join.specs.Joining.{Joining, with_batch}
use Rattle.br_pool.specs.Crew.{HasAll, crew}
use Rattle.br_pool.specs.declared.batch_queue.Crew.{Crew}

-- the hits of batches, one batch after the other
abbrev pub hits_of_batches : List Batch → List Hit
hits_of_batches batches = flat_map (λ (b : Batch). b.hits.items) batches

-- the same pass, except for what it popped
abbrev pub IsStill : Crew → Crew → Type 0
IsStill v w = (w.gathers ≡ v.gathers) × (w.parts ≡ v.parts) × (w.pushed ≡ v.pushed)

-- Batches were popped, and the joiner has the hits of some of them; if this holds, of all. A batch
-- for which memory ran out is not among them.
pub record Takes (none_lost : Type 0) (v w : Crew) (before after : Joining) : Type 0 where
  pub popped : List Batch
  pub batches : List Batch
  pub adds : w.popped ≡ v.popped ++ popped
  pub some : HasAll batches popped
  pub took : after ≡ with_batch before (hits_of_batches batches)
  pub all : none_lost → HasAll popped batches

-- a pass with more batches pushed
abbrev pub with_pushed : Crew → List Batch → Crew
with_pushed v batches = crew v.gathers v.parts (v.pushed ++ batches) v.popped

-- batches with these hits were pushed
abbrev pub Pushes : Crew → Crew → List Hit → Type 0
Pushes v w hits = (batches : List Batch) × (w ≡ with_pushed v batches) × (hits_of_batches batches ≡ hits)
