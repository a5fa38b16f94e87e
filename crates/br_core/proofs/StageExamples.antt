-- Reads of the volumes after a number of commits, by example: a commit came after the plan.
use Rattle.std.proofs.Common.{◌≡◌, List, [], ◌∷◌, Some, refl, ap, lit≤, arith}
use Rattle.std.proofs.lemmas.Option.{same_Some}
use Rattle.std.specs.Prelude.{codes, slice_get}
use Rattle.std.specs.FinMap.{empty}
use Rattle.br_model.specs.Volume.{Volume}
use Rattle.br_model.specs.Meaning.{Hit}
use Rattle.br_core.specs.Machine.{World, Restore, Status, AreAfter, IsStep}
use Rattle.br_core.specs.Machine.Status.{Waiting, Claimed}
use Rattle.br_core.specs.Machine.Event.{Read}
use Rattle.br_core.specs.Machine.Reply.{Done, Refused}
use Rattle.br_core.proofs.JobExamples.{job, volumes}
use Rattle.br_core.proofs.PlanExamples.{restore, later}
use Rattle.br_core.proofs.ReadExamples.{in_0, piece, stepping}

-- the volumes were empty, then those of the plan, and now they are longer
unfoldable stage_two : List Status → List (List Hit) → World
stage_two statuses transit = record {
  jobs = job ∷ [];
  volumes = later;
  earlier = [] ∷ volumes ∷ [];
  restores = Some (restore statuses transit empty) ∷ [];
}

unfoldable staging : Unit {0}
unfolding stage_two stepping
staging = tt

-- a read of the volumes of the plan, after one commit
reads_then : IsStep (stage_two (Claimed 0 ∷ Waiting ∷ []) []) (Read 0 0 1) Done (stage_two (Claimed 64 ∷ Waiting ∷ []) (in_0 ∷ []))
unfolding staging
reads_then = (
  restore (Claimed 0 ∷ Waiting ∷ []) [] empty,
  restore (Claimed 64 ∷ Waiting ∷ []) (in_0 ∷ []) empty,
  refl,
  (
    volumes,
    record { since = lit≤ tt; are = refl },
    record { address = 0; next = 64; batch = in_0; the_piece = piece 0 (codes "A") 63; claimed = refl; piece_is = refl; step = refl; after_is = refl },
  ),
  refl,
)

-- a read of those of now, after two
reads_now : IsStep (stage_two (Claimed 0 ∷ Waiting ∷ []) []) (Read 0 0 2) Done (stage_two (Claimed 64 ∷ Waiting ∷ []) (in_0 ∷ []))
unfolding staging
reads_now = (
  restore (Claimed 0 ∷ Waiting ∷ []) [] empty,
  restore (Claimed 64 ∷ Waiting ∷ []) (in_0 ∷ []) empty,
  refl,
  (
    later,
    record { since = lit≤ tt; are = refl },
    record { address = 0; next = 64; batch = in_0; the_piece = piece 0 (codes "A") 63; claimed = refl; piece_is = refl; step = refl; after_is = refl },
  ),
  refl,
)

-- before the plan nothing is read
refuses_before : IsStep (stage_two (Claimed 0 ∷ Waiting ∷ []) []) (Read 0 0 0) (Refused 59) (stage_two (Claimed 0 ∷ Waiting ∷ []) [])
unfolding staging
refuses_before = (refl, refl, λ can. too_early can.0 can.3.0 (same_Some _ can.0 can.2) can.3.1)
  where
    too_early : (r : Restore) (seen : List Volume) → restore (Claimed 0 ∷ Waiting ∷ []) [] empty ≡ r
        → AreAfter (stage_two (Claimed 0 ∷ Waiting ∷ []) []) r 0 seen → ⊥
    too_early r seen is after = omega (arith, after.since, ap (λ (s : Restore). s.commits) is)

-- nor after more commits than there were
refuses_after : IsStep (stage_two (Claimed 0 ∷ Waiting ∷ []) []) (Read 0 0 3) (Refused 59) (stage_two (Claimed 0 ∷ Waiting ∷ []) [])
unfolding staging
refuses_after = (refl, refl, λ can. too_late can.3.0 can.3.1.are)
  where
    too_late : (seen : List Volume) → slice_get ([] ∷ volumes ∷ later ∷ []) 3 ≡ Some seen → ⊥
    too_late seen e = absurd cc
