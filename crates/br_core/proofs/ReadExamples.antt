-- A delivery that is refused, and reads with a failure and a repeat while the volumes grow, by
-- example.
use Rattle.std.proofs.Common.{◌≡◌, ℕ, List, [], ◌∷◌, refl, sym, subst, lit≤}
use Rattle.std.proofs.lemmas.Option.{same_Some}
use Rattle.std.specs.Prelude.{codes}
use Rattle.std.specs.List.{AllByRecursion}
use Rattle.std.specs.FinMap.{empty}
use Rattle.br_model.specs.Block.{Fragment}
use Rattle.br_model.specs.Meaning.{Piece, Hit}
use Rattle.br_core.specs.Machine.{Restore, IsStep, IsWhole}
use Rattle.br_core.specs.Machine.Status.{Waiting, Claimed, Finished}
use Rattle.br_core.specs.Machine.Event.{Claim, Read, Fail, Finish, Deliver, ReadFinds, FinishFinds}
use Rattle.br_core.specs.Machine.Reply.{Done, Refused}
use Rattle.br_core.proofs.JobExamples.{key, first, second, third, fourth, volumes}
use Rattle.br_core.proofs.PlanExamples.{group, restore, going, planning, later, go_on}

-- ---- the reads

-- a hit of a fragment at its place, for the group of this number
unfoldable pub hit : ℕ → ℕ → ℕ → Fragment → Hit
hit number address ordinal f = record { key = record { session = key; index = 1 }; spot = record { group = number; address = address; ordinal = ordinal }; fragment = f }

unfoldable pub in_0 : List Hit
in_0 = hit 0 0 0 first ∷ []

unfoldable pub in_1 : List Hit
in_1 = hit 1 0 0 second ∷ hit 1 0 1 third ∷ []

unfoldable pub in_2 : List Hit
in_2 = hit 1 64 0 fourth ∷ []

unfoldable pub piece : ℕ → List ℕ → ℕ → Piece
piece number volume end = record { number = number; volume = volume; groups = (number, group volume end) ∷ [] }

unfoldable pub stepping : Unit {0}
unfolding later hit in_0 in_1 in_2 piece planning
stepping = tt

-- a delivery of what is not read is refused
unfoldable pub refuses : IsStep (going (Waiting ∷ Waiting ∷ []) [] empty) (Deliver 0) (Refused 59) (going (Waiting ∷ Waiting ∷ []) [] empty)
unfolding stepping
refuses = (refl, refl, λ enabled. not_whole enabled.0 (same_Some _ enabled.0 enabled.1) enabled.2)
  where
    waits : Waiting ≡ Finished → ⊥
    waits e = absurd cc

    not_whole : (r : Restore) → restore (Waiting ∷ Waiting ∷ []) [] empty ≡ r → IsWhole r → ⊥
    not_whole r is whole = let h = subst (λ (s : Restore). AllByRecursion (λ status. status ≡ Finished) s.statuses) (sym is) whole.finished in waits h.0

unfoldable pub claims : IsStep (going (Waiting ∷ Waiting ∷ []) [] empty) (Claim 0 0) Done (going (Claimed 0 ∷ Waiting ∷ []) [] empty)
unfolding stepping
claims = (restore (Waiting ∷ Waiting ∷ []) [] empty, restore (Claimed 0 ∷ Waiting ∷ []) [] empty, refl, (refl, refl), refl)

unfoldable pub reads : IsStep (going (Claimed 0 ∷ Waiting ∷ []) [] empty) (Read 0 0 1) Done (going (Claimed 64 ∷ Waiting ∷ []) (in_0 ∷ []) empty)
unfolding stepping
reads = (
  restore (Claimed 0 ∷ Waiting ∷ []) [] empty,
  restore (Claimed 64 ∷ Waiting ∷ []) (in_0 ∷ []) empty,
  refl,
  (
    volumes,
    record { since = lit≤ tt; are = refl },
    record {
      address = 0;
      next = 64;
      batch = in_0;
      the_piece = piece 0 (codes "A") 63;
      claimed = refl;
      piece_is = refl;
      step = refl;
      after_is = refl;
    },
  ),
  refl,
)

unfoldable pub fails : IsStep (going (Claimed 64 ∷ Waiting ∷ []) (in_0 ∷ []) empty) (Fail 0 0) Done (going (Waiting ∷ Waiting ∷ []) (in_0 ∷ []) empty)
unfolding stepping
fails = (restore (Claimed 64 ∷ Waiting ∷ []) (in_0 ∷ []) empty, restore (Waiting ∷ Waiting ∷ []) (in_0 ∷ []) empty, refl, ((64, refl), refl), refl)

unfoldable pub claims_again : IsStep (going (Waiting ∷ Waiting ∷ []) (in_0 ∷ []) empty) (Claim 0 0) Done (going (Claimed 0 ∷ Waiting ∷ []) (in_0 ∷ []) empty)
unfolding stepping
claims_again = (restore (Waiting ∷ Waiting ∷ []) (in_0 ∷ []) empty, restore (Claimed 0 ∷ Waiting ∷ []) (in_0 ∷ []) empty, refl, (refl, refl), refl)

unfoldable pub reads_again : IsStep (going (Claimed 0 ∷ Waiting ∷ []) (in_0 ∷ []) empty) (ReadFinds 0 0 later) Done (going (Claimed 64 ∷ Waiting ∷ []) (in_0 ∷ in_0 ∷ []) empty)
unfolding stepping
reads_again = (
  restore (Claimed 0 ∷ Waiting ∷ []) (in_0 ∷ []) empty,
  restore (Claimed 64 ∷ Waiting ∷ []) (in_0 ∷ in_0 ∷ []) empty,
  refl,
  (
    go_on volumes,
    record {
      address = 0;
      next = 64;
      batch = in_0;
      the_piece = piece 0 (codes "A") 63;
      claimed = refl;
      piece_is = refl;
      step = refl;
      after_is = refl;
    },
  ),
  refl,
)

unfoldable pub finishes : IsStep (going (Claimed 64 ∷ Waiting ∷ []) (in_0 ∷ in_0 ∷ []) empty) (Finish 0 0) Done (going (Finished ∷ Waiting ∷ []) (in_0 ∷ in_0 ∷ []) empty)
unfolding stepping
finishes = (
  restore (Claimed 64 ∷ Waiting ∷ []) (in_0 ∷ in_0 ∷ []) empty,
  restore (Finished ∷ Waiting ∷ []) (in_0 ∷ in_0 ∷ []) empty,
  refl,
  (record { address = 64; the_piece = piece 0 (codes "A") 63; claimed = refl; piece_is = refl; ends = refl }, refl),
  refl,
)

unfoldable pub claims_other : IsStep (going (Finished ∷ Waiting ∷ []) (in_0 ∷ in_0 ∷ []) empty) (Claim 0 1) Done (going (Finished ∷ Claimed 0 ∷ []) (in_0 ∷ in_0 ∷ []) empty)
unfolding stepping
claims_other = (restore (Finished ∷ Waiting ∷ []) (in_0 ∷ in_0 ∷ []) empty, restore (Finished ∷ Claimed 0 ∷ []) (in_0 ∷ in_0 ∷ []) empty, refl, (refl, refl), refl)

unfoldable pub reads_other : IsStep (going (Finished ∷ Claimed 0 ∷ []) (in_0 ∷ in_0 ∷ []) empty) (Read 0 1 1) Done (going (Finished ∷ Claimed 64 ∷ []) (in_0 ∷ in_0 ∷ in_1 ∷ []) empty)
unfolding stepping
reads_other = (
  restore (Finished ∷ Claimed 0 ∷ []) (in_0 ∷ in_0 ∷ []) empty,
  restore (Finished ∷ Claimed 64 ∷ []) (in_0 ∷ in_0 ∷ in_1 ∷ []) empty,
  refl,
  (
    volumes,
    record { since = lit≤ tt; are = refl },
    record {
      address = 0;
      next = 64;
      batch = in_1;
      the_piece = piece 1 (codes "B") 107;
      claimed = refl;
      piece_is = refl;
      step = refl;
      after_is = refl;
    },
  ),
  refl,
)

unfoldable pub reads_on : IsStep (going (Finished ∷ Claimed 64 ∷ []) (in_0 ∷ in_0 ∷ in_1 ∷ []) empty) (ReadFinds 0 1 later) Done (going (Finished ∷ Claimed 108 ∷ []) (in_0 ∷ in_0 ∷ in_1 ∷ in_2 ∷ []) empty)
unfolding stepping
reads_on = (
  restore (Finished ∷ Claimed 64 ∷ []) (in_0 ∷ in_0 ∷ in_1 ∷ []) empty,
  restore (Finished ∷ Claimed 108 ∷ []) (in_0 ∷ in_0 ∷ in_1 ∷ in_2 ∷ []) empty,
  refl,
  (
    go_on volumes,
    record {
      address = 64;
      next = 108;
      batch = in_2;
      the_piece = piece 1 (codes "B") 107;
      claimed = refl;
      piece_is = refl;
      step = refl;
      after_is = refl;
    },
  ),
  refl,
)

unfoldable pub finishes_other : IsStep (going (Finished ∷ Claimed 108 ∷ []) (in_0 ∷ in_0 ∷ in_1 ∷ in_2 ∷ []) empty) (FinishFinds 0 1 later) Done (going (Finished ∷ Finished ∷ []) (in_0 ∷ in_0 ∷ in_1 ∷ in_2 ∷ []) empty)
unfolding stepping
finishes_other = (
  restore (Finished ∷ Claimed 108 ∷ []) (in_0 ∷ in_0 ∷ in_1 ∷ in_2 ∷ []) empty,
  restore (Finished ∷ Finished ∷ []) (in_0 ∷ in_0 ∷ in_1 ∷ in_2 ∷ []) empty,
  refl,
  (go_on volumes, record { address = 108; the_piece = piece 1 (codes "B") 107; claimed = refl; piece_is = refl; ends = refl }, refl),
  refl,
)
