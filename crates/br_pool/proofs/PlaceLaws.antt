-- The drives of readers, in their places again.
use Rattle.std.proofs.Common.{◌≡◌, ℕ, ◌≤◌, List, map, reverse, Option}
use Rattle.br_model.specs.Volume.{Volume}
use Rattle.br_volume.specs.Drive.{OnlyGrows}
use Rattle.br_pool.specs.Pool.{StayInPlace}
use Rattle.br_pool.specs.Workers.{HaveServed, Served}
use Rattle.br_pool.specs.declared.worker.Reader.{Reader}
use Rattle.br_pool.proofs.ListLaws.{zip_so}
use Rattle.br_pool.proofs.ReaderLaws.{zip_back}

-- the drives are in their places, whatever the rounds return
pub places_of : {D : Type 0} (shows : D → Option (List Volume)) (fails : D → ℕ) (first last : List (Reader D)) (before after : List D) → HaveServed shows fails first last
    → reverse (map (λ (r : Reader D). r.drive) first) ≡ before → after ≡ reverse (map (λ (r : Reader D). r.drive) last) → StayInPlace shows fails before after
places_of {D} shows fails first last before after served there back =
    zip_back (λ (r : Reader D). r.drive) (λ d e. OnlyGrows (shows d) (shows e) × (fails d ≤ fails e)) first last before after there back
    (zip_so (Served shows fails) (λ r s. OnlyGrows (shows r.drive) (shows s.drive) × (fails r.drive ≤ fails s.drive)) (λ r s k. (k.grows, k.counted)) first last served)
