-- What callers see of a keeper.
use Rattle.std.specs.Prelude.{◌≡◌, List, [], ◌++◌, Option, MatchOption, refl}
use Rattle.std.specs.Coded.{Coded, code_by, coded×, coded_list}
use Rattle.br_model.specs.Volume.{Volume}
use Rattle.br_model.specs.Job.{JobRows}
use Rattle.br_volume.specs.Store.{Failures}
use Rattle.br_keeper.specs.Beginnings.{Beginning, beginning}
use Rattle.br_keeper.specs.Publishing.{Publishing, all_published, publishing}
use Rattle.br_keeper.specs.Listing.{Waits}
use Rattle.br_keeper.specs.declared.vouched_lengths.Vouch.{Vouch}
use Rattle.br_keeper.specs.contracts.vouched_lengths.Vouch as vouch
use Rattle.br_keeper.specs.Writing.{Shelf, shelf_in}

-- its catalogue and its volumes; the lengths that it vouches for; and the list: the jobs that the
-- catalogue had at first, those that were stored since (`added`), and of these the published ones
pub record Keeping (C W : Type 0) : Type 0 where
  pub catalogue : C
  pub volumes : W
  pub vouches : List Vouch
  pub list : Publishing

-- how proofs distinguish such values
abbrev pub keeping_code : {C W : Type 0} → Coded C → Coded W → Coded Publishing → Coded (Keeping C W)
keeping_code {C} {W} catalogue volumes list =
    code_by (C × (W × (List Vouch × Publishing))) (coded× catalogue (coded× volumes (coded× (coded_list vouch.the_row.coded) list)))
    (λ k. (k.catalogue, (k.volumes, (k.vouches, k.list))))
    (λ p. record { catalogue = p.0; volumes = p.1.0; vouches = p.1.1.0; list = p.1.1.1 })
    (λ _. refl)

module _ {C W : Type 0} where
  -- all jobs that are stored
  abbrev pub jobs_of : Keeping C W → List JobRows
  jobs_of k = k.list.opening ++ k.list.added

  -- the keeper is over these volumes, vouches for no length, and has published what its catalogue had
  abbrev pub IsNew : W → Keeping C W → Type 0
  IsNew volumes k = (k.list ≡ publishing k.list.book k.list.opening [] []) × (k.volumes ≡ volumes) × (k.vouches ≡ [])

  -- the volumes and the vouched lengths
  abbrev pub shelf_of : (W → Option (List Volume)) → (W → Failures) → Keeping C W → Shelf
  shelf_of holds failures k = shelf_in holds failures k.volumes k.vouches

  -- a job waited and is published, and this is its receipt; or none waited
  abbrev pub RepublishesKept : Keeping C W → Keeping C W → Option Beginning → Type 0
  RepublishesKept old new receipt =
      MatchOption receipt ((new ≡ old) × (old.list.published ≡ old.list.added))
      (λ r. (new ≡ record old { list = all_published old.list }) × (r ≡ beginning old.list.book old.list.added) × Waits old.list)
