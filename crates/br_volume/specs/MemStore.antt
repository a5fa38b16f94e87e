-- A store over memory.
use Rattle.std.specs.Prelude.{◌≡◌, ℕ, zero, suc, ◌⊎◌, List, [], take, Option, Some, None}
use Rattle.br_model.specs.Volume.{Volume}
use Rattle.br_volume.specs.Calls.{one_fewer}
use Rattle.br_volume.specs.Store.{Failures, no_failures, one_more}
-- the volumes with bytes appended to the first of this name, or with a new volume of them at the
-- end if there is none
pub use Rattle.br_fs.specs.Memory.{with_appended}

-- its volumes, the failed calls, and the one append that is to fail, if one is: the
-- number of appends before it, and the number of its bytes that it keeps
pub record Stored : Type 0 where
  pub volumes : List Volume
  pub failures : Failures
  pub appends_left : Option ℕ
  pub bytes_kept : ℕ

-- the number of calls before the n-th, counted from 1
abbrev pub calls_before : ℕ → Option ℕ
calls_before zero = None
calls_before (suc n) = Some n

-- a store without volumes whose n-th append keeps this number of its bytes and fails
abbrev pub failing : ℕ → ℕ → Stored
failing n kept = record { volumes = []; failures = no_failures; appends_left = calls_before n; bytes_kept = kept }

-- a store of these volumes, of which no append is to fail
abbrev pub sound : List Volume → Stored
sound volumes = record { volumes = volumes; failures = no_failures; appends_left = None; bytes_kept = 0 }

-- the store after bytes were appended
abbrev pub after_append : List ℕ → List ℕ → Stored → Stored
after_append volume bytes store = record {
  volumes = with_appended volume bytes store.volumes;
  failures = store.failures;
  appends_left = one_fewer store.appends_left;
  bytes_kept = store.bytes_kept;
}

-- the store after an append to a volume ran out of memory
abbrev pub after_failure : List ℕ → Stored → Stored
after_failure volume store = record {
  volumes = store.volumes;
  failures = one_more volume store.failures;
  appends_left = one_fewer store.appends_left;
  bytes_kept = store.bytes_kept;
}

-- the store after the append to a volume that was to fail, with these volumes
abbrev pub after_part : List ℕ → List Volume → Stored → Stored
after_part volume volumes store =
    record { volumes = volumes; failures = one_more volume store.failures; appends_left = None; bytes_kept = store.bytes_kept }

-- the append that was to fail kept the first of its bytes, or ran out of memory and changed nothing
abbrev pub FailsInPart : List ℕ → List ℕ → Stored → Stored → Type 0
FailsInPart volume bytes earlier later =
    (later ≡ after_part volume (with_appended volume (take earlier.bytes_kept bytes) earlier.volumes) earlier)
    ⊎ (later ≡ after_part volume earlier.volumes earlier)
