-- What a drive's results say about the volumes that it tells.
use Rattle.std.proofs.Common.{◌≡◌, ℕ, true, false, ◌<◌, ◌≤◌, cond, Option, Some, None, Result, Ok, Err, List, length, take, drop, refl}
use Rattle.std.specs.Prelude.{nat_lt}
use Rattle.std.proofs.lemmas.Bool.{ltb-true, ltb-false}
use Rattle.br_model.specs.Answer.{◌>>=◌, some_or}
use Rattle.br_model.specs.Volume.{Volume, volume_bytes}
use Rattle.br_volume.specs.Drive.{bytes_from, bytes_shown}

none_from : (bytes : List ℕ) (a s : ℕ) → bytes_from bytes a s ≡ None → length bytes ≤ a
none_from bytes a s h =
    elim (nat_lt a (length bytes)) as (λ b. nat_lt a (length bytes) ≡ b → cond b (Some (take s (drop a bytes))) None ≡ None → length bytes ≤ a)
    [ true ↦ λ is none. absurd cc | false ↦ λ is none. ltb-false a (length bytes) is ] refl h

some_from : (bytes : List ℕ) (a s : ℕ) (got : List ℕ) → bytes_from bytes a s ≡ Some got → (a < length bytes) × (take s (drop a bytes) ≡ got)
some_from bytes a s got h =
    elim (nat_lt a (length bytes)) as (λ b. nat_lt a (length bytes) ≡ b → cond b (Some (take s (drop a bytes))) None ≡ Some got → (a < length bytes) × (take s (drop a bytes) ≡ got))
    [ true ↦ λ is some. (ltb-true a (length bytes) is, cc) | false ↦ λ is some. absurd cc ] refl h

-- what is read of bytes that are looked up
abbrev looked_up : Option (List ℕ) → ℕ → ℕ → Result (Option (List ℕ)) ℕ
looked_up o a s = do
  bytes ← some_or o 14
  Ok (bytes_from bytes a s)

shown : (o : Option (List ℕ)) (a s : ℕ) (got : Option (List ℕ))
    → looked_up o a s ≡ Ok got → (bytes : List ℕ) × (o ≡ Some bytes) × (bytes_from bytes a s ≡ got)
shown None a s got h = absurd cc
shown (Some bytes) a s got h = (bytes, refl, cc)

hidden : (o : Option (List ℕ)) (a s n : ℕ) → looked_up o a s ≡ Err n → o ≡ None
hidden None a s n h = refl
hidden (Some bytes) a s n h = absurd cc

-- at the end the volume is there, and no longer than the address
pub shown_end : (volumes : List Volume) (name : List ℕ) (a s : ℕ) → bytes_shown volumes name a s ≡ Ok None
    → (bytes : List ℕ) × (volume_bytes volumes name ≡ Some bytes) × (length bytes ≤ a)
unfolding bytes_shown
shown_end volumes name a s h =
    let p = shown (volume_bytes volumes name) a s None h in (p.0, p.1, none_from p.0 a s p.2)

-- a block is of the volume's bytes from the address on
pub shown_block : (volumes : List Volume) (name : List ℕ) (a s : ℕ) (got : List ℕ) → bytes_shown volumes name a s ≡ Ok (Some got)
    → (bytes : List ℕ) × (volume_bytes volumes name ≡ Some bytes) × (a < length bytes) × (take s (drop a bytes) ≡ got)
unfolding bytes_shown
shown_block volumes name a s got h =
    let p = shown (volume_bytes volumes name) a s (Some got) h in
    let q = some_from p.0 a s got p.2 in (p.0, p.1, q.0, q.1)

-- a refusal says that the volume is not there
pub not_shown : (volumes : List Volume) (name : List ℕ) (a s n : ℕ) → bytes_shown volumes name a s ≡ Err n → volume_bytes volumes name ≡ None
unfolding bytes_shown
not_shown volumes name a s n h = hidden (volume_bytes volumes name) a s n h
