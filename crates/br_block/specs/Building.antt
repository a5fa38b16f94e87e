-- A block under construction.
use Rattle.std.specs.Prelude.{◌≡◌, ℕ, ◌/◌, ◌^◌, ◌<◌, ◌≤◌, List, [], length, drop, flat_map, Some}
use Rattle.std.specs.List.{AllByRecursion}
use Rattle.br_model.specs.Name.{SessionKey}
use Rattle.br_model.specs.Block.{Fragment, fragment_bytes, IsFragmentOf, AreFilled, fragments_in}

-- A block may have at most this number of bytes: from 64 to 64,512.
abbrev pub IsBlockLimit : ℕ → Type 0
IsBlockLimit limit = (64 ≤ limit) × (limit ≤ 64512)

-- the block's session, the greatest number of bytes that it may have, its number, and its fragments
-- so far
pub record Building : Type 0 where
  pub session : SessionKey
  pub limit : ℕ
  pub number : ℕ
  pub fragments : List Fragment

-- the fragments after the room for a header
unfoldable pub fragments_after : SessionKey → List ℕ → List Fragment
fragments_after key bytes = fragments_in (Some key) (length bytes / 12) (drop 24 bytes)

-- The number has four bytes, and the bytes are room for a header and fragments of the session,
-- within the limit. Only the last fragment may have less than all its data.
pub record IsBuilding (key : SessionKey) (limit number : ℕ) (bytes : List ℕ) : Type 0 where
  pub number_to : number < 2 ^ 32
  pub least : 24 ≤ length bytes
  pub most : length bytes ≤ limit
  pub bound : limit ≤ 64512
  pub joined : drop 24 bytes ≡ flat_map fragment_bytes (fragments_after key bytes)
  pub filled : AreFilled (fragments_after key bytes) []
  pub each : AllByRecursion (IsFragmentOf (Some key)) (fragments_after key bytes)
