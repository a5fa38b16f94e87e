-- Where the data of the fragments of a block are among its bytes.
use Rattle.std.specs.Prelude.{◌≡◌, ℕ, ◌+◌, ◌≤◌, List, length, take, drop, slice_get, Option, Some, None, Ok, option_map}
use Rattle.std.specs.List.{AllZip}
use Rattle.br_model.specs.Block.{Fragment, fragments_of, read_block}
use Rattle.br_data.specs.KnownBlocks.{KnownBlock}
use Rattle.br_data.specs.declared.data_spans.DataSpan.{DataSpan}

-- the bytes have the data of the fragment at this place
pub record IsDataAt (bytes : List ℕ) (span : DataSpan) (fragment : Fragment) : Type 0 where
  pub inside : span.start + span.len ≤ length bytes
  pub same : take span.len (drop span.start bytes) ≡ fragment.bytes

-- those of each fragment at its place
abbrev pub AreDataIn : List ℕ → List DataSpan → List Fragment → Type 0
AreDataIn bytes spans fragments = AllZip (IsDataAt bytes) spans fragments

-- the bytes are a block, and have the data of its fragments at these places
abbrev pub IsCutAt : List ℕ → List DataSpan → Type 0
IsCutAt bytes spans = (read_block bytes ≡ Ok bytes) × AreDataIn bytes spans (fragments_of bytes)

-- the data of the fragment of a block with this number of fragments before it
abbrev pub data_in : List ℕ → ℕ → Option (List ℕ)
data_in bytes ordinal = option_map (λ (f : Fragment). f.bytes) (slice_get (fragments_of bytes) ordinal)

-- the same of the block that was read last
abbrev pub data_of : Option KnownBlock → ℕ → Option (List ℕ)
data_of None ordinal = None
data_of (Some known) ordinal = data_in known.bytes ordinal
