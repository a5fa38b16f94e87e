-- The blocks that a packer has made of its records.
use Rattle.std.specs.Prelude.{◌≡◌, ℕ, ◌%◌, ◌^◌, true, List, [], ◌∷◌, ◌++◌, length, map, take, flat_map, ℤ, pos}
use Rattle.std.specs.Int.{is_negative}
use Rattle.std.specs.List.{AllByRecursion, enumerate_from}
use Rattle.br_model.specs.Name.{SessionKey}
use Rattle.br_model.specs.Block.{Fragment}
use Rattle.br_model.specs.Record.{Record, GoOn, IsCut}
use Rattle.br_model.specs.Session.{block_size, IsPart, AreClosed, ArePacked, written_block}
use Rattle.br_session.specs.declared.packing.Packer.{Packer}

-- the fragments of blocks, joined
abbrev pub all_of : List (List Fragment) → List Fragment
all_of blocks = flat_map (λ (block : List Fragment). block) blocks

-- the fragments of the closed blocks, and of the current one if it has some
abbrev pub with_last : List (List Fragment) → List Fragment → List (List Fragment)
with_last closed [] = closed
with_last closed (f ∷ fs) = closed ++ (f ∷ fs) ∷ []

-- The packer's closed blocks have these fragments, and `fragments` are these and those of the
-- current block. The blocks are numbered from 0.
pub record AreIn (p : Packer) (closed : List (List Fragment)) (fragments : List Fragment) : Type 0 where
  pub blocks_are : map (λ b. b.items) p.blocks.items ≡ map (written_block p.session) (enumerate_from 0 closed)
  pub number_is : p.number ≡ length closed % 2 ^ 32
  pub current_is : p.current.number ≡ p.number
  pub fragments_are : fragments ≡ all_of closed ++ p.current.fragments
  pub of_session : AllByRecursion (λ (f : Fragment). f.session ≡ p.session) fragments

-- the packer has added these fragments to blocks, each closed only if the next fragment did not fit
pub record HasPut (p : Packer) (fragments : List Fragment) : Type 0 where
  pub closed : List (List Fragment)
  pub are_in : AreIn p closed fragments
  pub first : p.current.fragments ≡ [] → closed ≡ []
  pub are_closed : AreClosed p.limit (with_last closed p.current.fragments)

-- The packer has added these fragments, and its current block may take one more of this size. If
-- that one continues a record, the block that was current before is full.
pub record HasRoom (p : Packer) (before fragments : List Fragment) (size : ℕ) : Type 0 where
  pub closed : List (List Fragment)
  pub are_in : AreIn p closed fragments
  pub next :
      (f : Fragment) → f.size ≡ size → (is_negative f.stream ≡ true → block_size before ≡ p.limit)
      → IsPart p.limit (p.current.fragments ++ f ∷ []) → AreClosed p.limit (closed ++ (p.current.fragments ++ f ∷ []) ∷ [])

-- the packer has packed these records: its fragments are a cut of them
pub record Packs (p : Packer) (records : List Record) : Type 0 where
  pub fragments : List Fragment
  pub has_put : HasPut p fragments
  pub cut : IsCut records fragments

-- the fragment of a record with as much of the data left as was added
abbrev pub first_part : SessionKey → ℕ → ℤ → List ℕ → ℕ → Fragment
first_part session index stream left taken =
    record { session = session; index = pos index; stream = stream; size = length left; bytes = take taken left }

-- the packer after such a fragment was appended to its fragments
abbrev pub HasPutPart : Packer → Packer → ℕ → ℤ → List ℕ → ℕ → Type 0
HasPutPart before after index stream left taken =
    (fragments : List Fragment) → HasPut before fragments
    → HasPut after (fragments ++ first_part before.session index stream left taken ∷ [])

-- the packer has packed these records after the earlier ones
abbrev pub PacksMore : Packer → Packer → List Record → Type 0
PacksMore before after more = (records : List Record) → Packs before records → Packs after (records ++ more)

-- these are the blocks of the records that the packer has packed
abbrev pub AreBlocksOf : Packer → List (List ℕ) → Type 0
AreBlocksOf p blocks = (records : List Record) → Packs p records → ArePacked p.limit p.session records blocks

-- the packer has packed these records, and a record of which this data is left
pub record IsUnderWay (p : Packer) (records : List Record) (r : Record) (left : List ℕ) : Type 0 where
  pub fragments : List Fragment
  pub has_put : HasPut p fragments
  pub goes_on : (more : List Fragment) → GoOn r.index r.stream left more → IsCut (records ++ r ∷ []) (fragments ++ more)
