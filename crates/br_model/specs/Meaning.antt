-- The meaning of a bootstrap over volumes: the set of fragments that its groups hit.
use Rattle.std.specs.Prelude.{◌≡◌, ℕ, ◌<◌, ◌↔◌, length, Bool, ◌||◌, ◌==◌, if◌then◌else◌, List, [], ◌∷◌, ◌++◌, map, max, fold, filter, filter_map, flat_map, find, bytes_eq, Option, Some, None, option_map, Result, Ok, nat_abs, slice_get, Contains}
use Rattle.std.specs.List.{list_any, enumerate_from, AllByRecursion}
use Rattle.std.specs.List.Sorted.{IsStrictlyIncreasing}
use Rattle.std.specs.Int.{is_in_range}
use Rattle.std.specs.Option.{option_or}
use Rattle.std.specs.FinMap.{FinMap, get, entries, from_entries}
use Rattle.std.specs.Cmp.Lexicographic.{slice_cmp}
use Rattle.std.specs.Ordering.{nat_cmp}
use Rattle.std.specs.declared.cmp.Ordering.{Ordering}
use Rattle.br_model.specs.Answer.{◌>>=◌, refused_as, some_or}
use Rattle.br_model.specs.Order.{without_repeats}
use Rattle.br_model.specs.Text.{is_empty}
use Rattle.br_model.specs.Name.{FileKey, key_rank}
use Rattle.br_model.specs.Block.{Fragment, fragments_of}
use Rattle.br_model.specs.Volume.{Volume, volume_bytes, Extends, LaidBlock, BlockFault, AreLaid, blocks_of}
use Rattle.br_model.specs.Bootstrap.{Range, Group, hits}

-- where a fragment was found: the first group that hits it, its block's address, its place there
pub record Spot : Type 0 where
  pub group : ℕ
  pub address : ℕ
  pub ordinal : ℕ

-- places are ordered by group, then by address, then by place in the block
abbrev pub spot_rank : Spot → List ℕ
spot_rank s = s.group ∷ s.address ∷ s.ordinal ∷ []

-- a fragment that is to be restored, with its file and its place
pub record Hit : Type 0 where
  pub key : FileKey
  pub spot : Spot
  pub fragment : Fragment

-- the file of a fragment: its session, and its index without a sign
abbrev pub key_of : Fragment → FileKey
key_of f = record { session = f.session; index = nat_abs f.index }

-- ---- sets of hits

-- the file and the place of a hit as numbers, by which hits are ordered
abbrev pub hit_rank : FileKey × Spot → List ℕ
hit_rank k = key_rank k.0 ++ spot_rank k.1

-- hits are ordered by file, then by place
abbrev pub hit_cmp : FileKey × Spot → FileKey × Spot → Ordering
hit_cmp j k = slice_cmp nat_cmp (hit_rank j) (hit_rank k)

-- a set of hits: at most one fragment at each place of each file
abbrev pub Hits : Type 0
Hits = FinMap hit_cmp Fragment

-- a hit as an entry of a set: its file and place, and its fragment
abbrev pub hit_entry : Hit → (FileKey × Spot) × Fragment
hit_entry h = ((h.key, h.spot), h.fragment)

-- the set of some hits; of two at one place of one file, the first is taken
abbrev pub hits_of : List Hit → Hits
hits_of found = from_entries (map hit_entry found)

-- the set with more hits; one whose file and place it has already is not added
abbrev pub with_hits : Hits → List Hit → Hits
with_hits held found = from_entries (entries held ++ map hit_entry found)

-- the set has the hit
abbrev pub HasHit : Hits → Hit → Type 0
HasHit held h = get held (h.key, h.spot) ≡ Some h.fragment

-- sets with equal look-ups are equal
abbrev pub HitsAreLookups : Type 0
HitsAreLookups = (some other : Hits) → ((k : FileKey × Spot) → get some k ≡ get other k) → some ≡ other

-- each hit of the one set is in the other
abbrev pub AreAmong : Hits → Hits → Type 0
AreAmong some all = (h : Hit) → HasHit some h → HasHit all h

-- ---- what is read from a volume

-- a group without VolAddr covers every block; any other, the blocks at the addresses in its ranges
abbrev pub covers : Group → ℕ → Bool
covers g address = is_empty g.addresses || list_any (λ (r : Range). is_in_range r.low r.high address) g.addresses

-- the greatest end of the ranges
abbrev pub last_address : Group → ℕ
last_address g = fold (λ n (r : Range). max n r.high) 0 g.addresses

-- the bound of the walk of a volume, if every group has VolAddr: the greatest of all their ends
unfoldable pub bound_of : List Group → Option ℕ
bound_of groups =
    if list_any (λ (g : Group). is_empty g.addresses) groups then None
    else Some (fold (λ n g. max n (last_address g)) 0 groups)

-- whether one of the groups covers the address
abbrev pub is_covered : List Group → ℕ → Bool
is_covered groups address = list_any (λ g. covers g address) groups

-- ---- hits, as a predicate

-- the groups of a bootstrap on one volume, with their numbers
unfoldable pub groups_on : List Group → List ℕ → List (ℕ × Group)
groups_on groups volume = filter (λ (g : ℕ × Group). bytes_eq g.1.volume volume) (enumerate_from 0 groups)

-- the groups without their numbers
abbrev pub just_groups : List (ℕ × Group) → List Group
just_groups numbered = map (λ (g : ℕ × Group). g.1) numbered

-- the part of a bootstrap that is on one volume: its groups with their numbers in the bootstrap
pub record Piece : Type 0 where
  pub number : ℕ
  pub volume : List ℕ
  pub groups : List (ℕ × Group)

-- a piece has groups, their numbers rise, and each is on its volume
pub record IsPiece (p : Piece) : Type 0 where
  pub some : 0 < length p.groups
  pub rise : IsStrictlyIncreasing (map (λ (g : ℕ × Group). g.0) p.groups)
  pub on_volume : AllByRecursion (λ (g : ℕ × Group). g.1.volume ≡ p.volume) p.groups

-- the volumes that the groups name, in order of first appearance
abbrev pub volumes_of : List Group → List (List ℕ)
volumes_of groups = without_repeats (map (λ (g : Group). g.volume) groups)

-- the pieces of a bootstrap, numbered from 0 in order of first appearance
unfoldable pub pieces_of : List Group → List Piece
pieces_of groups =
    map (λ (v : ℕ × List ℕ). record { number = v.0; volume = v.1; groups = groups_on groups v.1 }) (enumerate_from 0 (volumes_of groups))

-- the pieces of a bootstrap are pieces
abbrev pub PiecesAreWhole : Type 0
PiecesAreWhole = (groups : List Group) → AllByRecursion IsPiece (pieces_of groups)

-- the number of the first of the groups that hits the fragment
unfoldable pub first_hitting : List (ℕ × Group) → ℕ → Fragment → Option ℕ
first_hitting numbered address f = option_map (λ (g : ℕ × Group). g.0) (find (λ (g : ℕ × Group). hits g.1 address f) numbered)

-- the hit is a fragment at its place in a volume's block, with the number of the first group that
-- hits the fragment
pub record IsHit (groups : List Group) (volumes : List Volume) (hit : Hit) : Type 0 where
  pub volume : List ℕ
  pub bytes : List ℕ
  pub blocks : List LaidBlock
  pub block : LaidBlock
  pub found : volume_bytes volumes volume ≡ Some bytes
  pub laid : AreLaid bytes (bound_of (just_groups (groups_on groups volume))) (is_covered (just_groups (groups_on groups volume))) blocks
  pub among : Contains blocks block
  pub address : hit.spot.address ≡ block.address
  pub ordinal : slice_get (fragments_of block.bytes) hit.spot.ordinal ≡ Some hit.fragment
  pub group : first_hitting (groups_on groups volume) block.address hit.fragment ≡ Some hit.spot.group
  pub key : hit.key ≡ key_of hit.fragment

-- The hit is in a block that the walk reaches, whatever follows it: each header up to the block is
-- valid, and the block itself is whole.
pub record IsReached (groups : List Group) (volumes : List Volume) (hit : Hit) : Type 0 where
  pub volume : List ℕ
  pub bytes : List ℕ
  pub blocks : List LaidBlock
  pub block : LaidBlock
  pub found : volume_bytes volumes volume ≡ Some bytes
  pub laid : AreLaid bytes (Some hit.spot.address) (λ address. address == hit.spot.address) blocks
  pub among : Contains blocks block
  pub address : hit.spot.address ≡ block.address
  pub ordinal : slice_get (fragments_of block.bytes) hit.spot.ordinal ≡ Some hit.fragment
  pub group : first_hitting (groups_on groups volume) block.address hit.fragment ≡ Some hit.spot.group
  pub key : hit.key ≡ key_of hit.fragment

-- ---- hits, as a list

-- the hit of a fragment at its place in a block, for the group of this number
abbrev pub hit_at : LaidBlock → ℕ × Fragment → ℕ → Hit
hit_at block f group = record {
  key = key_of f.1;
  spot = record { group = group; address = block.address; ordinal = f.0 };
  fragment = f.1;
}

-- the hits in a block, in the order of its fragments
unfoldable pub hits_in : List (ℕ × Group) → LaidBlock → List Hit
hits_in numbered block =
    filter_map (λ (f : ℕ × Fragment). option_map (hit_at block f) (first_hitting numbered block.address f.1)) (enumerate_from 0 (fragments_of block.bytes))

-- the blocks that some groups of one volume ask for, or the first fault
abbrev pub blocks_for : List (ℕ × Group) → List ℕ → Result (List LaidBlock) BlockFault
blocks_for numbered bytes = blocks_of bytes (bound_of (just_groups numbered)) (is_covered (just_groups numbered))

-- the hits of some groups in the bytes of their volume, in order of address and place, or the first fault
unfoldable pub hits_among : List (ℕ × Group) → List ℕ → Result (List Hit) BlockFault
hits_among numbered bytes = do
  blocks ← blocks_for numbered bytes
  Ok (flat_map (hits_in numbered) blocks)

-- why a volume could not be searched: 14 if it does not exist, 10 to 12 if a block is not valid
pub record PieceFault : Type 0 where
  pub number : ℕ
  pub volume : List ℕ
  pub address : ℕ

-- the hits of a piece, or the first fault
unfoldable pub hits_on : List Volume → Piece → Result (List Hit) PieceFault
hits_on volumes piece = do
  bytes ← some_or (volume_bytes volumes piece.volume) (record { number = 14; volume = piece.volume; address = 0 })
  refused_as (λ (e : BlockFault). record { number = e.number; volume = piece.volume; address = e.address }) (hits_among piece.groups bytes)

-- the hits of some pieces, one piece after the other, or the first fault
unfoldable pub hits_on_each : List Volume → List Piece → Result (List Hit) PieceFault
hits_on_each volumes [] = Ok []
hits_on_each volumes (piece ∷ pieces) = do
  found ← hits_on volumes piece
  more ← hits_on_each volumes pieces
  Ok (found ++ more)

-- the meaning of a bootstrap: the set of the hits of its pieces
unfoldable pub meaning : List Group → List Volume → Result Hits PieceFault
meaning groups volumes = do
  found ← hits_on_each volumes (pieces_of groups)
  Ok (hits_of found)

-- ---- laws

-- hits in the set stay, and of two found hits at one place of one file the first is taken
abbrev pub TakingKeepsWhatIsHeld : Type 0
TakingKeepsWhatIsHeld = (held : Hits) (found : List Hit) (k : FileKey × Spot) → get (with_hits held found) k ≡ option_or (get held k) (get (hits_of found) k)

-- a hit that is reached is still reached after volumes have grown
abbrev pub ReachedStays : Type 0
ReachedStays =
    (groups : List Group) (volumes later : List Volume) (hit : Hit) → Extends later volumes → IsReached groups volumes hit → IsReached groups later hit

-- if there is a meaning, the hits that are reached are all the hits
abbrev pub ReachedAreHits : Type 0
ReachedAreHits =
    (groups : List Group) (volumes : List Volume) (set : Hits) (hit : Hit) → meaning groups volumes ≡ Ok set
    → IsReached groups volumes hit ↔ IsHit groups volumes hit

-- the volume exists, and is laid out in blocks as the groups on it ask
pub record IsLaidFor (groups : List Group) (volumes : List Volume) (volume : List ℕ) : Type 0 where
  pub bytes : List ℕ
  pub blocks : List LaidBlock
  pub found : volume_bytes volumes volume ≡ Some bytes
  pub laid : AreLaid bytes (bound_of (just_groups (groups_on groups volume))) (is_covered (just_groups (groups_on groups volume))) blocks

-- a bootstrap has a meaning exactly if each volume that it names exists and is laid out as it asks
abbrev pub MeaningIsOfLaid : Type 0
MeaningIsOfLaid =
    (groups : List Group) (volumes : List Volume)
    → ((set : Hits) × (meaning groups volumes ≡ Ok set)) ↔ AllByRecursion (λ (g : Group). IsLaidFor groups volumes g.volume) groups

-- a meaning is the set of the hits
abbrev pub MeaningHasHits : Type 0
MeaningHasHits =
    (groups : List Group) (volumes : List Volume) (set : Hits) (hit : Hit) → meaning groups volumes ≡ Ok set
    → HasHit set hit ↔ IsHit groups volumes hit
