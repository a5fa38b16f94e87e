-- Records, and how they are cut into fragments and joined again.
use Rattle.std.specs.Prelude.{◌≡◌, ℕ, true, false, ◌⊎◌, ◌-◌, ◌<◌, ◌≤◌, ◌↔◌, not, ◌&&◌, ◌==◌, if◌then◌else◌, List, [], ◌∷◌, ◌++◌, length, Option, Some, None, Result, Ok, Err, pos, neg_ℤ, nat_abs}
use Rattle.std.specs.List.{AllByRecursion}
use Rattle.std.specs.Int.{is_negative}
use Rattle.br_model.specs.Answer.{◌>>=◌}
use Rattle.br_model.specs.Block.{Fragment}

-- a record of a file: its stream says what its data is
pub record Record : Type 0 where
  pub index : ℕ
  pub stream : ℕ
  pub bytes : List ℕ

-- The fragments continue a record of which this data is still to come. Each has the negated stream
-- and gives the number of bytes still to come, which is at least one.
abbrev pub GoOn : ℕ → ℕ → List ℕ → List Fragment → Type 0
GoOn index stream left [] = left ≡ []
GoOn index stream left (f ∷ fs) =
    (f.index ≡ pos index) × (f.stream ≡ neg_ℤ (pos stream)) × (f.size ≡ length left) × (0 < length left)
    × (after : List ℕ) × (left ≡ f.bytes ++ after) × GoOn index stream after fs

-- The fragments are the parts of a record: the first gives its whole length, the others continue
-- it. A record of stream 0 has one part, since its stream has no negation.
abbrev pub AreParts : Record → List Fragment → Type 0
AreParts r [] = ⊥
AreParts r (f ∷ fs) =
    (f.index ≡ pos r.index) × (f.stream ≡ pos r.stream) × (f.size ≡ length r.bytes)
    × (after : List ℕ) × (r.bytes ≡ f.bytes ++ after) × GoOn r.index r.stream after fs × (r.stream ≡ 0 → fs ≡ [])

-- the fragments are the joined parts of the records, in order
abbrev pub IsCut : List Record → List Fragment → Type 0
IsCut [] fragments = fragments ≡ []
IsCut (r ∷ rs) fragments =
    (parts : List Fragment) × (others : List Fragment) × (fragments ≡ parts ++ others) × AreParts r parts × IsCut rs others

-- ---- joining, with the first fault

-- a record of which some bytes were read, and the number of bytes still to come
pub record Begun : Type 0 where
  pub index : ℕ
  pub stream : ℕ
  pub bytes : List ℕ
  pub left : ℕ

-- The record after one more fragment. 60: it continues a record, but none is open. 61: it does not
-- continue the open one. 62: it gives another number of bytes than are still to come.
unfoldable pub with_fragment : Option Begun → Fragment → Result Begun ℕ
with_fragment None f =
    if is_negative f.stream then Err 60
    else Ok (record { index = nat_abs f.index; stream = nat_abs f.stream; bytes = f.bytes; left = f.size - length f.bytes })
with_fragment (Some b) f =
    if not (is_negative f.stream && nat_abs f.stream == b.stream) then Err 61
    else if not (f.size == b.left) then Err 62
    else Ok (record { index = b.index; stream = b.stream; bytes = b.bytes ++ f.bytes; left = f.size - length f.bytes })

-- a record is open while bytes are still to come
abbrev pub still_open : Begun → Option Begun
still_open b = if b.left == 0 then None else Some b

-- the record if all its bytes were read, else none
abbrev pub given_out : Begun → List Record
given_out b = if b.left == 0 then record { index = b.index; stream = b.stream; bytes = b.bytes } ∷ [] else []

-- the records of one file's fragments, after a record that may be open; 61 if one stays open
unfoldable pub join_from : Option Begun → List Fragment → Result (List Record) ℕ
join_from None [] = Ok []
join_from (Some b) [] = Err 61
join_from begun (f ∷ fs) = do
  b ← with_fragment begun f
  records ← join_from (still_open b) fs
  Ok (given_out b ++ records)

-- the records of one file's fragments, or the first fault
unfoldable pub join : List Fragment → Result (List Record) ℕ
join fragments = join_from None fragments

-- ---- joining undoes cutting

-- a fragment of the file with this index, with at most as many bytes as its size
pub record IsFragmentFor (index : ℕ) (f : Fragment) : Type 0 where
  pub index_is : f.index ≡ pos index
  pub within : length f.bytes ≤ f.size

-- fragments of a file are joined to records exactly if they are a cut of these records
abbrev pub JoinIsExact : Type 0
JoinIsExact =
    (index : ℕ) (fragments : List Fragment) (records : List Record) → AllByRecursion (IsFragmentFor index) fragments
    → (join fragments ≡ Ok records) ↔ IsCut records fragments

-- ---- the first fault of joining

-- a cut of some records of one file begins with these fragments
abbrev pub BeginsCut : ℕ → List Fragment → Type 0
BeginsCut index fragments =
    (more : List Fragment) × (records : List Record) × AllByRecursion (IsFragmentFor index) more × IsCut records (fragments ++ more)

-- no record is open after the fragments
abbrev pub IsWholeCut : List Fragment → Type 0
IsWholeCut fragments = (records : List Record) × IsCut records fragments

-- a fragment with this one's stream, but perhaps another size, continues the open record
abbrev pub HasOpenStream : ℕ → List Fragment → Fragment → Type 0
HasOpenStream index front f = (size : ℕ) × (bytes : List ℕ) × BeginsCut index (front ++ record f { size = size; bytes = bytes } ∷ [])

-- why a fragment does not follow the ones before it. 60: it continues a record, but none is open.
-- 61: it begins a record while one is open, or one of stream 0 that is not whole, or continues
-- another stream than the open one's. 62: it gives another number of bytes than are still to come.
abbrev pub IsFaultNumber : ℕ → List Fragment → Fragment → ℕ → Type 0
IsFaultNumber index front f number =
    ((number ≡ 60) × (is_negative f.stream ≡ true) × IsWholeCut front)
    ⊎ ((number ≡ 61) × ((is_negative f.stream ≡ false) ⊎ ((¬ IsWholeCut front) × (¬ HasOpenStream index front f))))
    ⊎ ((number ≡ 62) × (is_negative f.stream ≡ true) × (¬ IsWholeCut front) × HasOpenStream index front f)

-- the fault after a front: 61 if nothing follows and a record is open, else the next fragment's
abbrev pub IsFaultBehind : ℕ → List Fragment → List Fragment → ℕ → Type 0
IsFaultBehind index front [] number = (number ≡ 61) × (¬ IsWholeCut front)
IsFaultBehind index front (f ∷ fs) number = (¬ BeginsCut index (front ++ f ∷ [])) × IsFaultNumber index front f number

-- The longest front that begins a cut. If it is all, a record stays open, which is 61; else the
-- next fragment is the fault.
pub record IsFirstFault (index : ℕ) (fragments : List Fragment) (number : ℕ) : Type 0 where
  pub front : List Fragment
  pub back : List Fragment
  pub joined : fragments ≡ front ++ back
  pub begins : BeginsCut index front
  pub fault : IsFaultBehind index front back number

-- joining is refused exactly by the number of a first fault, so there is at most one such number
abbrev pub JoinFaultsAreFirst : Type 0
JoinFaultsAreFirst =
    (index : ℕ) (fragments : List Fragment) (number : ℕ) → AllByRecursion (IsFragmentFor index) fragments
    → (join fragments ≡ Err number) ↔ IsFirstFault index fragments number
