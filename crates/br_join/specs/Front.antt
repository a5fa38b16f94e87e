-- The fronts of files: what was made of their first hits, in order of place, while the others came.
use Rattle.std.specs.Prelude.{◌≡◌, ◌≤◌, ◌+◌, ◌++◌, ◌∷◌, [], ◌⊎◌, ⊤, Bool, true, false, List, length, take, filter, Option, Some, None, IfSome, Contains, nat_abs}
use Rattle.std.specs.Box.{box_value}
use Rattle.std.specs.Global.{Box}
use Rattle.std.specs.List.{AllByRecursion}
use Rattle.std.specs.Ordering.{is_lt}
use Rattle.std.specs.declared.cmp.Ordering.TheVariants.{Less}
use Rattle.std.specs.BTreeMap.{BTreeMap, get_by}
use Rattle.br_model.specs.Name.{FileKey, key_cmp, same_key}
use Rattle.br_model.specs.Meaning.{Spot, Hit, Hits, HasHit, hit_cmp}
use Rattle.br_records.specs.Records.{fragments}
use Rattle.br_records.specs.Runs.{AreListed}
use Rattle.br_join.specs.Plain.{plain_bytes, plain_of}
use Rattle.br_join.specs.declared.front.Front.{Front}
use Rattle.br_join.specs.declared.begun.Begun.{Begun}
use Rattle.br_join.specs.declared.fronts.Fronts.{Fronts}
use Rattle.br_join.specs.declared.waiting.Waiting.{Waiting}

-- ---- what callers see

-- the front is of the first of these hits: their plain data are digested
abbrev pub IsFrontOf : Front → List Hit → Type 0
IsFrontOf f hits = (f.count ≤ length hits) × (f.read ≡ plain_bytes (fragments (take f.count hits)))

-- the hits of one file
abbrev pub hits_for : FileKey → List Hit → List Hit
hits_for key hits = filter (λ (h : Hit). same_key h.key key) hits

-- the front in what is known of a file
abbrev pub front_in : Option (Option Begun) → Option Front
front_in None = None
front_in (Some None) = None
front_in (Some (Some b)) = Some b.front

-- what is known of each file: none of these that is not in the tree was hit
abbrev pub Tree : Type 0
Tree = BTreeMap FileKey (Option Begun)

-- the front of a file in a tree, if it has one
abbrev pub front_of : Option Tree → FileKey → Option Front
front_of None key = None
front_of (Some tree) key = front_in (get_by (key_cmp key) tree)

-- the front of a file, if it has one
abbrev pub front_at : Fronts → FileKey → Option Front
front_at fronts key = front_of fronts.known key

-- each front is of the hits of its file among these
unfoldable pub AreFronts : Fronts → List Hit → Type 0
AreFronts fronts hits = (key : FileKey) (f : Front) → front_at fronts key ≡ Some f → IsFrontOf f (hits_for key hits)

-- ---- while hits come

-- whether the one place of a file is before the other
abbrev pub is_before : FileKey → Spot → Spot → Bool
is_before key spot other = is_lt (hit_cmp (key, spot) (key, other))

-- whether a place of a file is after the last of which the data are digested
abbrev pub is_past : FileKey → Option Spot → Spot → Bool
is_past key None spot = true
is_past key (Some last) spot = is_before key last spot

-- whether a place of a file is before the first of which the data are not digested
abbrev pub is_short : FileKey → Option Spot → Spot → Bool
is_short key None spot = true
is_short key (Some first) spot = is_before key spot first

-- The hits of a file in a set that are at or after the first place that is open are those that wait.
pub record Waits (held : Hits) (key : FileKey) (o : Option Spot) (w : Waiting) : Type 0 where
  pub listed : AreListed w.hits.items
  pub of_key : AllByRecursion (λ (h : Hit). h.key ≡ key) w.hits.items
  pub inside : AllByRecursion (HasHit held) w.hits.items
  pub behind : AllByRecursion (λ (h : Hit). is_short key o h.spot ≡ false) w.hits.items
  pub last : is_short key o w.end ≡ false
  pub ended : (spot : Spot) → is_before key w.end spot ≡ true → AllByRecursion (λ (h : Hit). hit_cmp (h.key, h.spot) (key, spot) ≡ Less) w.hits.items
  pub all : (h : Hit) → h.key ≡ key → HasHit held h → is_short key o h.spot ≡ false → Contains w.hits.items h

abbrev pub WaitsIf : Hits → FileKey → Option Spot → Option (Box Waiting) → Type 0
WaitsIf held key o None = ⊤
WaitsIf held key o (Some w) = Waits held key o (box_value w)

-- Of the hits of a file in a set the first ones are digested. The others are not, and all at or
-- after the first place that is open.
pub record IsBegun (held : Hits) (key : FileKey) (b : Begun) : Type 0 where
  pub had : List Hit
  pub listed : AreListed had
  pub of_key : AllByRecursion (λ (h : Hit). h.key ≡ key) had
  pub inside : AllByRecursion (HasHit held) had
  pub past : (spot : Spot) → is_past key b.last spot ≡ true → AllByRecursion (λ (h : Hit). hit_cmp (h.key, h.spot) (key, spot) ≡ Less) had
  pub short : AllByRecursion (λ (h : Hit). is_short key b.first_open h.spot ≡ true) had
  pub whole : (h : Hit) → h.key ≡ key → HasHit held h → Contains had h ⊎ (is_short key b.first_open h.spot ≡ false)
  pub read : b.front.read ≡ plain_bytes (fragments had)
  pub count : b.front.count ≡ length had
  pub waits : WaitsIf held key b.first_open b.waiting

-- what is known of a file fits the set: without an entry it has no hit in it
abbrev pub IsKnown : Hits → FileKey → Option (Option Begun) → Type 0
IsKnown held key None = (h : Hit) → h.key ≡ key → HasHit held h → ⊥
IsKnown held key (Some None) = ⊤
IsKnown held key (Some (Some b)) = IsBegun held key b

-- what is known of each file fits the set
abbrev pub AreKnown : Hits → Tree → Type 0
AreKnown held tree = (key : FileKey) → IsKnown held key (get_by (key_cmp key) tree)

abbrev pub AreKnownIf : Hits → Option Tree → Type 0
AreKnownIf held None = ⊤
AreKnownIf held (Some tree) = AreKnown held tree

-- the fronts are of hits of the set
abbrev pub AreOf : Hits → Fronts → Type 0
AreOf held fronts = AreKnownIf held fronts.known

-- no hit is digested, and none waits
pub record IsFresh (b : Begun) : Type 0 where
  pub read : b.front.read ≡ []
  pub count : b.front.count ≡ 0
  pub last : b.last ≡ None
  pub first_open : b.first_open ≡ None
  pub waiting : b.waiting ≡ None

-- one more hit is digested
pub record IsFolded (h : Hit) (b c : Begun) : Type 0 where
  pub read : c.front.read ≡ b.front.read ++ plain_of (nat_abs h.fragment.stream) h.fragment.bytes
  pub count : c.front.count ≡ b.front.count + 1
  pub last : c.last ≡ Some h.spot
  pub first_open : c.first_open ≡ b.first_open
  pub waiting : c.waiting ≡ b.waiting

-- the hit is the first that waits, before which none was open
pub record IsFirst (h : Hit) (o : Option Spot) (w : Waiting) : Type 0 where
  pub none : o ≡ None
  pub hits : w.hits.items ≡ h ∷ []
  pub end : w.end ≡ h.spot

-- the hit is the first that is not digested
pub record IsLeft (h : Hit) (b c : Begun) : Type 0 where
  pub front : c.front ≡ b.front
  pub last : c.last ≡ b.last
  pub first_open : c.first_open ≡ Some h.spot
  pub waiting : IfSome c.waiting (λ w. IsFirst h b.first_open (box_value w))

-- the hit waits after those that waited
pub record IsNext (h : Hit) (v w : Waiting) : Type 0 where
  pub after : is_before h.key v.end h.spot ≡ true
  pub hits : w.hits.items ≡ v.hits.items ++ h ∷ []
  pub end : w.end ≡ h.spot

abbrev pub IsNextOf : Hit → Option (Box Waiting) → Box Waiting → Type 0
IsNextOf h None w = ⊥
IsNextOf h (Some v) w = IsNext h (box_value v) (box_value w)

-- the hit is after others that are not digested
pub record IsPassed (h : Hit) (b c : Begun) : Type 0 where
  pub front : c.front ≡ b.front
  pub last : c.last ≡ b.last
  pub first_open : c.first_open ≡ b.first_open
  pub waiting : IfSome c.waiting (IsNextOf h b.waiting)

-- the hits that waited are digested
pub record IsCaughtUp (b : Begun) (w : Box Waiting) (c : Begun) : Type 0 where
  pub waiting : b.waiting ≡ Some w
  pub read : c.front.read ≡ b.front.read ++ plain_bytes (fragments (box_value w).hits.items)
  pub count : c.front.count ≡ b.front.count + length (box_value w).hits.items
  pub last : c.last ≡ Some (box_value w).end
  pub first_open : c.first_open ≡ None
  pub none : c.waiting ≡ None
