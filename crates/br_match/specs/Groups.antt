-- Groups prepared for many look-ups.
use Rattle.std.proofs.Math.Bool.{Bool-set}
use Rattle.std.proofs.Math.Nat.{ℕ_set}
use Rattle.std.specs.Prelude.{◌≡◌, refl, [], ◌∷◌, filter_map, ℕ, ◌/◌, ◌%◌, ◌^◌, Bool, true, ◌&&◌, List, Option, None, Some, option_map, find, ℤ, nat_abs}
use Rattle.std.specs.Int.{is_positive}
use Rattle.std.specs.List.{AllZip, enumerate_from}
use Rattle.std.specs.List.Sorted.{IsNonDecreasingBy}
use Rattle.br_model.specs.Name.{SessionKey}
use Rattle.br_model.specs.Block.{Fragment}
use Rattle.br_model.specs.Bootstrap.{Range, Group, admits}
use Rattle.br_model.specs.Meaning.{Hit, hit_at}

-- neither the low nor the high ends fall
pub record IsRising (ranges : List Range) : Type 0 where
  pub low : IsNonDecreasingBy (λ (r : Range). r.low) ranges
  pub high : IsNonDecreasingBy (λ (r : Range). r.high) ranges

-- two groups with one number, whose criteria admit the same numbers
pub record AreAlike (g h : ℕ × Group) : Type 0 where
  pub number : g.0 ≡ h.0
  pub session_ids : (n : ℕ) → admits g.1.session_ids n ≡ admits h.1.session_ids n
  pub session_times : (n : ℕ) → admits g.1.session_times n ≡ admits h.1.session_times n
  pub files : (n : ℕ) → admits g.1.files n ≡ admits h.1.files n
  pub blocks : (n : ℕ) → admits g.1.blocks n ≡ admits h.1.blocks n
  pub addresses : (n : ℕ) → admits g.1.addresses n ≡ admits h.1.addresses n
  pub indexes : (n : ℕ) → admits g.1.indexes n ≡ admits h.1.indexes n
  pub streams : (n : ℕ) → admits g.1.streams n ≡ admits h.1.streams n

-- the group's condition on a session, if there is one
abbrev pub admits_session : Group → Option SessionKey → Bool
admits_session g None = true
admits_session g (Some key) = admits g.session_ids key.id && admits g.session_times key.time

-- the group's conditions on a fragment's block, whose header has this session or none
abbrev pub admits_block : Group → ℕ → Option SessionKey → Bool
admits_block g address session =
    admits_session g session && admits g.files (address / 2 ^ 32) && admits g.blocks (address % 2 ^ 32) && admits g.addresses address

-- the session of a fragment, if the header of its block has none
abbrev pub own_session : Option SessionKey → SessionKey → Option SessionKey
own_session None key = Some key
own_session (Some session) key = None

-- the group's conditions on a fragment's header
abbrev pub admits_record : Group → Option SessionKey → ℤ → ℤ → Bool
admits_record g own index stream =
    is_positive index && admits_session g own && admits g.indexes (nat_abs index) && admits g.streams (nat_abs stream)

-- the number of the first group that admits a header
abbrev pub first_admitting : Option SessionKey → ℤ → ℤ → List (ℕ × Group) → Option ℕ
first_admitting own index stream numbered =
    option_map (λ (g : ℕ × Group). g.0) (find (λ (g : ℕ × Group). admits_record g.1 own index stream) numbered)

-- the number of the first group that admits a fragment of a block whose header has this session or
-- none
abbrev pub first_for : Option SessionKey → List (ℕ × Group) → Fragment → Option ℕ
first_for session near f = first_admitting (own_session session f.session) f.index f.stream near

-- the hits among some fragments of a block, numbered from n on, if `first` returns the group that
-- hits a fragment
abbrev pub hits_of_fragments : (Fragment → Option ℕ) → ℕ → ℕ → List Fragment → List Hit
hits_of_fragments first address n fragments =
    filter_map (λ (f : ℕ × Fragment). option_map (hit_at (record { address = address; bytes = [] }) f) (first f.1)) (enumerate_from n fragments)

-- the hit of a numbered fragment of the block at an address, if one of these groups hits it
abbrev pub hit_by : Option SessionKey → List (ℕ × Group) → ℕ → ℕ × Fragment → Option Hit
hit_by session near address f = option_map (hit_at (record { address = address; bytes = [] }) f) (first_for session near f.1)

-- the hits of these groups among all fragments of the block at an address
abbrev pub hits_by : Option SessionKey → List (ℕ × Group) → ℕ → List Fragment → List Hit
hits_by session near address fragments = hits_of_fragments (first_for session near) address 0 fragments

-- two groups are alike in at most one way
alike_once : (g h : ℕ × Group) → IsProp (AreAlike g h)
alike_once g h p q = λ t. record {
  number = ℕ_set g.0 h.0 p.number q.number t;
  session_ids = λ n. Bool-set (admits g.1.session_ids n) (admits h.1.session_ids n) (p.session_ids n) (q.session_ids n) t;
  session_times = λ n. Bool-set (admits g.1.session_times n) (admits h.1.session_times n) (p.session_times n) (q.session_times n) t;
  files = λ n. Bool-set (admits g.1.files n) (admits h.1.files n) (p.files n) (q.files n) t;
  blocks = λ n. Bool-set (admits g.1.blocks n) (admits h.1.blocks n) (p.blocks n) (q.blocks n) t;
  addresses = λ n. Bool-set (admits g.1.addresses n) (admits h.1.addresses n) (p.addresses n) (q.addresses n) t;
  indexes = λ n. Bool-set (admits g.1.indexes n) (admits h.1.indexes n) (p.indexes n) (q.indexes n) t;
  streams = λ n. Bool-set (admits g.1.streams n) (admits h.1.streams n) (p.streams n) (q.streams n) t;
}

-- and so are two lists of groups
pub all_alike_once : (gs hs : List (ℕ × Group)) → IsProp (AllZip AreAlike gs hs)
all_alike_once [] [] p q = refl
all_alike_once [] (h ∷ hs) p q = absurd p
all_alike_once (g ∷ gs) [] p q = absurd p
all_alike_once (g ∷ gs) (h ∷ hs) p q = λ t. (alike_once g h p.0 q.0 t, all_alike_once gs hs p.1 q.1 t)
