-- Joining hits one after another.
use Rattle.std.proofs.Common.{◌≡◌, ℕ, ◌+◌, ◌-◌, ◌<◌, ◌≤◌, true, false, eqb, List, [], ◌∷◌, ◌++◌, length, get_or, take, drop, Option, Some, None, Result, Ok, Err, refl, sym, ap, ◌∙◌, arith, append_assoc}
use Rattle.std.specs.Option.{IfNone}
use Rattle.std.proofs.lemmas.Bool.{eq-eqb, ne_eqb}
use Rattle.std.proofs.lemmas.Grind.{flat_map-append}
use Rattle.std.proofs.lemmas.List.{append-nil, at_drop_more, at_drop_all, take_more, get_or-drop, length-drop}
use Rattle.br_model.specs.Answer.{◌>>=◌, refused_as}
use Rattle.br_model.specs.Block.{Fragment}
use Rattle.br_model.specs.File.{Fault, fault}
use Rattle.br_model.specs.Meaning.{Hit}
use Rattle.br_model.specs.Record.{Begun, Record, with_fragment, still_open, given_out, join_from, join}
use Rattle.br_records.specs.Opening.{begun, begun_from, bytes_between, joined_from}
use Rattle.br_records.specs.Records.{bytes_in, fragments, prefixed}
use Rattle.br_records.specs.declared.file_record.Open.{Open}

-- ---- one fragment

join_one : (o : Option Begun) (f : Fragment) (fs : List Fragment) → join_from o (f ∷ fs) ≡ (with_fragment o f >>= λ b. (join_from (still_open b) fs >>= λ records. Ok (given_out b ++ records)))
unfolding join_from
join_one None f fs = refl
join_one (Some b) f fs = refl

refused_ok : (r : Result Begun ℕ) (b : Begun) → refused_as fault r ≡ Ok b → r ≡ Ok b
refused_ok (Ok c) b e = cc
refused_ok (Err n) b e = absurd cc

-- a fragment that is taken
pub join_more : (o : Option Begun) (f : Fragment) (fs : List Fragment) (b : Begun) → refused_as fault (with_fragment o f) ≡ Ok b
    → join_from o (f ∷ fs) ≡ prefixed (given_out b) (join_from (still_open b) fs)
join_more o f fs b e =
    join_one o f fs ∙ ap (λ (r : Result Begun ℕ). r >>= λ b. (join_from (still_open b) fs >>= λ records. Ok (given_out b ++ records))) (refused_ok (with_fragment o f) b e)
    ∙ go (join_from (still_open b) fs)
  where
    go : (r : Result (List Record) ℕ) → (r >>= λ records. Ok (given_out b ++ records)) ≡ prefixed (given_out b) r
    go (Ok records) = refl
    go (Err n) = refl

-- a fragment that is refused
pub join_refused : (front : List Record) (o : Option Begun) (f : Fragment) (fs : List Fragment) (e : Fault) → refused_as fault (with_fragment o f) ≡ Err e
    → refused_as fault (prefixed front (join_from o (f ∷ fs))) ≡ Err e
join_refused front o f fs e is =
    ap (λ r. refused_as fault (prefixed front r)) (join_one o f fs) ∙ go (with_fragment o f) is
  where
    go : (r : Result Begun ℕ) → refused_as fault r ≡ Err e → refused_as fault (prefixed front (r >>= λ b. (join_from (still_open b) fs >>= λ records. Ok (given_out b ++ records)))) ≡ Err e
    go (Ok b) h = absurd cc
    go (Err n) h = same (fault n) e h
      where
        same : (m k : Fault) → ◌≡◌ {A = Result Begun Fault} (Err m) (Err k) → ◌≡◌ {A = Result (List Record) Fault} (Err m) (Err k)
        same m k d = cc

prefixed_two : (front more : List Record) (r : Result (List Record) ℕ) → prefixed front (prefixed more r) ≡ prefixed (front ++ more) r
prefixed_two front more (Ok records) = ap (λ (rs : List Record). Ok rs) (sym (append_assoc front more records))
prefixed_two front more (Err n) = refl

-- ---- at a place of a list of hits

pub fragments_more : (hits : List Hit) (i : ℕ) (x : Hit) → i < length hits → x ≡ get_or hits i x → fragments (drop i hits) ≡ x.fragment ∷ fragments (drop (i + 1) hits)
fragments_more hits i x within is = at_drop_more fragments hits i x within ∙ ap (λ (h : Hit). h.fragment ∷ fragments (drop (i + 1) hits)) (sym is)

pub between_more : (hits : List Hit) (first i : ℕ) (x : Hit) → i < length hits → x ≡ get_or hits i x → first ≤ i → bytes_between first (i + 1) hits ≡ bytes_between first i hits ++ x.fragment.bytes
between_more hits first i x within is le =
    let j : ℕ = i - first in
    let ys : List Hit = drop first hits in
    let next : i + 1 - first ≡ j + 1 = omega arith in
    let at : first + j ≡ i = omega arith in
    let inside : j < length ys = omega (arith, length-drop first hits) in
    let item : get_or ys j x ≡ x = get_or-drop first hits j x ∙ ap (λ (k : ℕ). get_or hits k x) at ∙ sym is in
    let more : take (i + 1 - first) ys ≡ take j ys ++ x ∷ [] = ap (λ (k : ℕ). take k ys) next ∙ take_more ys j x inside ∙ ap (λ (y : Hit). take j ys ++ y ∷ []) item in
    ap bytes_in more ∙ flat_map-append (λ (h : Hit). h.fragment.bytes) (take j ys) (x ∷ []) ∙ ap (λ (bytes : List ℕ). bytes_in (take j ys) ++ bytes) (append-nil x.fragment.bytes)

module _ (hits : List Hit) (index : ℕ) (records : List Record) (opened : Option Open) (first i : ℕ) (x : Hit) (within : i < length hits) (is : x ≡ get_or hits i x) (le : first ≤ i) (none : IfNone opened (first ≡ i)) (key : x.key.index ≡ index) where
  nothing_yet : IfNone opened (bytes_between first i hits ≡ [])
  nothing_yet = go opened none
    where
      go : (o : Option Open) → IfNone o (first ≡ i) → IfNone o (bytes_between first i hits ≡ [])
      go None same = let zero_left : i - first ≡ 0 = omega arith in rw zero_left refl
      go (Some o) same = same

  -- the refusal of the next hit is that of all
  pub joins_refused : (e : Fault)
      → ((bytes : List ℕ) → IfNone opened (bytes ≡ []) → refused_as fault (with_fragment (begun_from x.key.index bytes opened) x.fragment) ≡ Err e)
      → refused_as fault (joined_from hits index records opened first i) ≡ Err e
  joins_refused e step =
      let bytes = bytes_between first i hits in
      let refused : refused_as fault (with_fragment (begun_from index bytes opened) x.fragment) ≡ Err e = rw key at step bytes nothing_yet in
      ap (λ fs. refused_as fault (prefixed records (join_from (begun_from index bytes opened) fs))) (fragments_more hits i x within is)
      ∙ join_refused records (begun_from index bytes opened) x.fragment (fragments (drop (i + 1) hits)) e refused

  module _ (next : Open) (step : (bytes : List ℕ) → IfNone opened (bytes ≡ []) → refused_as fault (with_fragment (begun_from x.key.index bytes opened) x.fragment) ≡ Ok (begun x.key.index (bytes ++ x.fragment.bytes) next)) where
    after : Begun
    after = begun index (bytes_between first (i + 1) hits) next

    taken : refused_as fault (with_fragment (begun_from index (bytes_between first i hits) opened) x.fragment) ≡ Ok after
    unfolding after
    taken =
        let at_index : refused_as fault (with_fragment (begun_from index (bytes_between first i hits) opened) x.fragment) ≡ Ok (begun index (bytes_between first i hits ++ x.fragment.bytes) next) = rw key at step (bytes_between first i hits) nothing_yet in
        at_index ∙ ap (λ (bytes : List ℕ). Ok (begun index bytes next)) (sym (between_more hits first i x within is le))

    joined_one : joined_from hits index records opened first i ≡ prefixed (records ++ given_out after) (join_from (still_open after) (fragments (drop (i + 1) hits)))
    joined_one =
        ap (λ fs. prefixed records (join_from (begun_from index (bytes_between first i hits) opened) fs)) (fragments_more hits i x within is)
        ∙ ap (prefixed records) (join_more (begun_from index (bytes_between first i hits) opened) x.fragment (fragments (drop (i + 1) hits)) after taken)
        ∙ prefixed_two records (given_out after) (join_from (still_open after) (fragments (drop (i + 1) hits)))

    -- the record stays open
    pub joins_open : 0 < next.left → joined_from hits index records opened first i ≡ joined_from hits index records (Some next) first (i + 1)
    unfolding after
    joins_open some =
        let e : eqb next.left 0 ≡ false = ne_eqb next.left 0 (λ z. omega (arith, z)) in
        joined_one ∙ rw (e, append-nil) refl

    -- the record is whole
    pub joins_whole : next.left ≡ 0 → joined_from hits index records opened first i
        ≡ joined_from hits index (records ++ record { index = index; stream = next.stream; bytes = bytes_between first (i + 1) hits } ∷ []) None (i + 1) (i + 1)
    unfolding after
    joins_whole whole =
        let e : eqb next.left 0 ≡ true = eq-eqb next.left 0 whole in
        joined_one ∙ rw e refl

-- ---- before the first hit, and after the last

pub joins_begin : (hits : List Hit) (index : ℕ) (records : List Record) → records ≡ [] → join (fragments hits) ≡ joined_from hits index records None 0 0
unfolding join
joins_begin hits index records none = rw none (go (join_from None (fragments hits)))
  where
    go : (r : Result (List Record) ℕ) → r ≡ prefixed [] r
    go (Ok rs) = refl
    go (Err n) = refl

module _ (hits : List Hit) (index : ℕ) (records : List Record) (first i : ℕ) (past : length hits ≤ i) where
  fragments_done : fragments (drop i hits) ≡ []
  fragments_done = at_drop_all fragments hits i past

  -- no record is open
  pub joins_done : joined_from hits index records None first i ≡ Ok records
  unfolding join_from
  joins_done = rw fragments_done (ap (λ (rs : List Record). Ok rs) (append-nil records))

  -- the last record is not whole
  pub joins_torn : (o : Open) → refused_as fault (joined_from hits index records (Some o) first i) ≡ Err (fault 61)
  unfolding join_from
  joins_torn o = rw fragments_done refl
