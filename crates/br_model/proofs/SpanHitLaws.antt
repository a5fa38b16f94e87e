-- The hits of one file in the blocks of spans, each span hit by a group of its own: their places rise, and their fragments
-- are those of the file.
use Rattle.std.proofs.Common.{◌≡◌, ℕ, suc, ◌+◌, ◌<◌, ◌≤◌, Bool, true, false, ◌&&◌, cond, List, [], ◌∷◌, ◌++◌, map, filter, Option, Some, refl, sym, ap, subst, ◌∙◌, arith}
use Rattle.std.proofs.lemmas.Bool.{lt-ltb}
use Rattle.std.proofs.lemmas.List.{map-append}
use Rattle.std.proofs.lemmas.List.Elements.{filter-append}
use Rattle.std.specs.Prelude.{Contains, flat_map, slice_get}
use Rattle.std.specs.Int.{is_positive}
use Rattle.std.specs.List.{AllByRecursion, AllZip, enumerate_from}
use Rattle.std.specs.FinMap.{entries}
use Rattle.std.specs.Cmp.{tied_itself, nat_cmp_total}
use Rattle.std.specs.Cmp.Lexicographic.{slice_cmp}
use Rattle.std.specs.Ordering.{nat_cmp, ordering_then}
use Rattle.std.specs.declared.cmp.Ordering.TheVariants.{Less}
use Rattle.br_model.specs.Name.{FileKey, same_session}
use Rattle.br_model.specs.Block.{Fragment, fragments_of}
use Rattle.br_model.specs.Volume.{Volume, LaidBlock, AreLaidFrom}
use Rattle.br_model.specs.Meaning.{Spot, spot_rank, Hit, Hits, HasHit}
use Rattle.br_model.specs.Restored.{fragments_for}
use Rattle.br_model.specs.Job.{Span}
use Rattle.br_model.specs.Stored.{is_in_span, file_fragments, IsSpanLaid}
use Rattle.br_model.proofs.CutLaws.{has_index}
use Rattle.br_model.proofs.FileLaws.{session_fragments}
use Rattle.br_model.proofs.RisingLaws.{IsBefore, Rise, fragments_of_rising, IsHitBefore}
use Rattle.br_model.proofs.ListLaws.{all_append, all_weaker, filter_twice, to_each, first_in, later_in, numbered_place, of_each}
use Rattle.br_model.proofs.PairLaws.{EachPair, pairs_append, pairs_filter, pairs_weaker}
use Rattle.br_model.proofs.SpanLaws.{IsBehind, laid_ascend, laid_behind}

-- ---- places

number_below : (m n : ℕ) → m < n → nat_cmp m n ≡ Less
number_below m n lt = rw (lt-ltb m n lt) refl

-- a place of an earlier group is before one of a later group
pub before_by_group : (s t : Spot) → s.group < t.group → IsBefore s t
before_by_group s t lt = ap (λ o. ordering_then o (slice_cmp nat_cmp (s.address ∷ s.ordinal ∷ []) (t.address ∷ t.ordinal ∷ []))) (number_below s.group t.group lt)

-- of one group a place in an earlier block is before one in a later block
pub before_by_address : (s t : Spot) → s.group ≡ t.group → s.address < t.address → IsBefore s t
before_by_address s t same lt =
    ap (λ (g : ℕ). slice_cmp nat_cmp (g ∷ s.address ∷ s.ordinal ∷ []) (spot_rank t)) same
    ∙ ap (λ o. ordering_then o (slice_cmp nat_cmp (s.address ∷ s.ordinal ∷ []) (t.address ∷ t.ordinal ∷ []))) (tied_itself nat_cmp_total t.group)
    ∙ ap (λ o. ordering_then o (slice_cmp nat_cmp (s.ordinal ∷ []) (t.ordinal ∷ []))) (number_below s.address t.address lt)

-- in one block an earlier fragment is before a later one
pub before_by_ordinal : (s t : Spot) → s.group ≡ t.group → s.address ≡ t.address → s.ordinal < t.ordinal → IsBefore s t
before_by_ordinal s t same there lt =
    (λ i. slice_cmp nat_cmp (same i ∷ there i ∷ s.ordinal ∷ []) (spot_rank t))
    ∙ ap (λ o. ordering_then o (slice_cmp nat_cmp (t.address ∷ s.ordinal ∷ []) (t.address ∷ t.ordinal ∷ []))) (tied_itself nat_cmp_total t.group)
    ∙ ap (λ o. ordering_then o (slice_cmp nat_cmp (s.ordinal ∷ []) (t.ordinal ∷ []))) (tied_itself nat_cmp_total t.address)
    ∙ ap (λ o. ordering_then o (slice_cmp nat_cmp [] [])) (number_below s.ordinal t.ordinal lt)

-- ---- the hits of a file

-- the fragment is one of the file with this key
abbrev pub is_of_file : FileKey → Fragment → Bool
is_of_file key f = (same_session f.session key.session && is_positive f.index) && has_index key.index f

-- the hit of a group on a fragment of a block
abbrev pub hit_there : FileKey → ℕ → ℕ → ℕ × Fragment → Hit
hit_there key group address f = record { key = key; spot = record { group = group; address = address; ordinal = f.0 }; fragment = f.1 }

-- the hits of a group on the file's fragments, which are numbered from a place on
abbrev pub hits_from : FileKey → ℕ → ℕ → ℕ → List Fragment → List Hit
hits_from key group address n fs = map (hit_there key group address) (filter (λ (f : ℕ × Fragment). is_of_file key f.1) (enumerate_from n fs))

-- the hits of a group on the file's fragments in a block, in the blocks of a span, and in those of spans under groups of
-- which the first has this number
abbrev pub block_hits : FileKey → ℕ → LaidBlock → List Hit
block_hits key group b = hits_from key group b.address 0 (fragments_of b.bytes)

-- the hits in the blocks of a span
abbrev pub span_hits : FileKey → ℕ → List LaidBlock → List Hit
span_hits key group blocks = flat_map (block_hits key group) blocks

-- the hits in spans, of which the first is hit by the group of this number
abbrev pub spans_hits : FileKey → ℕ → List (List LaidBlock) → List Hit
spans_hits key n [] = []
spans_hits key n (b ∷ bs) = span_hits key n b ++ spans_hits key (n + 1) bs

-- ---- their fragments

abbrev fragment_of : Hit → Fragment
fragment_of h = h.fragment

-- the fragments of the hits in numbered fragments are those of the file
hits_from_are : (key : FileKey) (group address n : ℕ) (fs : List Fragment) → map fragment_of (hits_from key group address n fs) ≡ filter (is_of_file key) fs
hits_from_are key group address n [] = refl
hits_from_are key group address n (f ∷ fs) = go (is_of_file key f) (hits_from_are key group address (n + 1) fs)
  where
    rest : List (ℕ × Fragment)
    rest = filter (λ (g : ℕ × Fragment). is_of_file key g.1) (enumerate_from (n + 1) fs)

    go : (b : Bool) → map fragment_of (map (hit_there key group address) rest) ≡ filter (is_of_file key) fs
        → map fragment_of (map (hit_there key group address) (cond b ((n, f) ∷ rest) rest)) ≡ cond b (f ∷ filter (is_of_file key) fs) (filter (is_of_file key) fs)
    go true same = ap (λ gs. f ∷ gs) same
    go false same = same

span_hits_are : (key : FileKey) (group : ℕ) (blocks : List LaidBlock)
    → map fragment_of (span_hits key group blocks) ≡ filter (is_of_file key) (flat_map (λ (b : LaidBlock). fragments_of b.bytes) blocks)
span_hits_are key group [] = refl
span_hits_are key group (b ∷ bs) =
    map-append fragment_of (block_hits key group b) (span_hits key group bs)
    ∙ (λ i. hits_from_are key group b.address 0 (fragments_of b.bytes) i ++ span_hits_are key group bs i)
    ∙ sym (filter-append (is_of_file key) (fragments_of b.bytes) (flat_map (λ (c : LaidBlock). fragments_of c.bytes) bs))

-- the fragments of a file's hits in spans are those of its index in the spans
pub spans_hits_are : (key : FileKey) (n : ℕ) (blocks : List (List LaidBlock)) → map fragment_of (spans_hits key n blocks) ≡ filter (has_index key.index) (session_fragments key.session blocks)
unfolding file_fragments
spans_hits_are key n [] = refl
spans_hits_are key n (b ∷ bs) =
    map-append fragment_of (span_hits key n b) (spans_hits key (n + 1) bs)
    ∙ (λ i. (span_hits_are key n b ∙ sym (filter_twice (λ (f : Fragment). same_session f.session key.session && is_positive f.index) (has_index key.index) (flat_map (λ (c : LaidBlock). fragments_of c.bytes) b))) i
    ++ spans_hits_are key (n + 1) bs i)
    ∙ sym (filter-append (has_index key.index) (file_fragments key.session b) (session_fragments key.session bs))

-- ---- their places

-- what holds of the hit on each numbered fragment of a file holds of its hits in them
each_hit_from : (P : Hit → Type 0) (key : FileKey) (group address n : ℕ) (fs : List Fragment)
    → ((m : ℕ) (f : Fragment) → Contains (enumerate_from n fs) (m, f) → is_of_file key f ≡ true → P (hit_there key group address (m, f))) → AllByRecursion P (hits_from key group address n fs)
each_hit_from P key group address n [] h = tt
each_hit_from P key group address n (f ∷ fs) h =
    go (is_of_file key f) refl (each_hit_from P key group address (n + 1) fs (λ m g inside passes. h m g (later_in (n, f) (enumerate_from (n + 1) fs) (m, g) inside) passes))
  where
    rest : List (ℕ × Fragment)
    rest = filter (λ (g : ℕ × Fragment). is_of_file key g.1) (enumerate_from (n + 1) fs)

    go : (b : Bool) → is_of_file key f ≡ b → AllByRecursion P (map (hit_there key group address) rest) → AllByRecursion P (map (hit_there key group address) (cond b ((n, f) ∷ rest) rest))
    go true passes each = (h n f (first_in (n, f) (enumerate_from (n + 1) fs) (n, f) refl) passes, each)
    go false passes each = each

each_hit_in_span : (P : Hit → Type 0) (key : FileKey) (group : ℕ) (bs : List LaidBlock)
    → ((b : LaidBlock) (m : ℕ) (f : Fragment) → Contains bs b → Contains (enumerate_from 0 (fragments_of b.bytes)) (m, f) → is_of_file key f ≡ true → P (hit_there key group b.address (m, f)))
    → AllByRecursion P (span_hits key group bs)
each_hit_in_span P key group [] h = tt
each_hit_in_span P key group (b ∷ bs) h =
    all_append P (block_hits key group b) (span_hits key group bs) (each_hit_from P key group b.address 0 (fragments_of b.bytes) (λ m f. h b m f (first_in b bs b refl)))
    (each_hit_in_span P key group bs (λ c m f inside. h c m f (later_in b bs c inside)))

-- what holds of the hit on each fragment of a file in spans holds of each of its hits
pub each_hit : (P : Hit → Type 0) (key : FileKey) (n : ℕ) (blocks : List (List LaidBlock))
    → ((i : ℕ) (bs : List LaidBlock) (b : LaidBlock) (m : ℕ) (f : Fragment) → slice_get blocks i ≡ Some bs → Contains bs b → Contains (enumerate_from 0 (fragments_of b.bytes)) (m, f)
    → is_of_file key f ≡ true → P (hit_there key (n + i) b.address (m, f)))
    → AllByRecursion P (spans_hits key n blocks)
each_hit P key n [] h = tt
each_hit P key n (bs ∷ bss) h =
    let none : n + 0 ≡ n = omega arith in
    let next : (i : ℕ) → n + suc i ≡ (n + 1) + i = λ i. omega arith in
    all_append P (span_hits key n bs) (spans_hits key (n + 1) bss)
    (each_hit_in_span P key n bs (λ b m f b_in f_in passes. subst (λ (g : ℕ). P (hit_there key g b.address (m, f))) none (h 0 bs b m f refl b_in f_in passes)))
    (each_hit P key (n + 1) bss (λ i cs b m f at b_in f_in passes. subst (λ (g : ℕ). P (hit_there key g b.address (m, f))) (next i) (h (suc i) cs b m f at b_in f_in passes)))

-- what holds of each hit in numbered fragments, and of hits in spans
each_from : (P : Hit → Type 0) (key : FileKey) (group address n : ℕ) (fs : List Fragment) → ((m : ℕ) (f : Fragment) → n ≤ m → P (hit_there key group address (m, f)))
    → AllByRecursion P (hits_from key group address n fs)
each_from P key group address n fs h =
    each_hit_from P key group address n fs (λ m f inside passes. h m f (not_below m f (numbered_place n fs (m, f) inside)))
  where
    not_below : (m : ℕ) (f : Fragment) → (i : ℕ) × (m ≡ n + i) × (slice_get fs i ≡ Some f) → n ≤ m
    not_below m f place = omega (arith, place.1)

each_in_span : (P : Hit → Type 0) (key : FileKey) (group : ℕ) (blocks : List LaidBlock)
    → AllByRecursion (λ (b : LaidBlock). (m : ℕ) (f : Fragment) → P (hit_there key group b.address (m, f))) blocks → AllByRecursion P (span_hits key group blocks)
each_in_span P key group blocks h =
    each_hit_in_span P key group blocks (λ b m f inside f_in passes. of_each (λ (c : LaidBlock). (k : ℕ) (g : Fragment) → P (hit_there key group c.address (k, g))) blocks b h inside m f)

each_in_spans : (P : Hit → Type 0) (key : FileKey) (n : ℕ) (blocks : List (List LaidBlock)) → ((group address m : ℕ) (f : Fragment) → n ≤ group → P (hit_there key group address (m, f)))
    → AllByRecursion P (spans_hits key n blocks)
each_in_spans P key n blocks h = each_hit P key n blocks (λ i bs b m f at b_in f_in passes. h (n + i) b.address m f (omega arith))

-- the hits of a file in spans have its key
pub spans_hits_have_key : (key : FileKey) (n : ℕ) (blocks : List (List LaidBlock)) → AllByRecursion (λ (h : Hit). h.key ≡ key) (spans_hits key n blocks)
spans_hits_have_key key n blocks = each_in_spans (λ (h : Hit). h.key ≡ key) key n blocks (λ group address m f le. refl)

-- the addresses of the blocks rise
abbrev pub AddressesRise : List LaidBlock → Type 0
AddressesRise bs = EachPair (λ (b c : LaidBlock). b.address < c.address) bs

-- in one block hits rise
rise_from : (key : FileKey) (group address n : ℕ) (fs : List Fragment) → Rise (hits_from key group address n fs)
rise_from key group address n [] = tt
rise_from key group address n (f ∷ fs) =
    go (is_of_file key f)
    (each_from (λ (h : Hit). IsBefore (hit_there key group address (n, f)).spot h.spot) key group address (n + 1) fs
    (λ m g le. before_by_ordinal (hit_there key group address (n, f)).spot (hit_there key group address (m, g)).spot refl refl (omega arith)))
    (rise_from key group address (n + 1) fs)
  where
    rest : List (ℕ × Fragment)
    rest = filter (λ (g : ℕ × Fragment). is_of_file key g.1) (enumerate_from (n + 1) fs)

    go : (b : Bool) → AllByRecursion (λ (h : Hit). IsBefore (hit_there key group address (n, f)).spot h.spot) (map (hit_there key group address) rest)
        → Rise (map (hit_there key group address) rest) → Rise (map (hit_there key group address) (cond b ((n, f) ∷ rest) rest))
    go true before rise = (before, rise)
    go false before rise = rise

-- in the blocks of a span hits rise
rise_in_span : (key : FileKey) (group : ℕ) (blocks : List LaidBlock) → AddressesRise blocks → Rise (span_hits key group blocks)
rise_in_span key group [] up = tt
rise_in_span key group (b ∷ bs) up =
    pairs_append IsHitBefore (block_hits key group b) (span_hits key group bs) (rise_from key group b.address 0 (fragments_of b.bytes)) (rise_in_span key group bs up.1) (each_from (λ (g : Hit). AllByRecursion (λ (h : Hit). IsBefore g.spot h.spot) (span_hits key group bs)) key group b.address 0 (fragments_of b.bytes)
    (λ m f le. each_in_span (λ (h : Hit). IsBefore (hit_there key group b.address (m, f)).spot h.spot) key group bs
    (all_weaker (λ (c : LaidBlock). b.address < c.address) (λ (c : LaidBlock). (k : ℕ) (g : Fragment) → IsBefore (hit_there key group b.address (m, f)).spot (hit_there key group c.address (k, g)).spot)
    (λ c lt k g. before_by_address (hit_there key group b.address (m, f)).spot (hit_there key group c.address (k, g)).spot refl lt) bs up.0)))

-- the hits of a file in spans, each with blocks whose addresses rise, rise
pub spans_hits_rise : (key : FileKey) (n : ℕ) (blocks : List (List LaidBlock)) → AllByRecursion AddressesRise blocks → Rise (spans_hits key n blocks)
spans_hits_rise key n [] up = tt
spans_hits_rise key n (b ∷ bs) up =
    pairs_append IsHitBefore (span_hits key n b) (spans_hits key (n + 1) bs) (rise_in_span key n b up.0) (spans_hits_rise key (n + 1) bs up.1) (each_in_span (λ (g : Hit). AllByRecursion (λ (h : Hit). IsBefore g.spot h.spot) (spans_hits key (n + 1) bs)) key n b
    (to_each (λ (c : LaidBlock). (m : ℕ) (f : Fragment) → AllByRecursion (λ (h : Hit). IsBefore (hit_there key n c.address (m, f)).spot h.spot) (spans_hits key (n + 1) bs)) b
    (λ c inside m f. each_in_spans (λ (h : Hit). IsBefore (hit_there key n c.address (m, f)).spot h.spot) key (n + 1) bs
    (λ group address k g le. before_by_group (hit_there key n c.address (m, f)).spot (hit_there key group address (k, g)).spot (omega arith)))))

-- blocks that are laid from an address on are at it or after it, and their addresses rise
pub laid_rise : (address : ℕ) (left : List ℕ) (bound : Option ℕ) (covered : ℕ → Bool) (bs : List LaidBlock) → AreLaidFrom address left bound covered bs
    → AllByRecursion (λ (b : LaidBlock). address ≤ b.address) bs × AddressesRise bs
laid_rise address left bound covered bs laid = (
  laid_behind address left bound covered bs laid,
  pairs_weaker (λ (b : LaidBlock). IsBehind (b.address + 16)) (λ (b c : LaidBlock). b.address < c.address) (λ b c le. omega (arith, le)) bs (laid_ascend address left bound covered bs laid),
)

-- the addresses of a laid span's blocks rise
pub span_rises : (volumes : List Volume) (s : Span) (blocks : List LaidBlock) → IsSpanLaid volumes s blocks → AddressesRise blocks
span_rises volumes s blocks is =
    subst AddressesRise (sym is.blocks_are) (pairs_filter (λ (b c : LaidBlock). b.address < c.address) (λ (b : LaidBlock). is_in_span s b.address) is.all (laid_rise 0 is.bytes (Some s.end) (is_in_span s) is.all is.laid).1)

-- what follows of spans and their blocks place by place holds of the blocks
pub of_zip : {X Y : Type 0} (R : X → Y → Type 0) (P : Y → Type 0) → ((x : X) (y : Y) → R x y → P y) → (xs : List X) (ys : List Y) → AllZip R xs ys → AllByRecursion P ys
of_zip R P f [] [] h = tt
of_zip R P f [] (y ∷ ys) h = absurd h
of_zip R P f (x ∷ xs) [] h = absurd h
of_zip R P f (x ∷ xs) (y ∷ ys) h = (f x y h.0, of_zip R P f xs ys h.1)

-- If a set has exactly the hits of a file in some laid spans, each under the group of its number,
-- the file's fragments are those of its index in the spans.
pub fragments_of_spans : (volumes : List Volume) (key : FileKey) (n : ℕ) (spans : List Span) (blocks : List (List LaidBlock)) (set : Hits) → AllZip (IsSpanLaid volumes) spans blocks
    → AllByRecursion (HasHit set) (spans_hits key n blocks) → ((h : Hit) → h.key ≡ key → HasHit set h → Contains (spans_hits key n blocks) h)
    → fragments_for key (entries set) ≡ filter (has_index key.index) (session_fragments key.session blocks)
fragments_of_spans volumes key n spans blocks set laid has all =
    fragments_of_rising key set (spans_hits key n blocks) (spans_hits_have_key key n blocks)
    (spans_hits_rise key n blocks (of_zip (IsSpanLaid volumes) AddressesRise (span_rises volumes) spans blocks laid)) has all
    ∙ spans_hits_are key n blocks
