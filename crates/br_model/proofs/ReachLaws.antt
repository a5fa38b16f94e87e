-- In a meaning the hits that a walk reaches are the hits.
use Rattle.std.proofs.Common.{◌≡◌, ℕ, ◌+◌, ◌≤◌, Bool, true, false, ◌||◌, cond, eqb, List, [], ◌∷◌, length, ◌++◌, map, Option, Some, None, Result, Ok, refl, sym, ap, subst, ◌∙◌, inl, inr, arith}
use Rattle.std.proofs.lemmas.Bool.{leb-true, eqb-true, eq-eqb, ltb-false, le-ltb, lt-ltb, and_parts, both_ways, or_cases, or_parts, or_right}
use Rattle.std.proofs.lemmas.Option.{same_Some}
use Rattle.std.proofs.lemmas.List.{length-append, length-drop, take-append-le, drop-append-le}
use Rattle.std.proofs.lemmas.Slice.Eq.{bytes_eq-Decides}
use Rattle.std.specs.Prelude.{nat_le, bytes_eq, Contains, flat_map, drop, fold, max, find, option_map}
use Rattle.std.specs.Int.{is_in_range}
use Rattle.std.specs.List.{AllByRecursion, enumerate_from, list_any}
use Rattle.br_model.specs.Answer.{◌>>=◌, refused_as, some_or}
use Rattle.br_model.specs.Text.{is_empty}
use Rattle.br_model.specs.Order.{without_repeats}
use Rattle.br_model.specs.Block.{Header, Fragment}
use Rattle.br_model.specs.Volume.{Volume, volume_bytes, LaidBlock, BlockFault, is_above, AreLaidFrom, AreLaid}
use Rattle.br_model.specs.Bootstrap.{Range, Group, hits}
use Rattle.br_model.specs.Meaning.{Hit, Hits, PieceFault, IsHit, IsReached, covers, last_address, bound_of, is_covered, groups_on, just_groups, first_hitting, volumes_of, pieces_of, blocks_for, hits_in, hits_among, hits_on, hits_on_each, hits_of, meaning, ReachedAreHits, ReachedStays}
use Rattle.br_model.proofs.AnswerLaws.{bind_ok, refused_as_ok, ok_is}
use Rattle.br_model.proofs.VolumeLaws.{header_has_16, walk_is_exact_lem, laid_block}
use Rattle.br_model.proofs.PieceLaws.{on_from, piece_of}
use Rattle.br_model.proofs.ListLaws.{at_least, first_in, first_or_later, in_without_repeats, later_in, of_each, to_each}
use Rattle.br_model.proofs.SpanLaws.{read_header_more, some_left}

-- ---- walks that end at one block

abbrev is_at : ℕ → ℕ → Bool
is_at place address = eqb address place

-- up to a covered block that a walk finds, its volume is laid
record ReachesTo (address : ℕ) (left : List ℕ) (b : LaidBlock) : Type 0 where
  blocks : List LaidBlock
  laid : AreLaidFrom address left (Some b.address) (is_at b.address) blocks
  among : Contains blocks b
  behind : address ≤ b.address

reaches : (address : ℕ) (left : List ℕ) (bound : Option ℕ) (covered : ℕ → Bool) (bs : List LaidBlock) (b : LaidBlock)
    → AreLaidFrom address left bound covered bs → Contains bs b → covered b.address ≡ true → ReachesTo address left b
reaches address left bound covered [] b laid among c = absurd (omega (arith, among.1))
reaches address left bound covered (x ∷ xs) b laid among c =
    let h = laid.2 in
    let size : 16 ≤ h.size = (header_has_16 left h laid.3).1 in
    elim (first_or_later x xs b among) [
      | inl e ↦
          let at : b.address ≡ address = ap (λ (y : LaidBlock). y.address) (sym e ∙ laid.5) in
          record {
            blocks = b ∷ [];
            laid = (
              laid.0,
              le-ltb b.address address (omega (arith, at)),
              h,
              laid.3,
              (λ q. laid.4 (ap covered (sym at) ∙ c)),
              sym e ∙ laid.5,
              inr (lt-ltb b.address (address + h.size) (omega (arith, at, size))),
            );
            among = first_in b [] b refl;
            behind = omega (arith, at);
          }
      | inr inside ↦
          let r = reaches (address + h.size) (drop h.size left) bound covered xs b laid.6 inside c in
          record {
            blocks = x ∷ r.blocks;
            laid = (
              laid.0,
              le-ltb b.address address (omega (arith, r.behind)),
              h,
              laid.3,
              (λ q. let e = eqb-true address b.address q in absurd (omega (arith, e, r.behind, size))),
              laid.5,
              r.laid,
            );
            among = later_in x r.blocks b r.among;
            behind = omega (arith, r.behind);
          }
    ]

below_bound : (bound : Option ℕ) (a b : ℕ) → a ≤ b → is_above bound b ≡ false → is_above bound a ≡ false
below_bound None a b le e = refl
below_bound (Some n) a b le e = let h = ltb-false n b e in le-ltb n a (omega (arith, h, le))

-- a block up to which the volume is laid is one of those of a walk that goes so far
is_found : (address : ℕ) (left : List ℕ) (bound : Option ℕ) (covered : ℕ → Bool) (ys bs : List LaidBlock) (b : LaidBlock)
    → AreLaidFrom address left (Some b.address) (is_at b.address) ys → Contains ys b → AreLaidFrom address left bound covered bs → is_above bound b.address ≡ false → Contains bs b
is_found address left bound covered [] bs b reached among laid near = absurd (omega (arith, among.1))
is_found address left bound covered (y ∷ ys) [] b reached among laid near =
    let before : address ≤ b.address = ltb-false b.address address reached.1 in
    elim laid [
      | inl e ↦ absurd (omega (arith, ap length e, reached.0))
      | inr e ↦ absurd (both_ways (is_above bound address) (below_bound bound address b.address before near) e)
    ]
is_found address left bound covered (y ∷ ys) (x ∷ xs) b reached among laid near =
    let same : reached.2 ≡ laid.2 = ok_is reached.2 laid.2 (sym reached.3 ∙ laid.3) in
    let blocks : x ≡ y = laid.5 ∙ ap (laid_block address left) (sym same) ∙ sym reached.5 in
    elim (first_or_later y ys b among) [
      | inl e ↦ first_in x xs b (blocks ∙ e)
      | inr inside ↦
          let rest = subst (λ (h : Header). AreLaidFrom (address + h.size) (drop h.size left) (Some b.address) (is_at b.address) ys) same reached.6 in
          later_in x xs b (is_found (address + laid.2.size) (drop laid.2.size left) bound covered ys xs b rest inside laid.6 near)
    ]

-- ---- a group that hits covers the block, and the walk goes so far

-- a group that hits covers the address
pub hit_is_covered : (g : Group) (address : ℕ) (f : Fragment) → hits g address f ≡ true → covers g address ≡ true
unfolding hits
hit_is_covered g address f e = (and_parts _ _ (and_parts _ _ (and_parts _ _ e).0).0).1

abbrev numbered_hit : ℕ → Fragment → ℕ × Group → Bool
numbered_hit address f g = hits g.1 address f

any_is_covered : (numbered : List (ℕ × Group)) (address : ℕ) (f : Fragment) (n : ℕ)
    → option_map (λ (g : ℕ × Group). g.0) (find (numbered_hit address f) numbered) ≡ Some n → is_covered (just_groups numbered) address ≡ true
any_is_covered [] address f n e = absurd cc
any_is_covered (g ∷ gs) address f n e = go (hits g.1 address f) refl (any_is_covered gs address f n) e
  where
    go : (b : Bool) → hits g.1 address f ≡ b → (option_map (λ (h : ℕ × Group). h.0) (find (numbered_hit address f) gs) ≡ Some n → is_covered (just_groups gs) address ≡ true)
        → option_map (λ (h : ℕ × Group). h.0) (cond b (Some g) (find (numbered_hit address f) gs)) ≡ Some n
        → (covers g.1 address || is_covered (just_groups gs) address) ≡ true
    go true hit rest found = ap (λ b. b || is_covered (just_groups gs) address) (hit_is_covered g.1 address f hit)
    go false hit rest found = or_right (covers g.1 address) _ (rest found)

range_below : (rs : List Range) (n address : ℕ) → list_any (λ (r : Range). is_in_range r.low r.high address) rs ≡ true → address ≤ fold (λ m (r : Range). max m r.high) n rs
range_below [] n address e = absurd cc
range_below (r ∷ rs) n address e =
    let f : ℕ → Range → ℕ = λ m s. max m s.high in
    elim (or_cases (is_in_range r.low r.high address) _ e) [
      | inl p ↦
          let high : address ≤ r.high = leb-true address r.high (and_parts (nat_le r.low address) (nat_le address r.high) p).1 in
          let more = at_least (λ (s : Range). s.high) (max n r.high) rs in
          omega (arith, high, more)
      | inr p ↦ range_below rs (max n r.high) address p
    ]

abbrev is_whole : Group → Bool
is_whole g = is_empty g.addresses

group_below : (groups : List Group) (n address : ℕ) → is_covered groups address ≡ true → list_any is_whole groups ≡ false → address ≤ fold (λ m g. max m (last_address g)) n groups
group_below [] n address e none = absurd cc
group_below (g ∷ gs) n address e none =
    let apart = or_parts (is_whole g) (list_any is_whole gs) none in
    elim (or_cases (covers g address) _ e) [
      | inl p ↦
          let within : list_any (λ (r : Range). is_in_range r.low r.high address) g.addresses ≡ true =
          elim (or_cases (is_whole g) _ p) [ inl q ↦ absurd (both_ways (is_whole g) apart.0 q) | inr q ↦ q ] in
          let last = range_below g.addresses 0 address within in
          let more = at_least last_address (max n (last_address g)) gs in
          omega (arith, last, more)
      | inr p ↦ group_below gs (max n (last_address g)) address p apart.1
    ]

not_above : (groups : List Group) (address : ℕ) → is_covered groups address ≡ true → is_above (bound_of groups) address ≡ false
unfolding bound_of
not_above groups address e = go (list_any is_whole groups) refl
  where
    go : (b : Bool) → list_any is_whole groups ≡ b → is_above (cond b None (Some (fold (λ m g. max m (last_address g)) 0 groups))) address ≡ false
    go true h = refl
    go false h = le-ltb (fold (λ m g. max m (last_address g)) 0 groups) address (group_below groups 0 address e h)

-- ---- in a meaning each volume is laid

-- the blocks that the groups on a volume ask for are found
pub record IsWalked (groups : List Group) (volumes : List Volume) (volume : List ℕ) : Type 0 where
  pub bytes : List ℕ
  pub all : List LaidBlock
  pub found : volume_bytes volumes volume ≡ Some bytes
  pub walked : blocks_for (groups_on groups volume) bytes ≡ Ok all

searched : (groups : List Group) (volumes : List Volume) (number : ℕ) (volume : List ℕ) (found : List Hit) → hits_on volumes (piece_of groups (number, volume)) ≡ Ok found → IsWalked groups volumes volume
unfolding hits_on hits_among
searched groups volumes number volume found e = go (volume_bytes volumes volume) refl e
  where
    missing : PieceFault
    missing = record { number = 14; volume = volume; address = 0 }

    fault_of : BlockFault → PieceFault
    fault_of e = record { number = e.number; volume = volume; address = e.address }

    gather : List LaidBlock → Result (List Hit) BlockFault
    gather blocks = Ok (flat_map (hits_in (groups_on groups volume)) blocks)

    go : (o : Option (List ℕ)) → volume_bytes volumes volume ≡ o → (some_or o missing >>= λ bytes. refused_as fault_of (hits_among (groups_on groups volume) bytes)) ≡ Ok found → IsWalked groups volumes volume
    go (Some bytes) is h =
        let walk = bind_ok (blocks_for (groups_on groups volume) bytes) gather found (refused_as_ok fault_of (hits_among (groups_on groups volume) bytes) found h) in
        record { bytes = bytes; all = walk.0; found = is; walked = walk.1 }
    go None is h = absurd cc

each_is_searched : (groups : List Group) (volumes : List Volume) (n : ℕ) (names : List (List ℕ)) (found : List Hit)
    → hits_on_each volumes (map (piece_of groups) (enumerate_from n names)) ≡ Ok found → AllByRecursion (IsWalked groups volumes) names
unfolding hits_on_each
each_is_searched groups volumes n [] found e = tt
each_is_searched groups volumes n (name ∷ names) found e =
    let join_lists : List Hit → List Hit → Result (List Hit) PieceFault = λ first more. Ok (first ++ more) in
    let p = bind_ok (hits_on volumes (piece_of groups (n, name))) (λ first. hits_on_each volumes (map (piece_of groups) (enumerate_from (n + 1) names)) >>= join_lists first) found e in
    let q = bind_ok (hits_on_each volumes (map (piece_of groups) (enumerate_from (n + 1) names))) (join_lists p.0) found p.2 in
    (searched groups volumes n name p.0 p.1, each_is_searched groups volumes (n + 1) names q.0 q.1)

-- in a meaning each volume that the groups name is searched
pub volumes_are_searched : (groups : List Group) (volumes : List Volume) (set : Hits) → meaning groups volumes ≡ Ok set → AllByRecursion (IsWalked groups volumes) (volumes_of groups)
unfolding meaning pieces_of
volumes_are_searched groups volumes set e =
    let all = bind_ok (hits_on_each volumes (pieces_of groups)) (λ found. Ok (hits_of found)) set e in
    each_is_searched groups volumes 0 (volumes_of groups) all.0 all.1

-- what holds of lists without repeats holds of all
repeated : (P : List ℕ → Type 0) (xs : List (List ℕ)) → AllByRecursion P (without_repeats xs) → AllByRecursion P xs
repeated P xs h = to_each P xs (λ v inside. of_each P (without_repeats xs) v h (in_without_repeats xs v inside))

-- what holds of each volume that is named holds of one with a group that hits
of_hit : (P : List ℕ → Type 0) (n : ℕ) (groups : List Group) (volume : List ℕ) (address : ℕ) (f : Fragment) (number : ℕ)
    → AllByRecursion P (map (λ (g : Group). g.volume) groups) → option_map (λ (g : ℕ × Group). g.0) (find (numbered_hit address f) (on_from n groups volume)) ≡ Some number → P volume
of_hit P n [] volume address f number all e = absurd cc
of_hit P n (g ∷ gs) volume address f number all e = go (bytes_eq g.volume volume) refl (of_hit P (n + 1) gs volume address f number all.1) e
  where
    go : (b : Bool) → bytes_eq g.volume volume ≡ b
        → (option_map (λ (h : ℕ × Group). h.0) (find (numbered_hit address f) (on_from (n + 1) gs volume)) ≡ Some number → P volume)
        → option_map (λ (h : ℕ × Group). h.0) (find (numbered_hit address f) (cond b ((n, g) ∷ on_from (n + 1) gs volume) (on_from (n + 1) gs volume))) ≡ Some number → P volume
    go true is rest h = subst P ((bytes_eq-Decides g.volume volume).0 is) all.0
    go false is rest h = rest h

-- in a meaning the volume of a hit is laid
volume_is_searched : (groups : List Group) (volumes : List Volume) (set : Hits) (volume : List ℕ) (address : ℕ) (f : Fragment) (number : ℕ)
    → meaning groups volumes ≡ Ok set → first_hitting (groups_on groups volume) address f ≡ Some number → IsWalked groups volumes volume
unfolding first_hitting groups_on
volume_is_searched groups volumes set volume address f number e hit =
    let each = repeated (IsWalked groups volumes) (map (λ (g : Group). g.volume) groups) (volumes_are_searched groups volumes set e) in
    of_hit (IsWalked groups volumes) 0 groups volume address f number each hit

group_covers : (groups : List Group) (volume : List ℕ) (address : ℕ) (f : Fragment) (number : ℕ)
    → first_hitting (groups_on groups volume) address f ≡ Some number → is_covered (just_groups (groups_on groups volume)) address ≡ true
unfolding first_hitting
group_covers groups volume address f number hit = any_is_covered (groups_on groups volume) address f number hit

pub hit_is_reached : (groups : List Group) (volumes : List Volume) (hit : Hit) → IsHit groups volumes hit → IsReached groups volumes hit
hit_is_reached groups volumes hit is =
    let r = reaches 0 is.bytes (bound_of (just_groups (groups_on groups is.volume))) (is_covered (just_groups (groups_on groups is.volume))) is.blocks is.block is.laid is.among
    (group_covers groups is.volume is.block.address hit.fragment hit.spot.group is.group) in
    record {
      volume = is.volume;
      bytes = is.bytes;
      blocks = r.blocks;
      block = is.block;
      found = is.found;
      laid = subst (λ (place : ℕ). AreLaid is.bytes (Some place) (is_at place) r.blocks) (sym is.address) r.laid;
      among = r.among;
      address = is.address;
      ordinal = is.ordinal;
      group = is.group;
      key = is.key;
    }

pub reached_are_hits_lem : ReachedAreHits
reached_are_hits_lem groups volumes set hit e = (to_hit, hit_is_reached groups volumes hit)
  where
    to_hit : IsReached groups volumes hit → IsHit groups volumes hit
    to_hit is =
        let groups_here = just_groups (groups_on groups is.volume) in
        let s = volume_is_searched groups volumes set is.volume is.block.address hit.fragment hit.spot.group e is.group in
        let same : s.bytes ≡ is.bytes = same_Some s.bytes is.bytes (sym s.found ∙ is.found) in
        let laid : AreLaid s.bytes (bound_of groups_here) (is_covered groups_here) s.all = (walk_is_exact_lem s.bytes (bound_of groups_here) (is_covered groups_here) s.all).0 s.walked in
        let laid_here = subst (λ (bytes : List ℕ). AreLaid bytes (bound_of groups_here) (is_covered groups_here) s.all) same laid in
        let reached = subst (λ (place : ℕ). AreLaid is.bytes (Some place) (is_at place) is.blocks) is.address is.laid in
        let near = not_above groups_here is.block.address (group_covers groups is.volume is.block.address hit.fragment hit.spot.group is.group) in
        record {
          volume = is.volume;
          bytes = is.bytes;
          blocks = s.all;
          block = is.block;
          found = is.found;
          laid = laid_here;
          among = is_found 0 is.bytes (bound_of groups_here) (is_covered groups_here) is.blocks s.all is.block reached is.among laid_here near;
          address = is.address;
          ordinal = is.ordinal;
          group = is.group;
          key = is.key;
        }

-- ---- while volumes grow

reaches_later : (address : ℕ) (left more : List ℕ) (bs : List LaidBlock) (b : LaidBlock)
    → AreLaidFrom address left (Some b.address) (is_at b.address) bs → Contains bs b → (ys : List LaidBlock) × AreLaidFrom address (left ++ more) (Some b.address) (is_at b.address) ys × Contains ys b
reaches_later address left more [] b laid among = absurd (omega (arith, among.1))
reaches_later address left more (x ∷ xs) b laid among =
    let h = laid.2 in
    let size : 16 ≤ h.size = (header_has_16 left h laid.3).1 in
    let longer = length-append left more in
    let read = read_header_more left more h laid.3 in
    elim (first_or_later x xs b among) [
      | inl e ↦
          let at : b.address ≡ address = ap (λ (y : LaidBlock). y.address) (sym e ∙ laid.5) in
          let whole : h.size ≤ length left = laid.4 (eq-eqb address b.address (sym at)) in
          let same : laid_block address left h ≡ laid_block address (left ++ more) h = ap (λ (bytes : List ℕ). record { address = address; bytes = bytes }) (sym (take-append-le h.size left more whole)) in
          (b ∷ [], (omega (arith, longer, laid.0), laid.1, h, read, (λ q. omega (arith, whole, longer)), sym e ∙ laid.5 ∙ same, inr (lt-ltb b.address (address + h.size) (omega (arith, at, size)))), first_in b [] b refl)
      | inr inside ↦
          let left_over = some_left (address + h.size) (drop h.size left) (Some b.address) (is_at b.address) xs b laid.6 inside in
          let whole : h.size ≤ length left = omega (arith, left_over, length-drop h.size left) in
          let same : laid_block address left h ≡ laid_block address (left ++ more) h = ap (λ (bytes : List ℕ). record { address = address; bytes = bytes }) (sym (take-append-le h.size left more whole)) in
          let r = reaches_later (address + h.size) (drop h.size left) more xs b laid.6 inside in
          let rest = subst (λ (bytes : List ℕ). AreLaidFrom (address + h.size) bytes (Some b.address) (is_at b.address) r.0) (sym (drop-append-le h.size left more whole)) r.1 in
          (x ∷ r.0, (omega (arith, longer, laid.0), laid.1, h, read, (λ q. omega (arith, whole, longer)), laid.5 ∙ same, rest), later_in x r.0 b r.2)
    ]

pub reached_stays_lem : ReachedStays
reached_stays_lem groups volumes later hit extends is =
    let grown = extends is.volume is.bytes is.found in
    let reached = subst (λ (place : ℕ). AreLaid is.bytes (Some place) (is_at place) is.blocks) is.address is.laid in
    let r = reaches_later 0 is.bytes grown.0 is.blocks is.block reached is.among in
    record {
      volume = is.volume;
      bytes = is.bytes ++ grown.0;
      blocks = r.0;
      block = is.block;
      found = grown.1;
      laid = subst (λ (place : ℕ). AreLaid (is.bytes ++ grown.0) (Some place) (is_at place) r.0) (sym is.address) r.1;
      among = r.2;
      address = is.address;
      ordinal = is.ordinal;
      group = is.group;
      key = is.key;
    }
