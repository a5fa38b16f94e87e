-- What drives in their places show, and how often they failed.
use Rattle.std.proofs.Common.{◌≡◌, ◌+◌, ◌<◌, ◌≤◌, ℕ, zero, suc, List, [], ◌∷◌, length, Option, Some, None, Ok, refl, sym, subst, arith, ◌∙◌, slice_set}
use Rattle.std.proofs.lemmas.Option.{same_Some, slice_get_within}
use Rattle.std.specs.Prelude.{slice_get, ⊤}
use Rattle.std.specs.List.{AllByRecursion, AllZip}
use Rattle.br_model.specs.Bootstrap.{Group}
use Rattle.br_model.specs.Meaning.{Spot}
use Rattle.br_model.specs.Volume.{Volume}
use Rattle.br_volume.specs.Drive.{OnlyGrows}
use Rattle.br_volume.proofs.ExtendLaws.{extends_itself, grows_itself, grows_more}
use Rattle.br_data.specs.KeptData.{Kept}
use Rattle.br_data.specs.KnownBlocks.{IsKnown, GivesBytes, KnownBlock, OfFragment, bytes_of}
use Rattle.br_data.specs.StandingHits.{FragmentPlace, StandingStays, Stands, place_on}
use Rattle.br_data.specs.OverDrives.{GivesOver}
use Rattle.br_data.specs.ManyDrives.{Driven, FailsAt, GoesOn, HasBytes, HaveBytes, IsKnownAt, driven_by}

-- a block that is ready for what the drive has at the place gives these bytes
pub has_ready : (shown : Option (List Volume)) (place : FragmentPlace) (kept : Kept) (known : Option KnownBlock) → GivesBytes shown place kept known
    → HasBytes shown place kept.bytes → bytes_of known place.ordinal kept ≡ Ok kept.bytes
has_ready None place kept known ready has = absurd has
has_ready (Some shown) place kept known ready has = ready shown has.0 (extends_itself shown) has.1 has.2

-- a drive that has bytes at the place has a fragment there
pub never_gone : (shown : Option (List Volume)) (place : FragmentPlace) (bytes : List ℕ) → OfFragment shown place (λ _. ⊥) → HasBytes shown place bytes → ⊥
never_gone None place bytes gone has = has
never_gone (Some shown) place bytes gone has = gone shown has.0 (extends_itself shown) has.1

-- bytes that a drive has it has still when its volumes have grown
has_still : StandingStays → (earlier later : Option (List Volume)) (place : FragmentPlace) (bytes : List ℕ) → OnlyGrows earlier later
    → HasBytes earlier place bytes → HasBytes later place bytes
has_still stays None later place bytes grown has = absurd has
has_still stays (Some e) None place bytes grown has = absurd grown
has_still stays (Some e) (Some l) place bytes grown has = (has.0, stays e l place has.0 grown has.1, has.2)

-- what is given at the place of a group is there
given_has : (shown : Option (List Volume)) (groups : List Group) (spot : Spot) (bytes : List ℕ) (group : Group) (place : FragmentPlace) → slice_get groups spot.group ≡ Some group
    → place ≡ place_on group.volume spot → GivesOver shown groups spot bytes → HasBytes shown place bytes
given_has None groups spot bytes group place of is given = absurd given
given_has (Some shown) groups spot bytes group place of is given =
    let same : given.group ≡ group = same_Some given.group group (sym given.of ∙ of) in (
      given.fragment,
      subst (λ (p : FragmentPlace). Stands shown p given.fragment) (sym is) (subst (λ (g : Group). Stands shown (place_on g.volume spot) given.fragment) same given.stands),
      given.same,
    )

-- what a drive gives is of a group
given_of_group : (shown : Option (List Volume)) (groups : List Group) (spot : Spot) (bytes : List ℕ) → GivesOver shown groups spot bytes → spot.group < length groups
given_of_group None groups spot bytes given = absurd given
given_of_group (Some shown) groups spot bytes given = slice_get_within groups spot.group given.group given.of

-- what drives give is of a group, if there is a drive
pub given_by_group : (groups : List Group) (spot : Spot) (bytes : List ℕ) (drives : List Driven) → AllByRecursion (λ (d : Driven). GivesOver d.shown groups spot bytes) drives
    → 0 < length drives → spot.group < length groups
given_by_group groups spot bytes [] given some = absurd (omega (arith, some))
given_by_group groups spot bytes (d ∷ drives) given some = given_of_group d.shown groups spot bytes given.0

-- a list that is not empty
pub not_none : {A : Type 0} (xs : List A) → (length xs ≡ 0 → ⊥) → 0 < length xs
not_none [] some = absurd (some refl)
not_none (x ∷ xs) some = omega arith

module _ {D : Type 0} (shows : D → Option (List Volume)) (failures : D → ℕ) where
  -- its volumes only grew, and the number of its failures did not fall
  abbrev Goes : D → D → Type 0
  Goes x y = OnlyGrows (shows x) (shows y) × (failures x ≤ failures y)

  goes_itself : (x : D) → Goes x x
  goes_itself x = (grows_itself (shows x), omega arith)

  goes_more : (x y z : D) → Goes x y → Goes y z → Goes x z
  goes_more x y z p q = (grows_more (shows x) (shows y) (shows z) p.0 q.0, omega (arith, p.1, q.1))

  -- ---- all drives

  pub stay : (xs : List D) → AllZip Goes xs xs
  stay [] = tt
  stay (x ∷ xs) = (goes_itself x, stay xs)

  pub stay_more : (xs ys zs : List D) → AllZip Goes xs ys → AllZip Goes ys zs → AllZip Goes xs zs
  stay_more [] [] [] p q = tt
  stay_more [] [] (z ∷ zs) p q = absurd q
  stay_more [] (y ∷ ys) zs p q = absurd p
  stay_more (x ∷ xs) [] zs p q = absurd p
  stay_more (x ∷ xs) (y ∷ ys) [] p q = absurd q
  stay_more (x ∷ xs) (y ∷ ys) (z ∷ zs) p q = (goes_more x y z p.0 q.0, stay_more xs ys zs p.1 q.1)

  pub have_still : StandingStays → (xs ys : List D) (place : FragmentPlace) (bytes : List ℕ) → AllZip Goes xs ys → HaveBytes shows xs place bytes → HaveBytes shows ys place bytes
  have_still stays [] [] place bytes z has = tt
  have_still stays [] (y ∷ ys) place bytes z has = absurd z
  have_still stays (x ∷ xs) [] place bytes z has = absurd z
  have_still stays (x ∷ xs) (y ∷ ys) place bytes z has =
      (has_still stays (shows x) (shows y) place bytes z.0.0 has.0, have_still stays xs ys place bytes z.1 has.1)

  pub fail_after : (xs ys zs : List D) → AllZip Goes xs ys → AllZip (λ (x y : D). failures x < failures y) ys zs → AllZip (λ (x y : D). failures x < failures y) xs zs
  fail_after [] [] [] p q = tt
  fail_after [] [] (z ∷ zs) p q = absurd q
  fail_after [] (y ∷ ys) zs p q = absurd p
  fail_after (x ∷ xs) [] zs p q = absurd p
  fail_after (x ∷ xs) (y ∷ ys) [] p q = absurd q
  fail_after (x ∷ xs) (y ∷ ys) (z ∷ zs) p q = (omega (arith, p.0.1, q.0), fail_after xs ys zs p.1 q.1)

  -- ---- as what they show and the number of their failures

  pub on_driven : (xs ys : List D) → AllZip Goes xs ys → AllZip GoesOn (driven_by shows failures xs) (driven_by shows failures ys)
  on_driven [] [] z = tt
  on_driven [] (y ∷ ys) z = absurd z
  on_driven (x ∷ xs) [] z = absurd z
  on_driven (x ∷ xs) (y ∷ ys) z = (z.0, on_driven xs ys z.1)

  pub failed_driven : (xs ys : List D) → AllZip (λ (x y : D). failures x < failures y) xs ys
      → AllZip (λ (x y : Driven). x.failures < y.failures) (driven_by shows failures xs) (driven_by shows failures ys)
  failed_driven [] [] z = tt
  failed_driven [] (y ∷ ys) z = absurd z
  failed_driven (x ∷ xs) [] z = absurd z
  failed_driven (x ∷ xs) (y ∷ ys) z = (z.0, failed_driven xs ys z.1)

  pub given_have : (groups : List Group) (spot : Spot) (bytes : List ℕ) (group : Group) (place : FragmentPlace) (xs : List D) → slice_get groups spot.group ≡ Some group
      → place ≡ place_on group.volume spot → AllByRecursion (λ (d : Driven). GivesOver d.shown groups spot bytes) (driven_by shows failures xs)
      → HaveBytes shows xs place bytes
  given_have groups spot bytes group place [] of is given = tt
  given_have groups spot bytes group place (x ∷ xs) of is given =
      (given_has (shows x) groups spot bytes group place of is given.0, given_have groups spot bytes group place xs of is given.1)

  -- ---- one of them

  pub have_at : (xs : List D) (i : ℕ) (x : D) (place : FragmentPlace) (bytes : List ℕ) → slice_get xs i ≡ Some x → HaveBytes shows xs place bytes → HasBytes (shows x) place bytes
  have_at [] i x place bytes is has = absurd cc
  have_at (z ∷ zs) zero x place bytes is has = subst (λ (w : D). HasBytes (shows w) place bytes) (same_Some z x is) has.0
  have_at (z ∷ zs) (suc i) x place bytes is has = have_at zs i x place bytes is has.1

  pub stay_set : (xs : List D) (i : ℕ) (x y : D) → slice_get xs i ≡ Some x → Goes x y → AllZip Goes xs (slice_set xs i y)
  stay_set [] i x y is goes = absurd cc
  stay_set (z ∷ zs) zero x y is goes = (subst (λ (w : D). Goes w y) (sym (same_Some z x is)) goes, stay zs)
  stay_set (z ∷ zs) (suc i) x y is goes = (goes_itself z, stay_set zs i x y is goes)

  get_set : (xs : List D) (i : ℕ) (x y : D) → slice_get xs i ≡ Some x → slice_get (slice_set xs i y) i ≡ Some y
  get_set [] i x y is = absurd cc
  get_set (z ∷ zs) zero x y is = refl
  get_set (z ∷ zs) (suc i) x y is = get_set zs i x y is

  pub known_set : (xs : List D) (i : ℕ) (x y : D) (known : Option KnownBlock) → slice_get xs i ≡ Some x → IsKnown (shows y) known → IsKnownAt shows (slice_set xs i y) i known
  known_set xs i x y known is of = λ d at. subst (λ (w : D). IsKnown (shows w) known) (same_Some y d (sym (get_set xs i x y is) ∙ at)) of

  pub fails_set : (xs : List D) (i : ℕ) (x y : D) → slice_get xs i ≡ Some x → failures x < failures y → FailsAt failures xs (slice_set xs i y) i
  fails_set xs i x y is more = λ a b at behind.
      let p : x ≡ a = same_Some x a (sym is ∙ at) in
      let q : y ≡ b = same_Some y b (sym (get_set xs i x y is) ∙ behind) in
      subst (λ (w : D). failures w < failures b) p (subst (λ (w : D). failures x < failures w) q more)

  -- ---- the drives below a number failed

  -- each of the first drives failed
  abbrev pub FailBelow : ℕ → List D → List D → Type 0
  FailBelow zero xs ys = ⊤
  FailBelow (suc n) xs ys = FailBelow n xs ys × FailsAt failures xs ys n

  before_it : (ys zs : List D) (i : ℕ) (z : D) → AllZip Goes ys zs → slice_get zs i ≡ Some z → (y : D) × (slice_get ys i ≡ Some y) × Goes y z
  before_it [] [] i z all at = absurd cc
  before_it [] (w ∷ zs) i z all at = absurd all
  before_it (y ∷ ys) [] i z all at = absurd all
  before_it (y ∷ ys) (w ∷ zs) zero z all at = (y, refl, subst (λ (v : D). Goes y v) (same_Some w z at) all.0)
  before_it (y ∷ ys) (w ∷ zs) (suc i) z all at = before_it ys zs i z all.1 at

  after_it : (xs ys : List D) (i : ℕ) (x : D) → AllZip Goes xs ys → slice_get xs i ≡ Some x → (y : D) × (slice_get ys i ≡ Some y) × Goes x y
  after_it [] [] i x all at = absurd cc
  after_it [] (y ∷ ys) i x all at = absurd all
  after_it (w ∷ xs) [] i x all at = absurd all
  after_it (w ∷ xs) (y ∷ ys) zero x all at = (y, refl, subst (λ (v : D). Goes v y) (same_Some w x at) all.0)
  after_it (w ∷ xs) (y ∷ ys) (suc i) x all at = after_it xs ys i x all.1 at

  fail_still : (n : ℕ) (xs ys zs : List D) → AllZip Goes ys zs → FailBelow n xs ys → FailBelow n xs zs
  fail_still zero xs ys zs all h = tt
  fail_still (suc n) xs ys zs all h = (
    fail_still n xs ys zs all h.0,
    λ x z at behind. let y = before_it ys zs n z all behind in omega (arith, h.1 x y.0 at y.1, y.2.1),
  )

  -- one drive more failed
  fail_next : (n : ℕ) (xs ys zs : List D) → AllZip Goes xs ys → AllZip Goes ys zs → FailBelow n xs ys → FailsAt failures ys zs n → FailBelow (suc n) xs zs
  fail_next n xs ys zs first next h at_it = (
    fail_still n xs ys zs next h,
    λ x z at behind. let y = after_it xs ys n x first at in omega (arith, at_it y.0 z y.1 behind, y.2.1),
  )

  pub fail_more : (n : ℕ) (xs ys zs : List D) → AllZip Goes xs ys → AllZip Goes ys zs → FailBelow n xs ys → FailsAt failures ys zs n → FailBelow (n + 1) xs zs
  fail_more n xs ys zs first next h at_it =
      let one : suc n ≡ n + 1 = omega arith in subst (λ (m : ℕ). FailBelow m xs zs) one (fail_next n xs ys zs first next h at_it)

  fail_behind : (n : ℕ) (x y : D) (xs ys : List D) → FailBelow (suc n) (x ∷ xs) (y ∷ ys) → (failures x < failures y) × FailBelow n xs ys
  fail_behind zero x y xs ys h = (h.1 x y refl refl, tt)
  fail_behind (suc n) x y xs ys h = let p = fail_behind n x y xs ys h.0 in (p.0, (p.1, h.1))

  -- all of them failed
  pub all_failed : (n : ℕ) (xs ys : List D) → AllZip Goes xs ys → length xs ≤ n → FailBelow n xs ys → AllZip (λ (x y : D). failures x < failures y) xs ys
  all_failed n [] [] z within h = tt
  all_failed n [] (y ∷ ys) z within h = absurd z
  all_failed n (x ∷ xs) [] z within h = absurd z
  all_failed zero (x ∷ xs) (y ∷ ys) z within h = absurd (omega (arith, within))
  all_failed (suc n) (x ∷ xs) (y ∷ ys) z within h = let p = fail_behind n x y xs ys h in (p.0, all_failed n xs ys z.1 (omega (arith, within)) p.1)
