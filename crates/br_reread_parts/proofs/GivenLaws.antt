-- What holds of each hit of a list.
use Rattle.std.proofs.Common.{◌≡◌, ℕ, ◌<◌, List, [], ◌∷◌, ◌++◌, length, get_or, refl, sym, subst, arith}
use Rattle.std.specs.List.{All, AllByRecursion, AllZip}
use Rattle.std.proofs.lemmas.List.Elements.{All-from_recursion, All-get_or}
use Rattle.br_model.specs.Meaning.{Hit}
use Rattle.br_data.specs.StandingHits.{StandingStays}
use Rattle.br_data.specs.ManyDrives.{Driven, GoesOn, GoOn, RereadingMany}
use Rattle.br_data.proofs.GoOnLaws.{failed_on, given_on}
use Rattle.br_reread_parts.specs.Given.{GivesHits}

-- what holds of each, holds of each
pub all_from : {X : Type 0} (P : X → Type 0) (xs : List X) → AllByRecursion P xs → All P xs
all_from P xs all = All-from_recursion P xs all

-- what holds of each, holds of one of them
pub one_of : {X : Type 0} (P : X → Type 0) (xs : List X) (i : ℕ) (x : X) → i < length xs → x ≡ get_or xs i x → AllByRecursion P xs → P x
one_of P xs i x within is all = subst P (sym is) (All-get_or P xs i x within (All-from_recursion P xs all))

-- what holds of each element of a list holds of those after the first ones
pub all_behind : {X : Type 0} (P : X → Type 0) (xs ys : List X) → AllByRecursion P (xs ++ ys) → AllByRecursion P ys
all_behind P [] ys all = all
all_behind P (x ∷ xs) ys all = all_behind P xs ys all.1

-- and of the first ones
pub all_before : {X : Type 0} (P : X → Type 0) (xs ys : List X) → AllByRecursion P (xs ++ ys) → AllByRecursion P xs
all_before P [] ys all = tt
all_before P (x ∷ xs) ys all = (all.0, all_before P xs ys all.1)

-- hits that were given are given still
pub hits_kept : StandingStays → (a b : RereadingMany) (hits : List Hit) → GoOn a b → GivesHits a hits → GivesHits b hits
hits_kept stays a b [] on given = tt
hits_kept stays a b (h ∷ hs) on given = (given_on stays a b h.spot h.fragment.bytes on given.0, hits_kept stays a b hs on given.1)

-- drives that went on, and failed then
pub fail_after : (xs ys zs : List Driven) → AllZip GoesOn xs ys → AllZip (λ (x y : Driven). x.failures < y.failures) ys zs → AllZip (λ (x y : Driven). x.failures < y.failures) xs zs
fail_after xs ys zs on failed =
    failed_on (record { drives = xs; groups = [] }) (record { drives = ys; groups = [] }) (record { drives = zs; groups = [] }) (refl, on) failed

-- drives that failed, and went on then
pub fail_then : (xs ys zs : List Driven) → AllZip (λ (x y : Driven). x.failures < y.failures) xs ys → AllZip GoesOn ys zs → AllZip (λ (x y : Driven). x.failures < y.failures) xs zs
fail_then [] [] [] p q = tt
fail_then [] [] (z ∷ zs) p q = absurd q
fail_then [] (y ∷ ys) zs p q = absurd p
fail_then (x ∷ xs) [] zs p q = absurd p
fail_then (x ∷ xs) (y ∷ ys) [] p q = absurd q
fail_then (x ∷ xs) (y ∷ ys) (z ∷ zs) p q = (omega (arith, p.0, q.0.1), fail_then xs ys zs p.1 q.1)
