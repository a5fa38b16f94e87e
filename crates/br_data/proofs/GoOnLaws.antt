-- Drives that go on, from one call to the next.
use Rattle.std.proofs.Common.{◌<◌, ℕ, List, [], ◌∷◌, refl, sym, subst, arith, ◌∙◌}
use Rattle.std.specs.List.{AllByRecursion, AllZip}
use Rattle.br_model.specs.Bootstrap.{Group}
use Rattle.br_model.specs.Meaning.{Spot}
use Rattle.br_volume.proofs.ExtendLaws.{grows_itself, grows_more}
use Rattle.br_data.specs.StandingHits.{StandingStays}
use Rattle.br_data.specs.OverDrives.{GivesOver}
use Rattle.br_data.specs.ManyDrives.{Driven, GivesMany, GoesOn, GoOn, HaveFailed, RereadingMany}
use Rattle.br_data.proofs.OverLaws.{gives_still}

pub all_go : (xs : List Driven) → AllZip GoesOn xs xs
all_go [] = tt
all_go (x ∷ xs) = ((grows_itself x.shown, omega arith), all_go xs)

all_more : (xs ys zs : List Driven) → AllZip GoesOn xs ys → AllZip GoesOn ys zs → AllZip GoesOn xs zs
all_more [] [] [] p q = tt
all_more [] [] (z ∷ zs) p q = absurd q
all_more [] (y ∷ ys) zs p q = absurd p
all_more (x ∷ xs) [] zs p q = absurd p
all_more (x ∷ xs) (y ∷ ys) [] p q = absurd q
all_more (x ∷ xs) (y ∷ ys) (z ∷ zs) p q =
    ((grows_more x.shown y.shown z.shown p.0.0 q.0.0, omega (arith, p.0.1, q.0.1)), all_more xs ys zs p.1 q.1)

all_fail : (xs ys zs : List Driven) → AllZip GoesOn xs ys → AllZip (λ (x y : Driven). x.failures < y.failures) ys zs → AllZip (λ (x y : Driven). x.failures < y.failures) xs zs
all_fail [] [] [] p q = tt
all_fail [] [] (z ∷ zs) p q = absurd q
all_fail [] (y ∷ ys) zs p q = absurd p
all_fail (x ∷ xs) [] zs p q = absurd p
all_fail (x ∷ xs) (y ∷ ys) [] p q = absurd q
all_fail (x ∷ xs) (y ∷ ys) (z ∷ zs) p q = (omega (arith, p.0.1, q.0), all_fail xs ys zs p.1 q.1)

all_give : StandingStays → (groups : List Group) (spot : Spot) (bytes : List ℕ) (xs ys : List Driven) → AllZip GoesOn xs ys
    → AllByRecursion (λ (d : Driven). GivesOver d.shown groups spot bytes) xs → AllByRecursion (λ (d : Driven). GivesOver d.shown groups spot bytes) ys
all_give stays groups spot bytes [] [] p h = tt
all_give stays groups spot bytes [] (y ∷ ys) p h = absurd p
all_give stays groups spot bytes (x ∷ xs) [] p h = absurd p
all_give stays groups spot bytes (x ∷ xs) (y ∷ ys) p h =
    (gives_still stays x.shown y.shown groups spot bytes p.0.0 h.0, all_give stays groups spot bytes xs ys p.1 h.1)

pub go_itself : (m : RereadingMany) → GoOn m m
go_itself m = (refl, all_go m.drives)

pub go_more : (a b c : RereadingMany) → GoOn a b → GoOn b c → GoOn a c
go_more a b c p q = (q.0 ∙ p.0, all_more a.drives b.drives c.drives p.1 q.1)

-- each drive failed after some calls
pub failed_on : (a b c : RereadingMany) → GoOn a b → HaveFailed b c → HaveFailed a c
failed_on a b c p q = all_fail a.drives b.drives c.drives p.1 q

-- what was given is given still
pub given_on : StandingStays → (a b : RereadingMany) (spot : Spot) (bytes : List ℕ) → GoOn a b → GivesMany a spot bytes → GivesMany b spot bytes
given_on stays a b spot bytes p given =
    subst (λ (gs : List Group). AllByRecursion (λ (d : Driven). GivesOver d.shown gs spot bytes) b.drives) (sym p.0)
    (all_give stays a.groups spot bytes a.drives b.drives p.1 given)
