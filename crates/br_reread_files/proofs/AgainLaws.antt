-- Files that are made once more of the hits that made them.
use Rattle.std.proofs.Common.{◌≡◌, ◌<◌, ◌+◌, ℕ, Bool, true, false, List, [], ◌∷◌, ◌++◌, length, map, take, drop, get_or, Option, Some, None, Result, Ok, Err, IfOk, OnErr, refl, ap, subst, arith, ◌∙◌, length-append}
use Rattle.std.specs.Prelude.{not, bytes_eq}
use Rattle.std.specs.List.{AllByRecursion, AllZip}
use Rattle.br_model.specs.Answer.{◌>>=◌, refuse_if}
use Rattle.br_model.specs.File.{Item, Outcome, fault}
use Rattle.br_model.specs.Meaning.{Hit}
use Rattle.br_model.specs.Name.{FileKey}
use Rattle.br_model.specs.Restored.{Names, Planned, files_found, files_listed, files_planned, fragments_for, outcome_of, under_name}
use Rattle.br_join.specs.Outcome.{restored, shown}
use Rattle.br_join.specs.Runs.{files_of}
use Rattle.br_records.specs.Runs.{listed}
use Rattle.br_join.specs.declared.item.Outcome.{Outcome as Made}
use Rattle.br_join.specs.declared.item.Outcome.TheVariants.{File}
use Rattle.br_sink.specs.Delivery.{items_in}
use Rattle.br_sink.proofs.DeliveryLaws.{items_at}
use Rattle.br_reread_files.specs.Again.{IsLike, IsMadeOf}
use Rattle.br_reread_parts.proofs.GivenLaws.{one_of}

-- ---- each file is made of the hits of its key

made_itself : (whole o : Outcome) → whole ≡ o → IfOk o (λ item. whole ≡ Ok item)
made_itself whole (Ok item) e = e
made_itself whole (Err f) e = tt

made_under : (path : List ℕ) (o : Outcome) → IfOk (under_name path o) (λ item. o ≡ Ok item)
unfolding under_name
made_under path (Err f) = tt
made_under path (Ok item) = go (not (bytes_eq item.path path))
  where
    go : (b : Bool) → IfOk (refuse_if b (fault 69) >>= (λ _. Ok item)) (λ (i : Item). ◌≡◌ {A = Outcome} (Ok item) (Ok i))
    go true = tt
    go false = refl

all_found : (hits : List Hit) (keys : List FileKey)
    → AllByRecursion (IsMadeOf hits) (map (λ (key : FileKey). record { key = key; outcome = outcome_of key (fragments_for key (listed hits)) }) keys)
all_found hits [] = tt
all_found hits (key ∷ keys) =
    (made_itself (outcome_of key (fragments_for key (listed hits))) (outcome_of key (fragments_for key (listed hits))) refl, all_found hits keys)

all_planned : (hits : List Hit) (names : List Planned)
    → AllByRecursion (IsMadeOf hits) (map (λ (p : Planned). record { key = p.key; outcome = under_name p.path (outcome_of p.key (fragments_for p.key (listed hits))) }) names)
all_planned hits [] = tt
all_planned hits (p ∷ names) = (made_under p.path (outcome_of p.key (fragments_for p.key (listed hits))), all_planned hits names)

pub all_made : (hits : List Hit) (names : Option Names) → AllByRecursion (IsMadeOf hits) (files_of hits names)
unfolding files_listed files_found files_planned
all_made hits None = all_found hits _
all_made hits (Some names) = all_planned hits _

-- what follows for a call that was refused
pub changed_on_err : {A E : Type 0} (r : Result A E) (fault : E) (P : Type 0) → r ≡ Err fault → OnErr r P → P
changed_on_err (Ok x) fault P is claim = absurd cc
changed_on_err (Err e) fault P is claim = claim

-- ---- files that are like others

-- the file of one outcome is one file
pub same_file : (one other : Item) → ◌≡◌ {A = Outcome} (Ok one) (Ok other) → one ≡ other
same_file one other e = cc

-- one file more
pub like_more : (xs ys : List Item) (x y : Item) → AllZip IsLike xs ys → IsLike x y → AllZip IsLike (xs ++ x ∷ []) (ys ++ y ∷ [])
like_more [] [] x y z like = (like, tt)
like_more [] (b ∷ ys) x y z like = absurd z
like_more (a ∷ xs) [] x y z like = absurd z
like_more (a ∷ xs) (b ∷ ys) x y z like = (z.0, like_more xs ys x y z.1 like)

-- ---- the files among outcomes

made_each : (hits : List Hit) (os : List (FileKey × Made)) → AllByRecursion (IsMadeOf hits) (map restored os) → AllByRecursion (λ (o : FileKey × Made). IsMadeOf hits (restored o)) os
made_each hits [] all = tt
made_each hits (o ∷ os) all = (all.0, made_each hits os all.1)

-- one of the files is made of the hits of its key
pub made_at : (hits : List Hit) (os : List (FileKey × Made)) (i : ℕ) (o : FileKey × Made) (item : Item) → i < length os → o ≡ get_or os i o → o.1 ≡ File item
    → AllByRecursion (IsMadeOf hits) (map restored os) → outcome_of o.0 (fragments_for o.0 (listed hits)) ≡ Ok item
made_at hits os i o item within is file all =
    subst (λ (outcome : Made). IfOk (shown outcome) (λ (made : Item). outcome_of o.0 (fragments_for o.0 (listed hits)) ≡ Ok made)) file
    (one_of (λ (p : FileKey × Made). IsMadeOf hits (restored p)) os i o within is (made_each hits os all))

-- with one of them there is a file
pub some_file : (os : List (FileKey × Made)) (i : ℕ) (o : FileKey × Made) (item : Item) → i < length os → o ≡ get_or os i o → o.1 ≡ File item → 0 < length (items_in os)
some_file os i o item within is file =
    let e = ap length (items_at os i o item within is file) ∙ length-append (items_in (take i os)) (item ∷ items_in (drop (i + 1) os)) in omega (arith, e)
