-- Files that are put run after run.
use Rattle.std.proofs.Common.{◌≡◌, ◌≤◌, ◌+◌, ◌-◌, ℕ, zero, suc, cond, List, [], ◌∷◌, ◌++◌, length, map, take, drop, Option, Ok, Err, refl, ap, sym, subst, arith, ◌∙◌}
use Rattle.std.specs.Prelude.{count_by, filter_map, is_ok}
use Rattle.std.proofs.lemmas.List.{append_assoc, length-map, take-append-drop}
use Rattle.std.proofs.lemmas.List.Sums.{count_by-le-length, sum_by-cons}
use Rattle.br_model.specs.Delivery.{item_of}
use Rattle.br_model.specs.File as file
use Rattle.br_model.specs.File.{Fault, Item}
use Rattle.br_model.specs.Name.{FileKey}
use Rattle.br_model.specs.Manifest.{totals_of}
use Rattle.br_model.specs.Restored.{Restored}
use Rattle.br_join.specs.Outcome.{restored}
use Rattle.br_join.specs.declared.item.Outcome.{Outcome}
use Rattle.br_sink.specs.Delivery.{items_in}
use Rattle.br_sink.specs.Sink.{HasMore}
use Rattle.br_sink.proofs.DeliveryLaws.{items_of_both, more_behind}

-- ---- the number of files

-- the files of a restore
abbrev files_of : List Restored → List Item
files_of rs = filter_map item_of rs

files_fault : (o : Restored) (os : List Restored) (f : Fault) → o.outcome ≡ Err f → files_of (o ∷ os) ≡ files_of os
files_fault o os f e = rw e refl

files_file : (o : Restored) (os : List Restored) (item : Item) → o.outcome ≡ Ok item → files_of (o ∷ os) ≡ item ∷ files_of os
files_file o os item e = rw e refl

counted : (rs : List Restored) → count_by (λ (r : Restored). is_ok r.outcome) rs ≡ length (files_of rs)
counted [] = refl
counted (r ∷ rs) = sum_by-cons (λ (r : Restored). cond (is_ok r.outcome) 1 0) r rs ∙ go r.outcome refl (counted rs)
  where
    go : (a : file.Outcome) → r.outcome ≡ a → count_by (λ (r : Restored). is_ok r.outcome) rs ≡ length (files_of rs)
        → cond (is_ok r.outcome) 1 0 + count_by (λ (r : Restored). is_ok r.outcome) rs ≡ length (files_of (r ∷ rs))
    go (Ok item) e more =
        let one : ◌≡◌ {A = ℕ} (cond (is_ok r.outcome) 1 0) 1 = rw e refl in
        let longer = ap length (files_file r rs item e) in
        omega (arith, one, more, longer)
    go (Err f) e more =
        let none : ◌≡◌ {A = ℕ} (cond (is_ok r.outcome) 1 0) 0 = rw e refl in
        let same = ap length (files_fault r rs f e) in
        omega (arith, none, more, same)

-- their number is that of the totals
pub files_counted : (rs : List Restored) → (totals_of rs).files ≡ length (files_of rs)
unfolding totals_of
files_counted rs = counted rs

-- no more than the outcomes
pub few_items : (os : List (FileKey × Outcome)) → length (items_in os) ≤ length os
few_items os =
    let c = counted (map restored os) in
    let l = count_by-le-length (λ (r : Restored). is_ok r.outcome) (map restored os) in
    let m = length-map os restored in
    omega (arith, c, l, m)

-- ---- outcomes that come next

take_whole : {X : Type 0} (xs : List X) → take (length xs) xs ≡ xs
take_whole [] = refl
take_whole (x ∷ xs) = ap (λ (ys : List _). x ∷ ys) (take_whole xs)

take_none : {X : Type 0} (n : ℕ) → ◌≡◌ {A = List X} (take n []) []
take_none zero = refl
take_none (suc n) = refl

take_both : {X : Type 0} (a n : ℕ) (xs : List X) → take (a + n) xs ≡ take a xs ++ take n (drop a xs)
take_both zero n xs = ap (λ (k : ℕ). take k xs) (omega arith)
take_both (suc a) n [] =
    let more : suc a + n ≡ suc (a + n) = omega arith in
    ap (λ (k : ℕ). take k []) more ∙ sym (take_none n)
take_both (suc a) n (x ∷ xs) =
    let more : suc a + n ≡ suc (a + n) = omega arith in
    ap (λ (k : ℕ). take k (x ∷ xs)) more ∙ ap (λ (ys : List _). x ∷ ys) (take_both a n xs)

pub length_taken : {X : Type 0} (n : ℕ) (xs : List X) → n ≤ length xs → length (take n xs) ≡ n
length_taken zero xs few = refl
length_taken (suc n) [] few = absurd (omega (arith, few))
length_taken (suc n) (x ∷ xs) few = ap suc (length_taken n xs (omega (arith, few)))

pub taken_few : {X : Type 0} (n : ℕ) (xs : List X) → length (take n xs) ≤ length xs
taken_few zero xs = omega arith
taken_few (suc n) [] = omega arith
taken_few (suc n) (x ∷ xs) = let few = taken_few n xs in omega (arith, few)

-- all that are left
pub rest_is : {X : Type 0} (place : ℕ) (xs : List X) → take (length xs - place) (drop place xs) ≡ drop place xs
rest_is zero xs =
    let all : length xs - 0 ≡ length xs = omega arith in
    ap (λ (k : ℕ). take k xs) all ∙ take_whole xs
rest_is (suc place) [] = take_none _
rest_is (suc place) (x ∷ xs) =
    let less : length (x ∷ xs) - suc place ≡ length xs - place = omega arith in
    ap (λ (k : ℕ). take k (drop place xs)) less ∙ rest_is place xs

-- as many as there are in the next run
pub run_len : {X : Type 0} (place n : ℕ) (xs run : List X) → run ≡ take n (drop place xs) → n ≤ length (drop place xs) → length run ≡ n
run_len place n xs run is few = ap length is ∙ length_taken n (drop place xs) few

-- those up to it and those in it
pub taken_run : {X : Type 0} (place n : ℕ) (xs run : List X) → run ≡ take n (drop place xs) → n ≤ length (drop place xs)
    → take (place + length run) xs ≡ take place xs ++ run
taken_run place n xs run is few =
    ap (λ (k : ℕ). take (place + k) xs) (run_len place n xs run is few) ∙ take_both place n xs ∙ ap (λ (ys : List _). take place xs ++ ys) (sym is)

-- their files
pub items_run : (place n : ℕ) (os run : List (FileKey × Outcome)) → run ≡ take n (drop place os) → n ≤ length (drop place os)
    → items_in (take (place + length run) os) ≡ items_in (take place os) ++ items_in run
items_run place n os run is few = ap items_in (taken_run place n os run is few) ∙ items_of_both (take place os) run

-- and all files
pub items_around : (place n : ℕ) (os run : List (FileKey × Outcome)) → run ≡ take n (drop place os) → n ≤ length (drop place os)
    → items_in os ≡ items_in (take place os) ++ (items_in run ++ items_in (drop (place + length run) os))
items_around place n os run is few =
    ap items_in (sym (take-append-drop (place + length run) os)) ∙ items_of_both (take (place + length run) os) (drop (place + length run) os)
    ∙ ap (λ (is : List Item). is ++ items_in (drop (place + length run) os)) (items_run place n os run is few)
    ∙ append_assoc (items_in (take place os)) (items_in run) (items_in (drop (place + length run) os))

-- ---- a stop in a run

take_behind : {X : Type 0} (xs ys : List X) (n : ℕ) → take (length xs + n) (xs ++ ys) ≡ xs ++ take n ys
take_behind [] ys n = ap (λ (k : ℕ). take k ys) (omega arith)
take_behind (x ∷ xs) ys n =
    let more : length (x ∷ xs) + n ≡ suc (length xs + n) = omega arith in
    ap (λ (k : ℕ). take k (x ∷ (xs ++ ys))) more ∙ ap (λ (zs : List _). x ∷ zs) (take_behind xs ys n)

take_within : {X : Type 0} (xs ys : List X) (n : ℕ) → n ≤ length xs → take n (xs ++ ys) ≡ take n xs
take_within xs ys zero few = refl
take_within [] ys (suc n) few = absurd (omega (arith, few))
take_within (x ∷ xs) ys (suc n) few = ap (λ (zs : List _). x ∷ zs) (take_within xs ys n (omega (arith, few)))

-- some files, and then those before a stop among others
pub stops_behind : (xs ys zs : List Item) (first second third : Option (List Item)) (done : ℕ) → HasMore xs first second → HasMore (take done ys) second third
    → done ≤ length ys → HasMore (take (length xs + done) (xs ++ (ys ++ zs))) first third
stops_behind xs ys zs first second third done p q few =
    let all : take (length xs + done) (xs ++ (ys ++ zs)) ≡ xs ++ take done ys =
    take_behind xs (ys ++ zs) done ∙ ap (λ (is : List Item). xs ++ is) (take_within ys zs done few) in
    subst (λ (is : List Item). HasMore is first third) (sym all) (more_behind xs (take done ys) first second third p q)
