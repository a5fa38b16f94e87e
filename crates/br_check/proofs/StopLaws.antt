-- Where a delivery stops by the conflicts among the outlines of its files.
use Rattle.std.proofs.Common.{◌≡◌, ℕ, ◌+◌, Bool, true, false, cond, List, [], ◌∷◌, ◌++◌, length, map, refl, ap, sym, subst, ◌∙◌, arith, Result, Ok, Err, Some, None}
use Rattle.std.specs.Prelude.{filter_map}
use Rattle.std.specs.List.{list_any}
use Rattle.br_model.specs.Answer.{◌>>=◌}
use Rattle.br_model.specs.Delivery.{Stop, delivery, in_the_way, item_of, put_behind}
use Rattle.br_model.specs.File.{Item, Outcome}
use Rattle.br_model.specs.Manifest.{totals_of}
use Rattle.br_model.specs.Restored.{Restored}
use Rattle.br_types.specs.Newest.{Copy}
use Rattle.br_records.specs.Outline.{Foreseen, Outlined}
use Rattle.br_check.specs.Conflicts.{AreForeseen, ConflictsStop, IsForeseen, StopsAt, conflicts, conflicts_beside}
use Rattle.br_check.specs.Findings.{copies_of}

abbrev copy_paths : List Copy → List (List ℕ)
copy_paths cs = map (λ (c : Copy). c.path) cs

abbrev item_paths : List Item → List (List ℕ)
item_paths items = map (λ (i : Item). i.path) items

-- ---- files that are written after those at some paths

-- they are written up to the first of these copies
abbrev PutsTo : List (List ℕ) → List Copy → List Copy → Result (Unit {0}) Stop → Type 0
PutsTo paths copies [] result = result ≡ Ok tt
PutsTo paths copies (c ∷ more) result =
    (before : List Copy) × (after : List Copy) × (copies ≡ before ++ c ∷ after) × (result ≡ Err (record { number = 81; done = length paths + length before }))

-- with one more before them that is written
puts_more : (paths : List (List ℕ)) (c : Copy) (cs left : List Copy) (result : Result (Unit {0}) Stop) → PutsTo (c.path ∷ paths) cs left result → PutsTo paths (c ∷ cs) left result
puts_more paths c cs [] result h = h
puts_more paths c cs (d ∷ more) result h =
    let n : length (c.path ∷ paths) + length h.0 ≡ length paths + length (c ∷ h.0) = omega arith in
    (c ∷ h.0, h.1, ap (λ (xs : List Copy). c ∷ xs) h.2, h.3 ∙ ap (λ (n : ℕ). Err (record { number = 81; done = n })) n)

put_none : (paths : List (List ℕ)) → put_behind paths [] ≡ Ok tt
unfolding put_behind
put_none paths = refl

put_stops : (paths : List (List ℕ)) (item : Item) (items : List Item) → list_any (in_the_way item.path) paths ≡ true
    → put_behind paths (item ∷ items) ≡ Err (record { number = 81; done = length paths })
unfolding put_behind
put_stops paths item items e = ap (λ b. cond b (Err (record { number = 81; done = length paths })) (put_behind (item.path ∷ paths) items)) e

put_goes_on : (paths : List (List ℕ)) (item : Item) (items : List Item) → list_any (in_the_way item.path) paths ≡ false
    → put_behind paths (item ∷ items) ≡ put_behind (item.path ∷ paths) items
unfolding put_behind
put_goes_on paths item items e = ap (λ b. cond b (Err (record { number = 81; done = length paths })) (put_behind (item.path ∷ paths) items)) e

first_of : (p q : List ℕ) (ps qs : List (List ℕ)) → p ∷ ps ≡ q ∷ qs → (p ≡ q) × (ps ≡ qs)
first_of p q ps qs e = (ap head_or e, ap rest e)
  where
    head_or : List (List ℕ) → List ℕ
    head_or [] = []
    head_or (x ∷ xs) = x

    rest : List (List ℕ) → List (List ℕ)
    rest [] = []
    rest (x ∷ xs) = xs

puts_to : (paths : List (List ℕ)) (cs : List Copy) (items : List Item) → copy_paths cs ≡ item_paths items → PutsTo paths cs (conflicts_beside paths cs) (put_behind paths items)
puts_to paths [] [] e = put_none paths
puts_to paths [] (item ∷ items) e = absurd cc
puts_to paths (c ∷ cs) [] e = absurd cc
puts_to paths (c ∷ cs) (item ∷ items) e =
    let both = first_of c.path item.path (copy_paths cs) (item_paths items) e in
    go both (puts_to (c.path ∷ paths) cs items both.1) (list_any (in_the_way c.path) paths) refl
  where
    go : (both : (c.path ≡ item.path) × (copy_paths cs ≡ item_paths items)) → PutsTo (c.path ∷ paths) cs (conflicts_beside (c.path ∷ paths) cs) (put_behind (c.path ∷ paths) items)
        → (b : Bool) → list_any (in_the_way c.path) paths ≡ b → PutsTo paths (c ∷ cs) (conflicts_beside paths (c ∷ cs)) (put_behind paths (item ∷ items))
    go both more true is =
        let other : list_any (in_the_way item.path) paths ≡ true = sym (ap (λ (p : List ℕ). list_any (in_the_way p) paths) both.0) ∙ is in
        let none : length paths ≡ length paths + length {A = Copy} [] = omega arith in
        rw is ([], cs, refl, put_stops paths item items other ∙ ap (λ (n : ℕ). Err (record { number = 81; done = n })) none)
    go both more false is =
        let other : list_any (in_the_way item.path) paths ≡ false = sym (ap (λ (p : List ℕ). list_any (in_the_way p) paths) both.0) ∙ is in
        let rest = puts_more paths c cs (conflicts_beside (c.path ∷ paths) cs) (put_behind (c.path ∷ paths) items) more in
        rw is
        (subst (λ (r : Result (Unit {0}) Stop). PutsTo paths (c ∷ cs) (conflicts_beside (c.path ∷ paths) cs) r)
        (ap (λ (p : List ℕ). put_behind (p ∷ paths) items) both.0 ∙ sym (put_goes_on paths item items other)) rest)

-- ---- the files that the outlines foresee

item_is : (r : Restored) (item : Item) → r.outcome ≡ Ok item → item_of r ≡ Some item
item_is r item e = rw e refl

no_item : (r : Restored) (why : _) → r.outcome ≡ Err why → item_of r ≡ None
no_item r why e = rw e refl

one_path : (o : Outlined) (r : Restored) (os : List Outlined) (rs : List Restored) (f : Foreseen) (u : Outcome) → o.outline ≡ f → r.outcome ≡ u → IsForeseen f u
    → copy_paths (copies_of os) ≡ item_paths (filter_map item_of rs) → copy_paths (copies_of (o ∷ os)) ≡ item_paths (filter_map item_of (r ∷ rs))
one_path o r os rs (Ok outline) (Ok item) e d foreseen rest =
    rw (e, item_is r item d)
    (ap (λ (p : List ℕ). p ∷ copy_paths (copies_of os)) foreseen.0 ∙ ap (λ (ps : List (List ℕ)). item.path ∷ ps) rest)
one_path o r os rs (Ok outline) (Err why) e d foreseen rest = absurd foreseen
one_path o r os rs (Err why) (Ok item) e d foreseen rest = absurd foreseen
one_path o r os rs (Err why) (Err other) e d foreseen rest = rw (e, no_item r other d) rest

same_paths : (os : List Outlined) (rs : List Restored) → AreForeseen os rs → copy_paths (copies_of os) ≡ item_paths (filter_map item_of rs)
same_paths [] [] h = refl
same_paths [] (r ∷ rs) h = absurd h
same_paths (o ∷ os) [] h = absurd h
same_paths (o ∷ os) (r ∷ rs) h = one_path o r os rs o.outline r.outcome refl refl h.0 (same_paths os rs h.1)

-- ---- the delivery

delivers : (rs : List Restored) (copies left : List Copy) → PutsTo [] copies left (put_behind [] (filter_map item_of rs)) → StopsAt copies (totals_of rs) left (delivery rs)
unfolding delivery
delivers rs copies [] h = ap (λ (p : Result (Unit {0}) Stop). p >>= λ _. Ok (totals_of rs)) h
delivers rs copies (c ∷ more) h =
    let count : 0 + length h.0 ≡ length h.0 = omega arith in (
      h.0,
      h.1,
      h.2,
      ap (λ (p : Result (Unit {0}) Stop). p >>= λ _. Ok (totals_of rs)) h.3 ∙ ap (λ (n : ℕ). Err (record { number = 81; done = n })) count,
    )

pub conflicts_stop_lem : ConflictsStop
conflicts_stop_lem os rs h =
    delivers rs (copies_of os) (conflicts (copies_of os)) (puts_to [] (copies_of os) (filter_map item_of rs) (same_paths os rs h))
