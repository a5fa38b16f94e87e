-- What a sink has of the files that were taken, and which of them are left out.
use Rattle.std.proofs.Common.{◌≡◌, ℕ, suc, ◌+◌, ◌<◌, ◌≤◌, Bool, true, false, not, List, [], ◌∷◌, ◌++◌, length, map, refl, ap, sym, subst, ◌∙◌, arith, append_assoc, append-nil, length-append, Option, Some, None}
use Rattle.std.specs.List.{items_where_true}
use Rattle.br_model.specs.File.{Item}
use Rattle.br_sink.specs.Sink.{HasMore}
use Rattle.br_sink.specs.KeepGoing.{ArePut, AreNoted, Leaves, Takes}
use Rattle.br_sink.specs.declared.left_out.Noted.{Noted}

-- ---- elements with flags

pub where_true_both : {X : Type 0} (bs cs : List Bool) (xs ys : List X) → length bs ≡ length xs
    → items_where_true (bs ++ cs) (xs ++ ys) ≡ items_where_true bs xs ++ items_where_true cs ys
where_true_both [] cs [] ys e = refl
where_true_both [] cs (x ∷ xs) ys e = absurd (omega (arith, e))
where_true_both (b ∷ bs) cs [] ys e = absurd (omega (arith, e))
where_true_both (true ∷ bs) cs (x ∷ xs) ys e = ap (λ (zs : List _). x ∷ zs) (where_true_both bs cs xs ys (omega (arith, e)))
where_true_both (false ∷ bs) cs (x ∷ xs) ys e = where_true_both bs cs xs ys (omega (arith, e))

-- a flag for each element
abbrev trues : {X : Type 0} → List X → List Bool
trues xs = map (λ _. true) xs

all_true : {X : Type 0} (xs : List X) → items_where_true (trues xs) xs ≡ xs
all_true [] = refl
all_true (x ∷ xs) = ap (λ (zs : List _). x ∷ zs) (all_true xs)

none_false : {X : Type 0} (xs : List X) → items_where_true (map not (trues xs)) xs ≡ []
none_false [] = refl
none_false (x ∷ xs) = none_false xs

as_many : {X : Type 0} (xs : List X) → length (trues xs) ≡ length xs
as_many [] = refl
as_many (x ∷ xs) = ap suc (as_many xs)

not_both : (bs cs : List Bool) → map not (bs ++ cs) ≡ map not bs ++ map not cs
not_both [] cs = refl
not_both (b ∷ bs) cs = ap (λ (ds : List Bool). not b ∷ ds) (not_both bs cs)

not_length : (bs : List Bool) → length (map not bs) ≡ length bs
not_length [] = refl
not_length (b ∷ bs) = ap suc (not_length bs)

-- ---- what the sink has

more_added : (items more : List Item) (first second third : Option (List Item)) → HasMore items first second → HasMore more second third → HasMore (items ++ more) first third
more_added items more None None None a b = tt
more_added items more (Some first) (Some second) (Some third) a b = b ∙ ap (λ (is : List Item). is ++ more) a ∙ append_assoc first items more
more_added items more None None (Some third) a b = b
more_added items more None (Some second) third a b = absurd a
more_added items more (Some first) None third a b = absurd a
more_added items more (Some first) (Some second) None a b = b

-- the sink got some more
pub more_put : (start had has : Option (List Item)) (left taken items : List Item) → ArePut start had left taken → HasMore items had has
    → ArePut start has left (taken ++ items)
more_put start had has left taken items p more =
    let put : items_where_true (p.flags ++ trues items) (taken ++ items) ≡ items_where_true p.flags taken ++ items =
    where_true_both p.flags (trues items) taken items p.each ∙ ap (λ (is : List Item). items_where_true p.flags taken ++ is) (all_true items) in
    let others : items_where_true (map not (p.flags ++ trues items)) (taken ++ items) ≡ items_where_true (map not p.flags) taken =
    ap (λ (bs : List Bool). items_where_true bs (taken ++ items)) (not_both p.flags (trues items))
    ∙ where_true_both (map not p.flags) (map not (trues items)) taken items (not_length p.flags ∙ p.each)
    ∙ ap (λ (is : List Item). items_where_true (map not p.flags) taken ++ is) (none_false items) ∙ append-nil (items_where_true (map not p.flags) taken) in
    let e = length-append p.flags (trues items) in
    let f = length-append taken items in
    let g = as_many items in
    let h = p.each in
    record {
      flags = p.flags ++ trues items;
      each = omega (arith, e, f, g, h);
      put = subst (λ (is : List Item). HasMore is start has) (sym put) (more_added (items_where_true p.flags taken) items start had has p.put more);
      others = p.others ∙ sym others;
    }

-- one more is left out
pub one_out : (start has : Option (List Item)) (left taken : List Item) (item : Item) → ArePut start has left taken → ArePut start has (left ++ item ∷ []) (taken ++ item ∷ [])
one_out start has left taken item p =
    let put : items_where_true (p.flags ++ false ∷ []) (taken ++ item ∷ []) ≡ items_where_true p.flags taken =
    where_true_both p.flags (false ∷ []) taken (item ∷ []) p.each ∙ append-nil (items_where_true p.flags taken) in
    let others : items_where_true (map not (p.flags ++ false ∷ [])) (taken ++ item ∷ []) ≡ items_where_true (map not p.flags) taken ++ item ∷ [] =
    ap (λ (bs : List Bool). items_where_true bs (taken ++ item ∷ [])) (not_both p.flags (false ∷ []))
    ∙ where_true_both (map not p.flags) (true ∷ []) taken (item ∷ []) (not_length p.flags ∙ p.each) in
    let e = length-append p.flags (false ∷ []) in
    let f = length-append taken (item ∷ []) in
    let h = p.each in
    record {
      flags = p.flags ++ false ∷ [];
      each = omega (arith, e, f, h);
      put = subst (λ (is : List Item). HasMore is start has) (sym put) p.put;
      others = ap (λ (is : List Item). is ++ item ∷ []) p.others ∙ sym others;
    }

-- ---- what is noted

pub notes_more : (start had has : Option (List Item)) (earlier later : ℕ) (before after : Noted) (items : List Item) → AreNoted start had earlier before
    → HasMore items had has → earlier ≤ later → Takes before after items → AreNoted start has later after
notes_more start had has earlier later before after items noted more counted takes =
    let failed = noted.failed in
    let same : length after.left.items ≡ length before.left.items = ap length takes.left in
    record {
      put =
          subst (λ (is : List Item). ArePut start has is after.taken.items) (sym takes.left)
          (subst (λ (is : List Item). ArePut start has before.left.items is) (sym takes.taken) (more_put start had has before.left.items before.taken.items items noted.put more));
      failed = omega (arith, failed, same, counted);
      paths = takes.paths ∙ noted.paths ∙ sym (ap (map (λ (i : Item). i.path)) takes.left);
    }

path_one_more : (items : List Item) (item : Item) → map (λ (i : Item). i.path) (items ++ item ∷ []) ≡ map (λ (i : Item). i.path) items ++ item.path ∷ []
path_one_more [] item = refl
path_one_more (i ∷ items) item = ap (λ (ps : List (List ℕ)). i.path ∷ ps) (path_one_more items item)

pub notes_out : (start has : Option (List Item)) (earlier later : ℕ) (before after : Noted) (item : Item) → AreNoted start has earlier before
    → earlier < later → Leaves before after item → AreNoted start has later after
notes_out start has earlier later before after item noted counted leaves =
    let failed = noted.failed in
    let longer : length after.left.items ≡ length before.left.items + 1 = ap length leaves.left ∙ length-append before.left.items (item ∷ []) in
    record {
      put =
          subst (λ (is : List Item). ArePut start has is after.taken.items) (sym leaves.left)
          (subst (λ (is : List Item). ArePut start has (before.left.items ++ item ∷ []) is) (sym leaves.taken) (one_out start has before.left.items before.taken.items item noted.put));
      failed = omega (arith, failed, longer, counted);
      paths =
          leaves.paths ∙ ap (λ (ps : List (List ℕ)). ps ++ item.path ∷ []) noted.paths
          ∙ sym (path_one_more before.left.items item) ∙ sym (ap (map (λ (i : Item). i.path)) leaves.left);
    }
