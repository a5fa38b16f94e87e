-- What is kept if files whose paths conflict are left out.
use Rattle.std.proofs.Common.{◌≡◌, ℕ, zero, suc, ◌+◌, ◌<◌, Bool, true, false, not, ◌&&◌, cond, List, [], ◌∷◌, ◌++◌, length, take, drop, map, refl, ap, sym, subst, ◌∙◌, arith, append_assoc, append-nil, length-append, get_or, Option, Some, None, Ok, Err}
use Rattle.std.specs.Prelude.{filter_map}
use Rattle.std.specs.List.{items_where_true, list_any}
use Rattle.std.proofs.lemmas.List.{take_more}
use Rattle.br_model.specs.Delivery.{Stop, in_the_way, item_of, put_behind}
use Rattle.br_model.specs.File.{Item}
use Rattle.br_model.specs.Name.{FileKey}
use Rattle.br_model.specs.Restored.{Restored}
use Rattle.br_join.specs.Outcome.{restored}
use Rattle.br_join.specs.declared.item.Outcome.{Outcome}
use Rattle.br_types.specs.Conflicts.{Noted}
use Rattle.br_types.specs.declared.conflicts.Ways.{Ways}
use Rattle.br_sink.specs.ConflictsApart.{ApartStayWhole, IsKept, KeptAreApart, apart, apart_beside, conflicts, conflicts_beside, is_free, wanted_of, with_path}
use Rattle.br_sink.proofs.LeavingLaws.{where_true_both}
use Rattle.br_sink.proofs.DeliveryLaws.{free_first}

-- ---- one outcome

abbrev way : List (List ℕ) → Item → Bool
way paths item = list_any (in_the_way item.path) paths

-- what is kept from an outcome on, if it is kept, and if it is left out
pub kept_first : (paths : List (List ℕ)) (r : Restored) (rs : List Restored) → is_free paths (item_of r) ≡ true
    → (apart_beside paths (r ∷ rs) ≡ r ∷ apart_beside (with_path paths (item_of r)) rs)
    × (conflicts_beside paths (r ∷ rs) ≡ conflicts_beside (with_path paths (item_of r)) rs)
kept_first paths r rs free = (
  ap (λ b. cond b (r ∷ apart_beside (with_path paths (item_of r)) rs) (apart_beside paths rs)) free,
  ap (λ b. cond b (conflicts_beside (with_path paths (item_of r)) rs) (with_path [] (item_of r) ++ conflicts_beside paths rs)) free,
)

pub left_first : (paths : List (List ℕ)) (r : Restored) (rs : List Restored) → is_free paths (item_of r) ≡ false
    → (apart_beside paths (r ∷ rs) ≡ apart_beside paths rs)
    × (conflicts_beside paths (r ∷ rs) ≡ with_path [] (item_of r) ++ conflicts_beside paths rs)
left_first paths r rs free = (
  ap (λ b. cond b (r ∷ apart_beside (with_path paths (item_of r)) rs) (apart_beside paths rs)) free,
  ap (λ b. cond b (conflicts_beside (with_path paths (item_of r)) rs) (with_path [] (item_of r) ++ conflicts_beside paths rs)) free,
)

pub items_none : (r : Restored) (rs : List Restored) → item_of r ≡ None → filter_map item_of (r ∷ rs) ≡ filter_map item_of rs
items_none r rs e = rw e refl

pub items_some : (r : Restored) (rs : List Restored) (item : Item) → item_of r ≡ Some item → filter_map item_of (r ∷ rs) ≡ item ∷ filter_map item_of rs
items_some r rs item e = rw e refl

not_free : (b : Bool) → b ≡ false → not b ≡ true
not_free true h = absurd cc
not_free false h = refl

-- ---- the files that are kept do not conflict

abbrev stop_at : List (List ℕ) → Stop
stop_at paths = record { number = 81; done = length paths }

put_free : (paths : List (List ℕ)) (item : Item) (items : List Item) → way paths item ≡ false → put_behind (item.path ∷ paths) items ≡ Ok tt
    → put_behind paths (item ∷ items) ≡ Ok tt
unfolding put_behind
put_free paths item items free rest = ap (λ b. cond b (Err (stop_at paths)) (put_behind (item.path ∷ paths) items)) free ∙ rest

put_none : (paths : List (List ℕ)) → put_behind paths [] ≡ Ok tt
unfolding put_behind
put_none paths = refl

kept_put : (paths : List (List ℕ)) (rs : List Restored) → put_behind paths (filter_map item_of (apart_beside paths rs)) ≡ Ok tt
kept_put paths [] = put_none paths
kept_put paths (r ∷ rs) = go (λ ps. kept_put ps rs) (item_of r) refl
  where
    free : ((ps : List (List ℕ)) → put_behind ps (filter_map item_of (apart_beside ps rs)) ≡ Ok tt) → (item : Item) (b : Bool) → item_of r ≡ Some item → way paths item ≡ b → put_behind paths (filter_map item_of (apart_beside paths (r ∷ rs))) ≡ Ok tt
    free more item false e f =
        let is : is_free paths (item_of r) ≡ true = ap (is_free paths) e ∙ not_free (way paths item) f in
        ap (λ (os : List Restored). put_behind paths (filter_map item_of os)) ((kept_first paths r rs is).0)
        ∙ ap (put_behind paths) (items_some r (apart_beside (with_path paths (item_of r)) rs) item e)
        ∙ put_free paths item (filter_map item_of (apart_beside (with_path paths (item_of r)) rs)) f
        (ap (λ (o : Option Item). put_behind (item.path ∷ paths) (filter_map item_of (apart_beside (with_path paths o) rs))) e ∙ more (item.path ∷ paths))
    free more item true e f =
        let is : is_free paths (item_of r) ≡ false = ap (is_free paths) e ∙ ap not f in
        ap (λ (os : List Restored). put_behind paths (filter_map item_of os)) ((left_first paths r rs is).0) ∙ more paths

    go : ((ps : List (List ℕ)) → put_behind ps (filter_map item_of (apart_beside ps rs)) ≡ Ok tt) → (o : Option Item) → item_of r ≡ o → put_behind paths (filter_map item_of (apart_beside paths (r ∷ rs))) ≡ Ok tt
    go more None e =
        let is : is_free paths (item_of r) ≡ true = ap (is_free paths) e in
        ap (λ (os : List Restored). put_behind paths (filter_map item_of os)) ((kept_first paths r rs is).0)
        ∙ ap (put_behind paths) (items_none r (apart_beside (with_path paths (item_of r)) rs) e)
        ∙ ap (λ (o : Option Item). put_behind paths (filter_map item_of (apart_beside (with_path paths o) rs))) e ∙ more paths
    go more (Some item) e = free more item (way paths item) e refl

pub kept_are_apart_lem : KeptAreApart
kept_are_apart_lem rs = kept_put [] rs

-- ---- nothing is left out of files that do not conflict

put_first : (paths : List (List ℕ)) (item : Item) (items : List Item) → put_behind paths (item ∷ items) ≡ Ok tt
    → (way paths item ≡ false) × (put_behind (item.path ∷ paths) items ≡ Ok tt)
unfolding put_behind
put_first paths item items h = free_first (way paths item) (stop_at paths) (put_behind (item.path ∷ paths) items) h

whole : (paths : List (List ℕ)) (rs : List Restored) → put_behind paths (filter_map item_of rs) ≡ Ok tt → (apart_beside paths rs ≡ rs) × (conflicts_beside paths rs ≡ [])
whole paths [] h = (refl, refl)
whole paths (r ∷ rs) h = go (λ ps. whole ps rs) (item_of r) refl
  where
    first : ((ps : List (List ℕ)) → put_behind ps (filter_map item_of rs) ≡ Ok tt → (apart_beside ps rs ≡ rs) × (conflicts_beside ps rs ≡ [])) → is_free paths (item_of r) ≡ true → put_behind (with_path paths (item_of r)) (filter_map item_of rs) ≡ Ok tt
        → (apart_beside paths (r ∷ rs) ≡ r ∷ rs) × (conflicts_beside paths (r ∷ rs) ≡ [])
    first more is rest =
        let k = kept_first paths r rs is in
        let w = more (with_path paths (item_of r)) rest in
        (k.0 ∙ ap (λ (os : List Restored). r ∷ os) w.0, k.1 ∙ w.1)

    go : ((ps : List (List ℕ)) → put_behind ps (filter_map item_of rs) ≡ Ok tt → (apart_beside ps rs ≡ rs) × (conflicts_beside ps rs ≡ [])) → (o : Option Item) → item_of r ≡ o → (apart_beside paths (r ∷ rs) ≡ r ∷ rs) × (conflicts_beside paths (r ∷ rs) ≡ [])
    go more None e =
        first more (ap (is_free paths) e)
        (ap (λ (o : Option Item). put_behind (with_path paths o) (filter_map item_of rs)) e ∙ sym (ap (put_behind paths) (items_none r rs e)) ∙ h)
    go more (Some item) e =
        let p = put_first paths item (filter_map item_of rs) (sym (ap (put_behind paths) (items_some r rs item e)) ∙ h) in
        first more (ap (is_free paths) e ∙ not_free (way paths item) p.0)
        (ap (λ (o : Option Item). put_behind (with_path paths o) (filter_map item_of rs)) e ∙ p.1)

pub apart_stay_whole_lem : ApartStayWhole
apart_stay_whole_lem rs apart = whole [] rs apart

-- ---- the search

-- what was found up to a place
pub record Walked (ways : Ways) (flags : List Bool) (left : List (List ℕ)) (wanted : List Bool) (os : List (FileKey × Outcome)) (place : ℕ) : Type 0 where
  pub paths : List (List ℕ)
  pub noted : Noted ways paths
  pub each : length flags ≡ place
  pub kept : wanted_of flags (take place os) ++ apart_beside paths (wanted_of (drop place wanted) (drop place os)) ≡ apart (wanted_of wanted os)
  pub out : left ++ conflicts_beside paths (wanted_of (drop place wanted) (drop place os)) ≡ conflicts (wanted_of wanted os)

-- what is left out at an outcome
abbrev pub out_at : Bool → Bool → Restored → List (List ℕ)
out_at wanted kept r = cond (wanted && not kept) (with_path [] (item_of r)) []

drop_next : {X : Type 0} (xs : List X) (i : ℕ) (x : X) → i < length xs → drop i xs ≡ get_or xs i x ∷ drop (suc i) xs
drop_next [] i x less = absurd (omega arith)
drop_next (y ∷ ys) zero x less = refl
drop_next (y ∷ ys) (suc i) x less = drop_next ys i x (omega (arith, less))

pub drop_first : {X : Type 0} (xs : List X) (i : ℕ) (x : X) → i < length xs → drop i xs ≡ get_or xs i x ∷ drop (i + 1) xs
drop_first xs i x less =
    let next : suc i ≡ i + 1 = omega arith in
    drop_next xs i x less ∙ ap (λ (n : ℕ). get_or xs i x ∷ drop n xs) next

-- the same at a place that is counted
pub drop_here : {X : Type 0} (xs : List X) (i place : ℕ) (x : X) → i < length xs → place ≡ i → drop i xs ≡ get_or xs place x ∷ drop (i + 1) xs
drop_here xs i place x less here = drop_first xs i x less ∙ ap (λ (n : ℕ). get_or xs n x ∷ drop (i + 1) xs) (sym here)

map_both : {X Y : Type 0} (f : X → Y) (xs ys : List X) → map f (xs ++ ys) ≡ map f xs ++ map f ys
map_both f [] ys = refl
map_both f (x ∷ xs) ys = ap (λ (zs : List _). f x ∷ zs) (map_both f xs ys)

length_front : {X : Type 0} (xs : List X) (i : ℕ) → i < length xs → length (take i xs) ≡ i
length_front [] i less = absurd (omega arith)
length_front (x ∷ xs) zero less = refl
length_front (x ∷ xs) (suc i) less = ap suc (length_front xs i (omega (arith, less)))

-- one more that is kept or not
one_flag : (k : Bool) (o : FileKey × Outcome) → wanted_of (k ∷ []) (o ∷ []) ≡ cond k (restored o ∷ []) []
one_flag true o = refl
one_flag false o = refl

front_more : (flags : List Bool) (k : Bool) (os : List (FileKey × Outcome)) (i : ℕ) (o : FileKey × Outcome) → i < length os → get_or os i o ≡ o → length flags ≡ i
    → wanted_of (flags ++ k ∷ []) (take (i + 1) os) ≡ wanted_of flags (take i os) ++ cond k (restored o ∷ []) []
front_more flags k os i o less is each =
    ap (wanted_of (flags ++ k ∷ [])) (take_more os i o less ∙ ap (λ (p : FileKey × Outcome). take i os ++ p ∷ []) is)
    ∙ ap (map restored) (where_true_both flags (k ∷ []) (take i os) (o ∷ []) (each ∙ sym (length_front os i less)))
    ∙ map_both restored (items_where_true flags (take i os)) (items_where_true (k ∷ []) (o ∷ []))
    ∙ ap (λ (rs : List Restored). wanted_of flags (take i os) ++ rs) (one_flag k o)

module _ (ways after : Ways) (flags : List Bool) (left : List (List ℕ)) (wanted : List Bool) (os : List (FileKey × Outcome)) (place : ℕ) (o : FileKey × Outcome) (less : place < length os) (is : get_or os place o ≡ o) (w : Walked ways flags left wanted os place) where
  -- the outcomes that are left; the first is wanted or not
  rest_wanted : drop place wanted ≡ true ∷ drop (place + 1) wanted
      → wanted_of (drop place wanted) (drop place os) ≡ restored o ∷ wanted_of (drop (place + 1) wanted) (drop (place + 1) os)
  rest_wanted e =
      ap (λ (bs : List Bool). wanted_of bs (drop place os)) e
      ∙ ap (λ (ps : List (FileKey × Outcome)). wanted_of (true ∷ drop (place + 1) wanted) ps) (drop_first os place o less ∙ ap (λ (p : FileKey × Outcome). p ∷ drop (place + 1) os) is)

  rest_unwanted : drop place wanted ≡ false ∷ drop (place + 1) wanted
      → wanted_of (drop place wanted) (drop place os) ≡ wanted_of (drop (place + 1) wanted) (drop (place + 1) os)
  rest_unwanted e =
      ap (λ (bs : List Bool). wanted_of bs (drop place os)) e
      ∙ ap (λ (ps : List (FileKey × Outcome)). wanted_of (false ∷ drop (place + 1) wanted) ps) (drop_first os place o less ∙ ap (λ (p : FileKey × Outcome). p ∷ drop (place + 1) os) is)

  more_flags : (k : Bool) → length (flags ++ k ∷ []) ≡ place + 1
  more_flags k = length-append flags (k ∷ []) ∙ ap (λ (n : ℕ). n + 1) w.each

  abbrev later : List Restored
  later = wanted_of (drop (place + 1) wanted) (drop (place + 1) os)

  abbrev front : List Restored
  front = wanted_of flags (take place os)

  -- an outcome that is not wanted
  walked_past : drop place wanted ≡ false ∷ drop (place + 1) wanted → Noted after w.paths → Walked after (flags ++ false ∷ []) (left ++ []) wanted os (place + 1)
  walked_past e noted = record {
    paths = w.paths;
    noted = noted;
    each = more_flags false;
    kept =
        ap (λ (rs : List Restored). rs ++ apart_beside w.paths later) (front_more flags false os place o less is w.each ∙ append-nil front)
        ∙ sym (ap (λ (rs : List Restored). front ++ apart_beside w.paths rs) (rest_unwanted e)) ∙ w.kept;
    out =
        ap (λ (ps : List (List ℕ)). ps ++ conflicts_beside w.paths later) (append-nil left)
        ∙ sym (ap (λ (rs : List Restored). left ++ conflicts_beside w.paths rs) (rest_unwanted e)) ∙ w.out;
  }

  -- one that is kept
  walked_kept : drop place wanted ≡ true ∷ drop (place + 1) wanted → is_free w.paths (item_of (restored o)) ≡ true
      → Noted after (with_path w.paths (item_of (restored o))) → Walked after (flags ++ true ∷ []) (left ++ []) wanted os (place + 1)
  walked_kept e free noted =
      let k = kept_first w.paths (restored o) later free in
      let paths : List (List ℕ) = with_path w.paths (item_of (restored o)) in record {
        paths = paths;
        noted = noted;
        each = more_flags true;
        kept =
            ap (λ (rs : List Restored). rs ++ apart_beside paths later) (front_more flags true os place o less is w.each)
            ∙ append_assoc front (restored o ∷ []) (apart_beside paths later) ∙ sym (ap (λ (rs : List Restored). front ++ rs) k.0)
            ∙ sym (ap (λ (rs : List Restored). front ++ apart_beside w.paths rs) (rest_wanted e)) ∙ w.kept;
        out =
            ap (λ (ps : List (List ℕ)). ps ++ conflicts_beside paths later) (append-nil left) ∙ sym (ap (λ (ps : List (List ℕ)). left ++ ps) k.1)
            ∙ sym (ap (λ (rs : List Restored). left ++ conflicts_beside w.paths rs) (rest_wanted e)) ∙ w.out;
      }

  -- one that is left out
  walked_out : drop place wanted ≡ true ∷ drop (place + 1) wanted → is_free w.paths (item_of (restored o)) ≡ false
      → Noted after w.paths → Walked after (flags ++ false ∷ []) (left ++ with_path [] (item_of (restored o))) wanted os (place + 1)
  walked_out e free noted =
      let k = left_first w.paths (restored o) later free in record {
        paths = w.paths;
        noted = noted;
        each = more_flags false;
        kept =
            ap (λ (rs : List Restored). rs ++ apart_beside w.paths later) (front_more flags false os place o less is w.each ∙ append-nil front) ∙ sym (ap (λ (rs : List Restored). front ++ rs) k.0)
            ∙ sym (ap (λ (rs : List Restored). front ++ apart_beside w.paths rs) (rest_wanted e)) ∙ w.kept;
        out =
            append_assoc left (with_path [] (item_of (restored o))) (conflicts_beside w.paths later) ∙ sym (ap (λ (ps : List (List ℕ)). left ++ ps) k.1)
            ∙ sym (ap (λ (rs : List Restored). left ++ conflicts_beside w.paths rs) (rest_wanted e)) ∙ w.out;
      }

  -- any
  pub walked_more : (b k : Bool) → drop place wanted ≡ b ∷ drop (place + 1) wanted → IsKept ways after b (item_of (restored o)) k
      → Walked after (flags ++ k ∷ []) (left ++ out_at b k (restored o)) wanted os (place + 1)
  walked_more false true e kept = let n = kept w.paths w.noted in absurd (true_is_false n.0)
    where
      true_is_false : true ≡ false → ⊥
      true_is_false h = absurd cc
  walked_more false false e kept = walked_past e ((kept w.paths w.noted).1)
  walked_more true true e kept = let n = kept w.paths w.noted in walked_kept e (sym n.0) n.1
  walked_more true false e kept = let n = kept w.paths w.noted in walked_out e (sym n.0) n.1

  -- as it is written
  pub walked_next : (b k out : Bool) (next : List Bool) (paths : List (List ℕ)) → drop place wanted ≡ b ∷ drop (place + 1) wanted → IsKept ways after b (item_of (restored o)) k
      → out ≡ (b && not k) → next ≡ flags ++ k ∷ [] → paths ≡ left ++ cond out (with_path [] (item_of (restored o))) [] → Walked after next paths wanted os (place + 1)
  walked_next b k out next paths e kept is_out is_next is_left =
      let all : paths ≡ left ++ out_at b k (restored o) = is_left ∙ ap (λ (x : Bool). left ++ cond x (with_path [] (item_of (restored o))) []) is_out in
      subst (λ (ps : List (List ℕ)). Walked after next ps wanted os (place + 1)) (sym all)
      (subst (λ (fs : List Bool). Walked after fs (left ++ out_at b k (restored o)) wanted os (place + 1)) (sym is_next) (walked_more b k e kept))
