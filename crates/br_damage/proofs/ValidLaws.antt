-- What is left of a bootstrap is a bootstrap.
use Rattle.std.proofs.Common.{◌≡◌, ℕ, ◌+◌, ◌-◌, ◌^◌, ◌<◌, ◌≤◌, Bool, true, false, ◌&&◌, cond, ltb, leb, List, [], ◌∷◌, ◌++◌, length, take, get_or, refl, sym, ap, ◌∙◌, arith}
use Rattle.std.proofs.lemmas.Bool.{and_from, and_parts, leb-true, ltb-true}
use Rattle.std.proofs.lemmas.Bool.Decides.{nat_tests}
use Rattle.std.proofs.lemmas.List.{length_push}
use Rattle.std.proofs.lemmas.List.Folds.{list_all-append, list_all_more}
use Rattle.std.specs.Prelude.{max, min}
use Rattle.std.specs.List.{list_all}
use Rattle.br_model.specs.Name.{SessionKey}
use Rattle.br_model.specs.Bootstrap.{FileIndex, Group, Range, SessionId, SessionTime, Stream, VolAddr, VolBlock, VolFile}
use Rattle.br_model.specs.BootstrapText.{is_group, is_range}
use Rattle.br_model.specs.Name.{is_volume_name}
use Rattle.br_damage.specs.GroupSessions.{place}
use Rattle.br_damage.specs.LostFiles.{span_of}
use Rattle.br_damage.specs.LeftIndexes.{StayValid, are_valid, indexes_of, indexes_without}
use Rattle.br_damage.specs.NarrowedBootstrap.{AddsValid, is_flag, with_flag}
use Rattle.br_damage.specs.declared.lost_files.Span.{Span}

-- ---- lists of which all pass a test

pub all_both : {X : Type 0} (p : X → Bool) (xs ys : List X) → list_all p xs ≡ true → list_all p ys ≡ true → list_all p (xs ++ ys) ≡ true
all_both p xs ys some more = list_all-append p xs ys ∙ and_from (list_all p xs) (list_all p ys) some more

-- what is kept so far is kept with one more
pub kept_more : {X Y : Type 0} (p : X → Bool) (q : Y → Bool) (xs : List X) (old new : List Y) (i : ℕ) (x : X) → i < length xs → x ≡ get_or xs i x
    → (list_all p (take i xs) ≡ true → list_all q old ≡ true) → (p x ≡ true → list_all q old ≡ true → list_all q new ≡ true)
    → list_all p (take (i + 1) xs) ≡ true → list_all q new ≡ true
kept_more p q xs old new i x lt is before more all =
    let parts = and_parts (list_all p (take i xs)) (p (get_or xs i x)) (sym (list_all_more p xs i x lt) ∙ all) in
    more (ap p is ∙ parts.1) (before parts.0)

-- ---- indexes

valid_two : (base low end : ℕ) → base + 1 ≤ low → low < end → end ≤ base + 2147483648
    → is_range FileIndex (record { low = low - base; high = end - 1 - base }) ≡ true
valid_two base low end le lt few = grind (arith, nat_tests)

indexes_valid : (base low end : ℕ) → base + 1 ≤ low → end ≤ base + 2147483648 → are_valid (indexes_of base low end) ≡ true
indexes_valid base low end le few = go (ltb low end) refl
  where
    go : (b : Bool) → ltb low end ≡ b → are_valid (cond b (record { low = low - base; high = end - 1 - base } ∷ []) []) ≡ true
    go true e = and_from (is_range FileIndex (record { low = low - base; high = end - 1 - base })) true (valid_two base low end le (ltb-true low end e) few) refl
    go false e = refl

without_valid : (base next end : ℕ) (ss : List Span) → base + 1 ≤ next → end ≤ base + 2147483648 → are_valid (indexes_without base next end ss) ≡ true
without_valid base next end [] le few = indexes_valid base next end le few
without_valid base next end (s ∷ more) le few =
    all_both (is_range FileIndex) (indexes_of base next (min end s.low)) (indexes_without base (max next s.end) end more)
    (indexes_valid base next (min end s.low) le (omega (arith, few)))
    (without_valid base (max next s.end) end more (omega (arith, le)) few)

least_index : (r : Range) → is_range FileIndex r ≡ true → 1 ≤ r.low
least_index r is =
    let ends = and_parts (leb 1 r.low && leb r.low r.high) (leb r.high (2 ^ 31 - 1)) is in
    leb-true 1 r.low (and_parts (leb 1 r.low) (leb r.low r.high) ends.0).0

pub stay_valid : (near : List Span) (s : SessionKey) (r : Range) (old : List Range)
    → StayValid r old (old ++ indexes_without (place s 0) (span_of s r).low (span_of s r).end near)
stay_valid near s r old is valid =
    all_both (is_range FileIndex) old (indexes_without base low end near) valid (without_valid base low end near from to)
  where
    base : ℕ
    base = place s 0

    low : ℕ
    low = (span_of s r).low

    end : ℕ
    end = (span_of s r).end

    from : base + 1 ≤ low
    from = let some = least_index r is in omega (arith, some)

    to : end ≤ base + 2147483648
    to = omega arith

-- ---- groups

swap_last : (p x y s : Bool) → ((p && x) && s) ≡ true → y ≡ true → ((p && y) && s) ≡ true
swap_last true true true true e f = refl
swap_last true true true false e f = absurd cc
swap_last true true false s e f = absurd cc
swap_last true false y s e f = absurd cc
swap_last false x y s e f = absurd cc

-- a group with other valid indexes is valid
pub valid_with : (g : Group) (rs : List Range) → is_group g ≡ true → are_valid rs ≡ true → is_group (record g { indexes = rs }) ≡ true
unfolding is_group
valid_with g rs valid some =
    swap_last (is_volume_name g.volume && list_all (is_range SessionId) g.session_ids && list_all (is_range SessionTime) g.session_times
    && list_all (is_range VolFile) g.files && list_all (is_range VolBlock) g.blocks && list_all (is_range VolAddr) g.addresses)
    (list_all (is_range FileIndex) g.indexes) (are_valid rs) (list_all (is_range Stream) g.streams) valid some

-- the indexes of a valid group are valid
indexes_part : (p x s : Bool) → ((p && x) && s) ≡ true → x ≡ true
indexes_part true true s e = refl
indexes_part true false s e = absurd cc
indexes_part false x s e = absurd cc

pub valid_indexes : (g : Group) → is_group g ≡ true → are_valid g.indexes ≡ true
unfolding is_group
valid_indexes g valid =
    indexes_part (is_volume_name g.volume && list_all (is_range SessionId) g.session_ids && list_all (is_range SessionTime) g.session_times
    && list_all (is_range VolFile) g.files && list_all (is_range VolBlock) g.blocks && list_all (is_range VolAddr) g.addresses)
    (are_valid g.indexes) (list_all (is_range Stream) g.streams) valid

-- one more
pub adds_some : (g left : Group) (old : List Group) → (is_group g ≡ true → is_group left ≡ true) → AddsValid g old (old ++ left ∷ [])
adds_some g left old next = record {
  few = let more = length_push old left in omega (arith, more);
  valid = λ is valid. all_both is_group old (left ∷ []) valid (and_from (is_group left) true (next is) refl);
}

pub adds_none : (g : Group) (old : List Group) → AddsValid g old old
adds_none g old = record { few = omega arith; valid = λ is valid. valid }

-- ---- the groups that have a flag

pub with_flag_few : (flag : Bool) (bs : List Bool) (gs : List Group) → length (with_flag flag bs gs) ≤ length gs
with_flag_few flag [] gs = omega arith
with_flag_few flag (b ∷ bs) [] = omega arith
with_flag_few flag (b ∷ bs) (g ∷ gs) = go (is_flag flag b) (with_flag_few flag bs gs)
  where
    go : (c : Bool) → length (with_flag flag bs gs) ≤ length gs → length (cond c (g ∷ with_flag flag bs gs) (with_flag flag bs gs)) ≤ length (g ∷ gs)
    go true rest = omega (arith, rest)
    go false rest = omega (arith, rest)

pub with_flag_valid : (flag : Bool) (bs : List Bool) (gs : List Group) → list_all is_group gs ≡ true → list_all is_group (with_flag flag bs gs) ≡ true
with_flag_valid flag [] gs valid = refl
with_flag_valid flag (b ∷ bs) [] valid = refl
with_flag_valid flag (b ∷ bs) (g ∷ gs) valid =
    let parts = and_parts (is_group g) (list_all is_group gs) valid in
    go (is_flag flag b) parts.0 (with_flag_valid flag bs gs parts.1)
  where
    go : (c : Bool) → is_group g ≡ true → list_all is_group (with_flag flag bs gs) ≡ true
        → list_all is_group (cond c (g ∷ with_flag flag bs gs) (with_flag flag bs gs)) ≡ true
    go true first rest = and_from (is_group g) (list_all is_group (with_flag flag bs gs)) first rest
    go false first rest = rest
