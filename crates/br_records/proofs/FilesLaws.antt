-- The files of hits in order, run by run.
use Rattle.std.proofs.Common.{◌≡◌, ℕ, ◌<◌, length, true, false, cond, List, [], ◌∷◌, ◌++◌, map, filter, Some, None, refl, sym, ap, subst, ◌∙◌, arith, append_assoc, length-append}
use Rattle.std.specs.Prelude.{slice_get}
use Rattle.std.specs.List.{AllByRecursion}
use Rattle.std.specs.List.Sorted.{IsStrictlySortedBy}
use Rattle.std.specs.Cmp.{tied_itself}
use Rattle.std.specs.Ordering.{ordering_reverse, is_eq}
use Rattle.std.specs.FinMap.{put}
use Rattle.std.specs.FinMap.Entries.{by_order}
use Rattle.std.specs.Cmp.Lexicographic.{nat_list_cmp_total}
use Rattle.std.specs.declared.cmp.Ordering.{Ordering}
use Rattle.std.specs.declared.cmp.Ordering.TheVariants.{Less, Equal, Greater}
use Rattle.br_model.specs.Order.{put_all, ranked, in_order}
use Rattle.br_model.specs.Name.{FileKey, key_rank, key_cmp, same_key}
use Rattle.br_model.specs.Block.{Fragment}
use Rattle.br_model.specs.Meaning.{Spot, Hit, hit_entry}
use Rattle.br_model.specs.Restored.{HitList, fragments_for}
use Rattle.br_model.proofs.ListLaws.{all_weaker, all_map}
use Rattle.br_model.proofs.OrderLaws.{rank_cmp, all_in_order}
use Rattle.br_types.proofs.KeyLaws.{key_total}
use Rattle.br_records.specs.Records.{fragments}
use Rattle.br_records.specs.Runs.{listed, AreListed}
use Rattle.br_records.proofs.SortLaws.{key_cmp_is, same_key_is_tie}

-- ---- fragments of a file

-- the hit is of another file
abbrev pub IsApart : FileKey → Hit → Type 0
IsApart key h = same_key h.key key ≡ false

other_step : (key : FileKey) (h : Hit) (hs : List Hit) → IsApart key h → fragments_for key (listed (h ∷ hs)) ≡ fragments_for key (listed hs)
unfolding fragments_for
other_step key h hs e =
    let kept = filter (λ (e : (FileKey × Spot) × Fragment). same_key e.0.0 key) (listed hs) in
    ap (λ b. map (λ (e : (FileKey × Spot) × Fragment). e.1) (cond b (hit_entry h ∷ kept) kept)) e

own_step : (key : FileKey) (h : Hit) (hs : List Hit) → same_key h.key key ≡ true → fragments_for key (listed (h ∷ hs)) ≡ h.fragment ∷ fragments_for key (listed hs)
unfolding fragments_for
own_step key h hs e =
    let kept = filter (λ (e : (FileKey × Spot) × Fragment). same_key e.0.0 key) (listed hs) in
    ap (λ b. map (λ (e : (FileKey × Spot) × Fragment). e.1) (cond b (hit_entry h ∷ kept) kept)) e

no_fragments : (key : FileKey) → fragments_for key (listed []) ≡ []
unfolding fragments_for
no_fragments key = refl

-- hits of other files before have none
others_in_front : (key : FileKey) (bs hs : List Hit) → AllByRecursion (IsApart key) bs → fragments_for key (listed (bs ++ hs)) ≡ fragments_for key (listed hs)
others_in_front key [] hs a = refl
others_in_front key (b ∷ bs) hs a = other_step key b (bs ++ hs) a.0 ∙ others_in_front key bs hs a.1

only_others : (key : FileKey) (ms : List Hit) → AllByRecursion (IsApart key) ms → fragments_for key (listed ms) ≡ []
only_others key [] a = no_fragments key
only_others key (m ∷ ms) a = other_step key m ms a.0 ∙ only_others key ms a.1

-- keys that are one are the same, number by number
pub itself : (a key : FileKey) → a ≡ key → same_key a key ≡ true
itself a key e = same_key_is_tie a key ∙ ap (λ (k : FileKey). is_eq (key_cmp k key)) e ∙ ap is_eq (tied_itself key_total key)

own_run : (key : FileKey) (rs ms : List Hit) → AllByRecursion (λ (h : Hit). h.key ≡ key) rs → AllByRecursion (IsApart key) ms
    → fragments_for key (listed (rs ++ ms)) ≡ fragments rs
own_run key [] ms own a = only_others key ms a
own_run key (r ∷ rs) ms own a = own_step key r (rs ++ ms) (itself r.key key own.0) ∙ ap (λ (fs : List Fragment). r.fragment ∷ fs) (own_run key rs ms own.1 a)

-- a hit of a file before or after this one is apart
pub before_is_apart : (key : FileKey) (h : Hit) → key_cmp h.key key ≡ Less → IsApart key h
before_is_apart key h e = same_key_is_tie h.key key ∙ ap is_eq e

pub behind_is_apart : (key : FileKey) (h : Hit) → key_cmp key h.key ≡ Less → IsApart key h
behind_is_apart key h e = same_key_is_tie h.key key ∙ ap is_eq (key_total.antisymm h.key key ∙ ap ordering_reverse e)

-- the fragments of a file are those of its run
pub fragments_in_run : (key : FileKey) (all before run behind : List Hit) → before ++ (run ++ behind) ≡ all
    → AllByRecursion (λ (h : Hit). key_cmp h.key key ≡ Less) before → AllByRecursion (λ (h : Hit). h.key ≡ key) run → AllByRecursion (λ (h : Hit). key_cmp key h.key ≡ Less) behind
    → fragments_for key (listed all) ≡ fragments run
fragments_in_run key all before run behind joined low own high =
    ap (λ (hs : List Hit). fragments_for key (listed hs)) (sym joined)
    ∙ others_in_front key before (run ++ behind) (all_weaker (λ (h : Hit). key_cmp h.key key ≡ Less) (IsApart key) (before_is_apart key) before low)
    ∙ own_run key run behind own (all_weaker (λ (h : Hit). key_cmp key h.key ≡ Less) (IsApart key) (behind_is_apart key) behind high)

-- ---- keys in order

-- the keys of hits
abbrev keys : List Hit → List FileKey
keys hs = map (λ (e : (FileKey × Spot) × Fragment). e.0.0) (listed hs)

put_keeps : (Q : List ℕ → Type 0) (k : List ℕ) (v : FileKey) (es : List (List ℕ × FileKey)) → Q k → AllByRecursion (λ (e : List ℕ × FileKey). Q e.0) es
    → AllByRecursion (λ (e : List ℕ × FileKey). Q e.0) (put rank_cmp k v es)
put_keeps Q k v [] q all = (q, tt)
put_keeps Q k v (e ∷ es) q all = go (rank_cmp k e.0) (put_keeps Q k v es q all.1)
  where
    go : (r : Ordering) → AllByRecursion (λ (e : List ℕ × FileKey). Q e.0) (put rank_cmp k v es)
        → AllByRecursion (λ (e : List ℕ × FileKey). Q e.0) (by_order r ((k, v) ∷ e ∷ es) ((e.0, v) ∷ es) (e ∷ put rank_cmp k v es))
    go Less rest = (q, all)
    go Equal rest = all
    go Greater rest = (all.0, rest)

ranks_above : (key : FileKey) (ms : List Hit) → AllByRecursion (λ (h : Hit). key_cmp key h.key ≡ Less) ms
    → AllByRecursion (λ (e : List ℕ × FileKey). rank_cmp (key_rank key) e.0 ≡ Less) (ranked key_rank (keys ms))
unfolding ranked put_all
ranks_above key [] h = tt
ranks_above key (m ∷ ms) h =
    put_keeps (λ (q : List ℕ). rank_cmp (key_rank key) q ≡ Less) (key_rank m.key) m.key (ranked key_rank (keys ms)) (sym (key_cmp_is key m.key) ∙ h.0) (ranks_above key ms h.1)

put_front : (k : List ℕ) (v : FileKey) (es : List (List ℕ × FileKey)) → AllByRecursion (λ (e : List ℕ × FileKey). rank_cmp k e.0 ≡ Less) es → put rank_cmp k v es ≡ (k, v) ∷ es
put_front k v [] h = refl
put_front k v (e ∷ es) h = ap (λ o. by_order o ((k, v) ∷ e ∷ es) ((e.0, v) ∷ es) (e ∷ put rank_cmp k v es)) h.0

-- a key before its run and hits of files after it comes first, once
run_in_front : (key : FileKey) (rs ms : List Hit) → AllByRecursion (λ (h : Hit). h.key ≡ key) rs → AllByRecursion (λ (h : Hit). key_cmp key h.key ≡ Less) ms
    → ranked key_rank (key ∷ keys (rs ++ ms)) ≡ (key_rank key, key) ∷ ranked key_rank (keys ms)
unfolding ranked put_all
run_in_front key [] ms own high = put_front (key_rank key) key (ranked key_rank (keys ms)) (ranks_above key ms high)
run_in_front key (r ∷ rs) ms own high =
    let left = ranked key_rank (keys ms) in
    ap (λ (k : FileKey). put rank_cmp (key_rank key) key (ranked key_rank (k ∷ keys (rs ++ ms)))) own.0
    ∙ ap (put rank_cmp (key_rank key) key) (run_in_front key rs ms own.1 high)
    ∙ ap (λ o. by_order o ((key_rank key, key) ∷ (key_rank key, key) ∷ left) ((key_rank key, key) ∷ left) ((key_rank key, key) ∷ put rank_cmp (key_rank key) key left))
    (tied_itself nat_list_cmp_total (key_rank key))

-- ---- the files that were found

-- what each file that was hit gives, in order of key
abbrev pub each_found : {X : Type 0} → (FileKey → List Fragment → X) → HitList → List X
each_found f es = map (λ (key : FileKey). f key (fragments_for key es)) (in_order key_rank (map (λ (e : (FileKey × Spot) × Fragment). e.0.0) es))

same_images : {X Y : Type 0} (f g : X → Y) (xs : List X) → AllByRecursion (λ (x : X). f x ≡ g x) xs → map f xs ≡ map g xs
same_images f g [] h = refl
same_images f g (x ∷ xs) h = λ i. h.0 i ∷ same_images f g xs h.1 i

-- what the file of a run gives comes before what those of the hits after it give
found_step : {X : Type 0} (f : FileKey → List Fragment → X) (key : FileKey) (r : Hit) (rs ms : List Hit) → AllByRecursion (λ (h : Hit). h.key ≡ key) (r ∷ rs) → AllByRecursion (λ (h : Hit). key_cmp key h.key ≡ Less) ms
    → each_found f (listed (r ∷ rs ++ ms)) ≡ f key (fragments (r ∷ rs)) ∷ each_found f (listed ms)
unfolding in_order
found_step f key r rs ms own high =
    let es = listed (r ∷ rs ++ ms) in
    ap (λ (ks : List (List ℕ × FileKey)). map (λ (k : FileKey). f k (fragments_for k es)) (map (λ (e : List ℕ × FileKey). e.1) ks))
    (ap (λ (k : FileKey). ranked key_rank (k ∷ keys (rs ++ ms))) own.0 ∙ run_in_front key rs ms own.1 high)
    ∙ (λ i. f key (mine i) ∷ same_images (λ (k : FileKey). f k (fragments_for k es)) (λ (k : FileKey). f k (fragments_for k (listed ms))) (in_order key_rank (keys ms)) rest i)
  where
    mine : fragments_for key (listed (r ∷ rs ++ ms)) ≡ fragments (r ∷ rs)
    mine = fragments_in_run key (r ∷ rs ++ ms) [] (r ∷ rs) ms refl tt own high

    apart : (k : FileKey) → key_cmp key k ≡ Less → fragments_for k (listed (r ∷ rs ++ ms)) ≡ fragments_for k (listed ms)
    apart k e =
        others_in_front k (r ∷ rs) ms
        (all_weaker (λ (h : Hit). h.key ≡ key) (IsApart k) (λ h same. same_key_is_tie h.key k ∙ ap (λ (j : FileKey). is_eq (key_cmp j k)) same ∙ ap is_eq e) (r ∷ rs) own)

    above : AllByRecursion (λ (k : FileKey). key_cmp key k ≡ Less) (keys ms)
    above =
        all_map (λ (k : FileKey). key_cmp key k ≡ Less) (λ (e : (FileKey × Spot) × Fragment). e.0.0) (listed ms)
        (all_map (λ (e : (FileKey × Spot) × Fragment). key_cmp key e.0.0 ≡ Less) hit_entry ms high)

    rest : AllByRecursion (λ (k : FileKey). f k (fragments_for k (listed (r ∷ rs ++ ms))) ≡ f k (fragments_for k (listed ms))) (in_order key_rank (keys ms))
    rest =
        all_weaker (λ (k : FileKey). key_cmp key k ≡ Less) (λ (k : FileKey). f k (fragments_for k (listed (r ∷ rs ++ ms))) ≡ f k (fragments_for k (listed ms)))
        (λ k e. ap (f k) (apart k e)) (in_order key_rank (keys ms)) (all_in_order key_rank (λ (k : FileKey). key_cmp key k ≡ Less) (keys ms) above)

not_below_itself : (key : FileKey) → key_cmp key key ≡ Less → ⊥
not_below_itself key e = let tie : key_cmp key key ≡ Equal = tied_itself key_total key in absurd cc

-- What the files of hits in order give, by the run of the file of the first of them: what this file
-- gives, then what those of fewer hits give.
pub found_turn : {X : Type 0} (f : FileKey → List Fragment → X) (all before run behind : List Hit) (first : Hit) (key : FileKey) → slice_get all 0 ≡ Some first → first.key ≡ key → before ++ (run ++ behind) ≡ all
    → AllByRecursion (λ (h : Hit). key_cmp h.key key ≡ Less) before → AllByRecursion (λ (h : Hit). h.key ≡ key) run → AllByRecursion (λ (h : Hit). key_cmp key h.key ≡ Less) behind
    → (each_found f (listed all) ≡ f key (fragments run) ∷ each_found f (listed behind)) × (length behind < length all)
found_turn f all (b ∷ bs) run behind first key is own_key joined low own high =
    let at : slice_get (b ∷ bs ++ (run ++ behind)) 0 ≡ Some first = ap (λ (xs : List Hit). slice_get xs 0) joined ∙ is in
    let same : b ≡ first = cc in
    let below : key_cmp key key ≡ Less = ap (λ (k : FileKey). key_cmp k key) (sym (ap (λ (h : Hit). h.key) same ∙ own_key)) ∙ low.0 in
    absurd (not_below_itself key below)
found_turn f all [] [] [] first key is own_key joined low own high = let none : slice_get [] 0 ≡ Some first = ap (λ (xs : List Hit). slice_get xs 0) joined ∙ is in absurd cc
found_turn f all [] [] (m ∷ ms) first key is own_key joined low own high =
    let at : slice_get (m ∷ ms) 0 ≡ Some first = ap (λ (xs : List Hit). slice_get xs 0) joined ∙ is in
    let same : m ≡ first = cc in
    let below : key_cmp key key ≡ Less = ap (key_cmp key) (sym (ap (λ (h : Hit). h.key) same ∙ own_key)) ∙ high.0 in
    absurd (not_below_itself key below)
found_turn f all [] (r ∷ rs) behind first key is own_key joined low own high = (
  ap (λ (hs : List Hit). each_found f (listed hs)) (sym joined) ∙ found_step f key r rs behind own high,
  omega (arith, ap length joined, length-append rs behind),
)

-- no first hit, no hit
pub none_left : (hs : List Hit) → slice_get hs 0 ≡ None → hs ≡ []
none_left [] e = refl
none_left (h ∷ hs) e = absurd cc

-- no hits, no files
pub none_found : {X : Type 0} (f : FileKey → List Fragment → X) → each_found f (listed []) ≡ []
unfolding in_order ranked put_all
none_found f = refl

behind_listed : (xs ys : List Hit) → AreListed (xs ++ ys) → AreListed ys
unfolding IsStrictlySortedBy
behind_listed [] ys h = h
behind_listed (x ∷ xs) ys h = behind_listed xs ys h.1

-- of a list in order the hits after a run are in order
pub listed_behind : (all before run behind : List Hit) → before ++ (run ++ behind) ≡ all → AreListed all → AreListed behind
listed_behind all before run behind joined h = behind_listed run behind (behind_listed before (run ++ behind) (subst AreListed (sym joined) h))

-- ---- one more file

-- files so far and those that are left, as one goes from the one list to the other
pub more_files : {X : Type 0} (done new : List X) (item : X) (left rest all : List X) → new ≡ done ++ item ∷ [] → done ++ left ≡ all → left ≡ item ∷ rest → new ++ rest ≡ all
more_files done new item left rest all pushed so_far next =
    ap (λ xs. xs ++ rest) pushed ∙ append_assoc done (item ∷ []) rest ∙ ap (λ xs. done ++ xs) (sym next) ∙ so_far
