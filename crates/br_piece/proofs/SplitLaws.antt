-- The pieces of a bootstrap with one more group: those without it, and the group in the piece of
-- its volume.
use Rattle.std.proofs.Common.{◌≡◌, ℕ, zero, suc, ◌+◌, ◌<◌, Bool, true, false, not, cond, List, [], ◌∷◌, ◌++◌, length, map, filter, Option, Some, None, refl, sym, ap, subst, ◌∙◌, ◌≤◌, get_or, set, take, length-append, length-take, arith}
use Rattle.std.proofs.lemmas.Slice.Eq.{bytes_eq-Decides}
use Rattle.std.proofs.lemmas.List.{append-nil, map-append}
use Rattle.std.specs.Prelude.{bytes_eq, option_map, IfSome}
use Rattle.std.specs.List.{AllByRecursion, enumerate_from, position_from}
use Rattle.br_model.specs.Order.{without_repeats}
use Rattle.br_model.specs.Bootstrap.{Group}
use Rattle.br_model.specs.Meaning.{Piece, groups_on, volumes_of, pieces_of}
use Rattle.br_model.proofs.ListLaws.{all_weaker, of_each, to_each, all_numbered, keeps_none, in_without_repeats, contains_map, kept_pass}
use Rattle.br_model.proofs.PairLaws.{EachPair, pairs_filter}
use Rattle.br_model.proofs.PieceLaws.{is_on, on_from, piece_of}
use Rattle.br_piece.specs.Piece.{first_piece, with_one_more, with_more_at, put_at, place_among}
use Rattle.std.proofs.lemmas.Bool.{not-true}

-- ---- volumes

-- the volumes with one more after them, if it is not among them
abbrev with_volume : List (List ℕ) → List ℕ → List (List ℕ)
with_volume [] v = v ∷ []
with_volume (w ∷ ws) v = cond (bytes_eq w v) (w ∷ ws) (w ∷ with_volume ws v)

filter_with_same : (x : List ℕ) (ws : List (List ℕ)) → filter (λ y. not (bytes_eq x y)) (with_volume ws x) ≡ filter (λ y. not (bytes_eq x y)) ws
filter_with_same x [] = rw ((bytes_eq-Decides x x).1 refl) refl
filter_with_same x (w ∷ ws) = go (bytes_eq w x) (not (bytes_eq x w)) (filter_with_same x ws)
  where
    keep : (k : Bool) → filter (λ y. not (bytes_eq x y)) (with_volume ws x) ≡ filter (λ y. not (bytes_eq x y)) ws
        → cond k (w ∷ filter (λ y. not (bytes_eq x y)) (with_volume ws x)) (filter (λ y. not (bytes_eq x y)) (with_volume ws x))
        ≡ cond k (w ∷ filter (λ y. not (bytes_eq x y)) ws) (filter (λ y. not (bytes_eq x y)) ws)
    keep k h = ap (λ l. cond k (w ∷ l) l) h

    go : (b k : Bool) → filter (λ y. not (bytes_eq x y)) (with_volume ws x) ≡ filter (λ y. not (bytes_eq x y)) ws
        → filter (λ y. not (bytes_eq x y)) (cond b (w ∷ ws) (w ∷ with_volume ws x)) ≡ filter (λ y. not (bytes_eq x y)) (w ∷ ws)
    go true k h = refl
    go false k h = keep (not (bytes_eq x w)) h

filter_with_other : (x v : List ℕ) (ws : List (List ℕ)) → bytes_eq x v ≡ false
    → filter (λ y. not (bytes_eq x y)) (with_volume ws v) ≡ with_volume (filter (λ y. not (bytes_eq x y)) ws) v
filter_with_other x v [] e = rw e refl
filter_with_other x v (w ∷ ws) e = go (bytes_eq w v) refl (bytes_eq x w) refl (filter_with_other x v ws e)
  where
    kept : List (List ℕ) → List (List ℕ)
    kept l = filter (λ y. not (bytes_eq x y)) l

    clash : w ≡ v → x ≡ w → ⊥
    clash p q = let t : bytes_eq x v ≡ true = (bytes_eq-Decides x v).1 (q ∙ p) in absurd cc

    go : (b : Bool) → bytes_eq w v ≡ b → (k : Bool) → bytes_eq x w ≡ k → kept (with_volume ws v) ≡ with_volume (kept ws) v
        → kept (cond b (w ∷ ws) (w ∷ with_volume ws v)) ≡ with_volume (kept (w ∷ ws)) v
    go true is true same h = absurd (clash ((bytes_eq-Decides w v).0 is) ((bytes_eq-Decides x w).0 same))
    go true is false same h = rw same (rw is refl)
    go false is true same h = rw same h
    go false is false same h = rw same (rw is (ap (λ l. w ∷ l) h))

without_repeats_more : (xs : List (List ℕ)) (v : List ℕ) → without_repeats (xs ++ v ∷ []) ≡ with_volume (without_repeats xs) v
unfolding without_repeats
without_repeats_more [] v = refl
without_repeats_more (x ∷ xs) v = ap (λ ys. x ∷ filter (λ y. not (bytes_eq x y)) ys) (without_repeats_more xs v) ∙ go (bytes_eq x v) refl
  where
    rest : List (List ℕ)
    rest = without_repeats xs

    go : (b : Bool) → bytes_eq x v ≡ b
        → x ∷ filter (λ y. not (bytes_eq x y)) (with_volume rest v) ≡ cond b (x ∷ filter (λ y. not (bytes_eq x y)) rest) (x ∷ with_volume (filter (λ y. not (bytes_eq x y)) rest) v)
    go true e =
        let same : x ≡ v = (bytes_eq-Decides x v).0 e in
        ap (λ ys. x ∷ ys) (subst (λ u. filter (λ y. not (bytes_eq x y)) (with_volume rest u) ≡ filter (λ y. not (bytes_eq x y)) rest) same (filter_with_same x rest))
    go false e = ap (λ ys. x ∷ ys) (filter_with_other x v rest e)

abbrev Apart : List ℕ → List ℕ → Type 0
Apart v w = bytes_eq v w ≡ false

no_repeats : (xs : List (List ℕ)) → EachPair Apart (without_repeats xs)
unfolding without_repeats
no_repeats [] = tt
no_repeats (x ∷ xs) =
    (all_weaker (λ y. not (bytes_eq x y) ≡ true) (Apart x) (λ y e. not-true (bytes_eq x y) e) (filter (λ y. not (bytes_eq x y)) (without_repeats xs)) (kept_pass (λ y. not (bytes_eq x y)) (without_repeats xs)), pairs_filter Apart (λ y. not (bytes_eq x y)) (without_repeats xs) (no_repeats xs))

-- ---- the groups on a volume

on_from_more : (n m : ℕ) (gs : List Group) (g : Group) (v : List ℕ) → m ≡ n + length gs
    → on_from n (gs ++ g ∷ []) v ≡ on_from n gs v ++ cond (bytes_eq g.volume v) ((m, g) ∷ []) []
on_from_more n m [] g v e = let same : n ≡ m = omega (arith, e) in ap (λ i. cond (bytes_eq g.volume v) ((i, g) ∷ []) []) same
on_from_more n m (h ∷ hs) g v e = go (bytes_eq h.volume v) (on_from_more (n + 1) m hs g v (omega (arith, e)))
  where
    last : List (ℕ × Group)
    last = cond (bytes_eq g.volume v) ((m, g) ∷ []) []

    go : (b : Bool) → on_from (n + 1) (hs ++ g ∷ []) v ≡ on_from (n + 1) hs v ++ last
        → cond b ((n, h) ∷ on_from (n + 1) (hs ++ g ∷ []) v) (on_from (n + 1) (hs ++ g ∷ []) v)
        ≡ cond b ((n, h) ∷ on_from (n + 1) hs v) (on_from (n + 1) hs v) ++ last
    go true e = ap (λ l. (n, h) ∷ l) e
    go false e = e

groups_more : (gs : List Group) (g : Group) (v : List ℕ) (b : Bool) → bytes_eq g.volume v ≡ b → groups_on (gs ++ g ∷ []) v ≡ groups_on gs v ++ cond b ((length gs, g) ∷ []) []
unfolding groups_on
groups_more gs g v b e = on_from_more 0 (length gs) gs g v (omega arith) ∙ ap (λ c. on_from 0 gs v ++ cond c ((length gs, g) ∷ []) []) e

no_groups : (gs : List Group) (v : List ℕ) → AllByRecursion (λ w. bytes_eq w v ≡ false) (volumes_of gs) → groups_on gs v ≡ []
unfolding groups_on
no_groups gs v h =
    keeps_none (is_on v) (enumerate_from 0 gs)
    (all_numbered (λ (g : Group). bytes_eq g.volume v ≡ false) 0 gs
    (to_each (λ (g : Group). bytes_eq g.volume v ≡ false) gs (λ g inside.
    of_each (λ w. bytes_eq w v ≡ false) (volumes_of gs) g.volume h (in_without_repeats (map (λ (g : Group). g.volume) gs) g.volume (contains_map (λ (g : Group). g.volume) gs g inside)))))

-- ---- pieces

-- the pieces with one more group, in the first piece of its volume or in a new last one, if the
-- first piece has this number
abbrev with_group : ℕ → List Piece → ℕ × Group → List Piece
with_group k [] g = first_piece k g ∷ []
with_group k (p ∷ ps) g = cond (bytes_eq p.volume g.1.volume) (with_one_more p g ∷ ps) (p ∷ with_group (k + 1) ps g)

abbrev put_from : ℕ → Option ℕ → List Piece → ℕ × Group → List Piece
put_from k None pieces g = pieces ++ first_piece (k + length pieces) g ∷ []
put_from k (Some i) pieces g = with_more_at i pieces g

abbrev is_of : List ℕ → Piece → Bool
is_of v p = bytes_eq p.volume v

position_later : (v : List ℕ) (i j : ℕ) (ps : List Piece) → j ≡ suc i → position_from (is_of v) j ps ≡ option_map suc (position_from (is_of v) i ps)
position_later v i j [] e = refl
position_later v i j (p ∷ ps) e = go (is_of v p) (position_later v (i + 1) (j + 1) ps (omega (arith, e)))
  where
    go : (b : Bool) → position_from (is_of v) (j + 1) ps ≡ option_map suc (position_from (is_of v) (i + 1) ps)
        → cond b (Some j) (position_from (is_of v) (j + 1) ps) ≡ option_map suc (cond b (Some i) (position_from (is_of v) (i + 1) ps))
    go true h = ap (λ n. Some n) e
    go false h = h

put_later : (k : ℕ) (o : Option ℕ) (p : Piece) (ps : List Piece) (g : ℕ × Group) → put_from k (option_map suc o) (p ∷ ps) g ≡ p ∷ put_from (k + 1) o ps g
put_later k None p ps g = let same : k + suc (length ps) ≡ k + 1 + length ps = omega arith in ap (λ n. p ∷ ps ++ first_piece n g ∷ []) same
put_later k (Some i) p ps g = refl

put_from_is_with : (k : ℕ) (ps : List Piece) (g : ℕ × Group) → put_from k (position_from (is_of g.1.volume) 0 ps) ps g ≡ with_group k ps g
put_from_is_with k [] g = let same : k + 0 ≡ k = omega arith in ap (λ n. first_piece n g ∷ []) same
put_from_is_with k (p ∷ ps) g = go (is_of g.1.volume p) (put_from_is_with (k + 1) ps g)
  where
    later : Option ℕ
    later = position_from (is_of g.1.volume) 0 ps

    go : (b : Bool) → put_from (k + 1) later ps g ≡ with_group (k + 1) ps g
        → put_from k (cond b (Some 0) (position_from (is_of g.1.volume) 1 ps)) (p ∷ ps) g ≡ cond b (with_one_more p g ∷ ps) (p ∷ with_group (k + 1) ps g)
    go true h = refl
    go false h = ap (λ o. put_from k o (p ∷ ps) g) (position_later g.1.volume 0 1 ps refl) ∙ put_later k later p ps g ∙ ap (λ l. p ∷ l) h

-- a group is added at the place of its volume
put_is_with : (ps : List Piece) (g : ℕ × Group) → put_at (place_among ps g.1.volume) ps g ≡ with_group 0 ps g
put_is_with ps g = go (place_among ps g.1.volume) ∙ put_from_is_with 0 ps g
  where
    go : (o : Option ℕ) → put_at o ps g ≡ put_from 0 o ps g
    go None = let same : length ps ≡ 0 + length ps = omega arith in ap (λ n. ps ++ first_piece n g ∷ []) same
    go (Some i) = refl

piece_more : (gs : List Group) (g : Group) (k : ℕ) (w : List ℕ) (groups : List (ℕ × Group)) → groups_on (gs ++ g ∷ []) w ≡ groups → piece_of (gs ++ g ∷ []) (k, w) ≡ record { number = k; volume = w; groups = groups }
piece_more gs g k w groups e = ap (λ (l : List (ℕ × Group)). record { number = k; volume = w; groups = l }) e

same_piece : (gs : List Group) (g : Group) (k : ℕ) (w : List ℕ) → bytes_eq g.volume w ≡ false → piece_of (gs ++ g ∷ []) (k, w) ≡ piece_of gs (k, w)
same_piece gs g k w e = piece_more gs g k w (groups_on gs w) (groups_more gs g w false e ∙ append-nil (groups_on gs w))

-- the pieces of other volumes than the last group's
same_pieces : (k : ℕ) (gs : List Group) (g : Group) (vs : List (List ℕ)) → AllByRecursion (Apart g.volume) vs
    → map (piece_of (gs ++ g ∷ [])) (enumerate_from k vs) ≡ map (piece_of gs) (enumerate_from k vs)
same_pieces k gs g [] h = refl
same_pieces k gs g (v ∷ vs) h =
    ap (λ p. p ∷ map (piece_of (gs ++ g ∷ [])) (enumerate_from (k + 1) vs)) (same_piece gs g k v h.0)
    ∙ ap (λ l. piece_of gs (k, v) ∷ l) (same_pieces (k + 1) gs g vs h.1)

apart_back : (v w : List ℕ) → bytes_eq v w ≡ false → bytes_eq w v ≡ false
apart_back v w e = go (bytes_eq w v) refl
  where
    clash : w ≡ v → ⊥
    clash p = let t : bytes_eq v w ≡ true = (bytes_eq-Decides v w).1 (sym p) in absurd cc

    go : (b : Bool) → bytes_eq w v ≡ b → b ≡ false
    go true is = absurd (clash ((bytes_eq-Decides w v).0 is))
    go false is = refl

pieces_more : (k : ℕ) (gs : List Group) (g : Group) (vs : List (List ℕ)) → EachPair Apart vs
    → (AllByRecursion (λ w. bytes_eq w g.volume ≡ false) vs → groups_on gs g.volume ≡ [])
    → map (piece_of (gs ++ g ∷ [])) (enumerate_from k (with_volume vs g.volume)) ≡ with_group k (map (piece_of gs) (enumerate_from k vs)) (length gs, g)
pieces_more k gs g [] apart none =
    ap (λ p. p ∷ [])
    (piece_more gs g k g.volume ((length gs, g) ∷ [])
    (groups_more gs g g.volume true ((bytes_eq-Decides g.volume g.volume).1 refl) ∙ ap (λ l. l ++ (length gs, g) ∷ []) (none tt)))
pieces_more k gs g (w ∷ ws) apart none = go (bytes_eq w g.volume) refl (λ e. pieces_more (k + 1) gs g ws apart.1 (λ all. none (e, all)))
  where
    all_pieces : ℕ → List (List ℕ) → List Piece
    all_pieces n vs = map (piece_of (gs ++ g ∷ [])) (enumerate_from n vs)

    old : List Piece
    old = map (piece_of gs) (enumerate_from (k + 1) ws)

    go : (b : Bool) → bytes_eq w g.volume ≡ b
        → (bytes_eq w g.volume ≡ false → all_pieces (k + 1) (with_volume ws g.volume) ≡ with_group (k + 1) old (length gs, g))
        → all_pieces k (cond b (w ∷ ws) (w ∷ with_volume ws g.volume)) ≡ cond b (with_one_more (piece_of gs (k, w)) (length gs, g) ∷ old) (piece_of gs (k, w) ∷ with_group (k + 1) old (length gs, g))
    go true is h =
        let same : w ≡ g.volume = (bytes_eq-Decides w g.volume).0 is in
        let more : groups_on (gs ++ g ∷ []) w ≡ groups_on gs w ++ (length gs, g) ∷ [] = groups_more gs g w true ((bytes_eq-Decides g.volume w).1 (sym same)) in
        ap (λ p. p ∷ all_pieces (k + 1) ws) (piece_more gs g k w (groups_on gs w ++ (length gs, g) ∷ []) more)
        ∙ ap (λ l. with_one_more (piece_of gs (k, w)) (length gs, g) ∷ l) (same_pieces (k + 1) gs g ws (subst (λ u. AllByRecursion (Apart u) ws) same apart.0))
    go false is h =
        ap (λ p. p ∷ all_pieces (k + 1) (with_volume ws g.volume)) (same_piece gs g k w (apart_back w g.volume is))
        ∙ ap (λ l. piece_of gs (k, w) ∷ l) (h is)

-- the pieces of a bootstrap with one more group
pub split_more : (gs : List Group) (g : Group) → pieces_of (gs ++ g ∷ []) ≡ put_at (place_among (pieces_of gs) g.volume) (pieces_of gs) (length gs, g)
unfolding pieces_of
split_more gs g =
    ap (λ vs. map (piece_of (gs ++ g ∷ [])) (enumerate_from 0 vs)) volumes
    ∙ pieces_more 0 gs g (volumes_of gs) (no_repeats (map (λ (g : Group). g.volume) gs)) (no_groups gs g.volume)
    ∙ sym (put_is_with (map (piece_of gs) (enumerate_from 0 (volumes_of gs))) (length gs, g))
  where
    volumes : volumes_of (gs ++ g ∷ []) ≡ with_volume (volumes_of gs) g.volume
    volumes = ap without_repeats (map-append (λ (g : Group). g.volume) gs (g ∷ [])) ∙ without_repeats_more (map (λ (g : Group). g.volume) gs) g.volume

-- ---- places

-- a piece that is replaced by itself with one more group
pub set_more : (k : ℕ) (ps : List Piece) (p : Piece) (g : ℕ × Group) → p ≡ get_or ps k p → k < length ps → set ps k (with_one_more p g) ≡ with_more_at k ps g
set_more k [] p g e lt = absurd (omega (arith, lt))
set_more zero (q ∷ ps) p g e lt = ap (λ r. with_one_more r g ∷ ps) e
set_more (suc k) (q ∷ ps) p g e lt = ap (λ l. q ∷ l) (set_more k ps p g e (omega (arith, lt)))

more_keeps_length : (k : ℕ) (ps : List Piece) (g : ℕ × Group) → length (with_more_at k ps g) ≡ length ps
more_keeps_length k [] g = refl
more_keeps_length zero (p ∷ ps) g = refl
more_keeps_length (suc k) (p ∷ ps) g = ap suc (more_keeps_length k ps g)

-- there is at most one more piece
pub put_length : (o : Option ℕ) (ps : List Piece) (g : ℕ × Group) → length (put_at o ps g) ≤ length ps + 1
put_length None ps g = omega (arith, length-append ps (first_piece (length ps) g ∷ []))
put_length (Some k) ps g = omega (arith, more_keeps_length k ps g)

place_from_inside : (v : List ℕ) (j : ℕ) (ps : List Piece) → IfSome (position_from (is_of v) j ps) (λ k. k < j + length ps)
place_from_inside v j [] = tt
place_from_inside v j (p ∷ ps) = go (is_of v p) (place_from_inside v (j + 1) ps)
  where
    wider : (o : Option ℕ) → IfSome o (λ k. k < j + 1 + length ps) → IfSome o (λ k. k < j + suc (length ps))
    wider None h = h
    wider (Some i) h = omega (arith, h)

    go : (b : Bool) → IfSome (position_from (is_of v) (j + 1) ps) (λ k. k < j + 1 + length ps)
        → IfSome (cond b (Some j) (position_from (is_of v) (j + 1) ps)) (λ k. k < j + suc (length ps))
    go true h = omega arith
    go false h = wider (position_from (is_of v) (j + 1) ps) h

-- a place is one of the pieces
pub place_inside : (ps : List Piece) (v : List ℕ) → IfSome (place_among ps v) (λ k. k < length ps)
place_inside ps v = narrower (place_among ps v) (place_from_inside v 0 ps)
  where
    narrower : (o : Option ℕ) → IfSome o (λ k. k < 0 + length ps) → IfSome o (λ k. k < length ps)
    narrower None h = h
    narrower (Some i) h = omega (arith, h)

-- no groups, no pieces
pub no_pieces : pieces_of [] ≡ []
unfolding pieces_of without_repeats
no_pieces = refl

-- the pieces of the groups up to one and with it
pub split_step : (gs : List Group) (i : ℕ) (g : Group) (ps : List Piece) (n : ℕ) (o : Option ℕ) → i < length gs → g ≡ get_or gs i g → ps ≡ pieces_of (take i gs) → n ≡ i
    → o ≡ place_among ps g.volume → put_at o ps (n, g) ≡ pieces_of (take (i + 1) gs)
split_step gs i g ps n o lt at so_far number place =
    let len : length (take i gs) ≡ n = omega (arith, length-take i gs, lt, number) in
    let next : suc i ≡ i + 1 = omega arith in
    ap (λ q. put_at q ps (n, g)) place
    ∙ ap (λ qs. put_at (place_among qs g.volume) qs (n, g)) so_far
    ∙ ap (λ m. put_at (place_among (pieces_of (take i gs)) g.volume) (pieces_of (take i gs)) (m, g)) (sym len)
    ∙ sym (split_more (take i gs) g)
    ∙ ap pieces_of (sym (taken gs i g lt at))
    ∙ ap (λ m. pieces_of (take m gs)) next
  where
    taken : (gs : List Group) (i : ℕ) (g : Group) → i < length gs → g ≡ get_or gs i g → take (suc i) gs ≡ take i gs ++ g ∷ []
    taken [] i g lt e = absurd (omega (arith, lt))
    taken (h ∷ hs) zero g lt e = ap (λ x. x ∷ []) (sym e)
    taken (h ∷ hs) (suc i) g lt e = ap (λ l. h ∷ l) (taken hs i g (omega (arith, lt)) e)
