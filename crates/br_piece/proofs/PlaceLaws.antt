-- The places of pieces, and the map that keeps them.
use Rattle.std.proofs.Common.{◌≡◌, ℕ, zero, suc, ◌+◌, Bool, true, false, cond, List, [], ◌∷◌, ◌++◌, length, Option, Some, None, refl, sym, ap, subst, ◌∙◌, arith}
use Rattle.std.proofs.lemmas.Slice.Eq.{bytes_eq-Decides}
use Rattle.std.proofs.lemmas.Map.Text.{is_eq-slice_cmp}
use Rattle.std.specs.Prelude.{bytes_eq}
use Rattle.std.specs.List.{position_from}
use Rattle.std.specs.Option.{option_or}
use Rattle.std.specs.BTreeMap.{insert_entry, is_at}
use Rattle.std.specs.Map.{lookup}
use Rattle.std.specs.Cmp.{tied_itself}
use Rattle.std.specs.Cmp.Lexicographic.{nat_list_cmp_total}
use Rattle.std.specs.Ordering.{match_ordering, is_eq}
use Rattle.std.specs.declared.cmp.Ordering.{Ordering}
use Rattle.std.specs.declared.cmp.Ordering.TheVariants.{Less, Equal, Greater}
use Rattle.br_model.specs.Bootstrap.{Group}
use Rattle.br_model.specs.Meaning.{Piece}
use Rattle.br_model.proofs.OrderLaws.{rank_cmp, same_rank}
use Rattle.br_piece.specs.Piece.{first_piece, with_more_at, put_at, place_among, noted_place}

-- ---- the map

abbrev pub is_named : {K : Type 0} → (K → List ℕ) → List ℕ → K → Bool
is_named f name = is_at (λ k. rank_cmp name (f k))

named : (p q : List ℕ) → is_eq (rank_cmp p q) ≡ true → p ≡ q
named p q e = (bytes_eq-Decides p q).0 (sym (is_eq-slice_cmp p q) ∙ e)

same_key : (b c : Bool) (v : ℕ) (w : ℕ) (l : Option ℕ) → b ≡ c → cond c (Some v) l ≡ cond b (Some v) (cond c (Some w) l)
same_key true true v w l e = refl
same_key false false v w l e = refl
same_key true false v w l e = absurd cc
same_key false true v w l e = absurd cc

other_key : (b c : Bool) (v : ℕ) (w : ℕ) (l m : Option ℕ) → (b ≡ true → c ≡ true → ⊥) → m ≡ cond b (Some v) l → cond c (Some w) m ≡ cond b (Some v) (cond c (Some w) l)
other_key true true v w l m clash h = absurd (clash refl refl)
other_key true false v w l m clash h = h
other_key false true v w l m clash h = refl
other_key false false v w l m clash h = h

-- what a map has at a name after a key is inserted
pub lookup_put : {K : Type 0} (f : K → List ℕ) (es : List (K × ℕ)) (k : K) (v : ℕ) (name : List ℕ)
    → lookup (is_named f name) (insert_entry (λ x y. rank_cmp (f x) (f y)) es k v) ≡ cond (is_named f name k) (Some v) (lookup (is_named f name) es)
lookup_put f [] k v name = refl
lookup_put {K} f (e ∷ es) k v name = go (rank_cmp (f k) (f e.0)) refl (lookup_put f es k v name)
  where
    rest : List (K × ℕ)
    rest = insert_entry (λ x y. rank_cmp (f x) (f y)) es k v

    found : List (K × ℕ) → Option ℕ
    found = lookup (is_named f name)

    apart : rank_cmp (f k) (f e.0) ≡ Greater → is_named f name k ≡ true → is_named f name e.0 ≡ true → ⊥
    apart g p q =
        let same : f k ≡ f e.0 = sym (named name (f k) p) ∙ named name (f e.0) q in
        let tie : rank_cmp (f k) (f e.0) ≡ Equal = subst (λ l. rank_cmp (f k) l ≡ Equal) same (tied_itself nat_list_cmp_total (f k)) in
        absurd cc

    go : (r : Ordering) → rank_cmp (f k) (f e.0) ≡ r → found rest ≡ cond (is_named f name k) (Some v) (found es)
        → found (match_ordering r ((k, v) ∷ e ∷ es) ((e.0, v) ∷ es) (e ∷ rest)) ≡ cond (is_named f name k) (Some v) (cond (is_named f name e.0) (Some e.1) (found es))
    go Less is h = refl
    go Equal is h = same_key (is_named f name k) (is_named f name e.0) v e.1 (found es) (ap (λ l. is_eq (rank_cmp name l)) (same_rank (f k) (f e.0) is))
    go Greater is h = other_key (is_named f name k) (is_named f name e.0) v e.1 (found es) (found rest) (apart is) h

none_later : (o : Option ℕ) → o ≡ option_or o None
none_later None = refl
none_later (Some k) = refl

-- a place that is noted if there was none
pub noted_new : (volume name key : List ℕ) (next : ℕ) (before : List ℕ → Option ℕ) → key ≡ volume → before volume ≡ None
    → cond (is_eq (rank_cmp name key)) (Some next) (before name) ≡ noted_place volume next name (before name)
noted_new volume name key next before same none =
    ap (λ l. cond (is_eq (rank_cmp name l)) (Some next) (before name)) same
    ∙ ap (λ b. cond b (Some next) (before name)) (is_eq-slice_cmp name volume)
    ∙ go (bytes_eq name volume) refl (bytes_eq volume name) refl
  where
    go : (b : Bool) → bytes_eq name volume ≡ b → (c : Bool) → bytes_eq volume name ≡ c → cond b (Some next) (before name) ≡ option_or (before name) (cond c (Some next) None)
    go true p true q =
        let gone : before name ≡ None = ap before ((bytes_eq-Decides name volume).0 p) ∙ none in
        sym (ap (λ o. option_or o (Some next)) gone)
    go true p false q = let t : bytes_eq volume name ≡ true = (bytes_eq-Decides volume name).1 (sym ((bytes_eq-Decides name volume).0 p)) in absurd cc
    go false p true q = let t : bytes_eq name volume ≡ true = (bytes_eq-Decides name volume).1 (sym ((bytes_eq-Decides volume name).0 q)) in absurd cc
    go false p false q = none_later (before name)

-- if there was a place, nothing is noted
pub noted_old : (volume name : List ℕ) (next k : ℕ) (before : List ℕ → Option ℕ) → before volume ≡ Some k → before name ≡ noted_place volume next name (before name)
noted_old volume name next k before found = go (bytes_eq volume name) refl
  where
    go : (b : Bool) → bytes_eq volume name ≡ b → before name ≡ option_or (before name) (cond b (Some next) None)
    go true e =
        let there : before name ≡ Some k = sym (ap before ((bytes_eq-Decides volume name).0 e)) ∙ found in
        there ∙ sym (ap (λ o. option_or o (Some next)) there)
    go false e = none_later (before name)

-- ---- the pieces

more_keeps_places : (name : List ℕ) (j k : ℕ) (ps : List Piece) (g : ℕ × Group)
    → position_from (λ (p : Piece). bytes_eq p.volume name) j (with_more_at k ps g) ≡ position_from (λ (p : Piece). bytes_eq p.volume name) j ps
more_keeps_places name j k [] g = refl
more_keeps_places name j zero (p ∷ ps) g = refl
more_keeps_places name j (suc k) (p ∷ ps) g = ap (λ o. cond (bytes_eq p.volume name) (Some j) o) (more_keeps_places name (j + 1) k ps g)

place_behind : (name : List ℕ) (j n : ℕ) (ps : List Piece) (q : Piece) → n ≡ j + length ps
    → position_from (λ (p : Piece). bytes_eq p.volume name) j (ps ++ q ∷ []) ≡ option_or (position_from (λ (p : Piece). bytes_eq p.volume name) j ps) (cond (bytes_eq q.volume name) (Some n) None)
place_behind name j n [] q e = let same : j ≡ n = omega (arith, e) in ap (λ i. cond (bytes_eq q.volume name) (Some i) None) same
place_behind name j n (p ∷ ps) q e = go (bytes_eq p.volume name) (place_behind name (j + 1) n ps q (omega (arith, e)))
  where
    last : Option ℕ
    last = cond (bytes_eq q.volume name) (Some n) None

    places : List Piece → Option ℕ
    places = position_from (λ (p : Piece). bytes_eq p.volume name) (j + 1)

    go : (b : Bool) → places (ps ++ q ∷ []) ≡ option_or (places ps) last → cond b (Some j) (places (ps ++ q ∷ [])) ≡ option_or (cond b (Some j) (places ps)) last
    go true h = refl
    go false h = h

-- the places of the pieces with one more group
pub place_put : (o : Option ℕ) (ps : List Piece) (g : ℕ × Group) (name : List ℕ) → o ≡ place_among ps g.1.volume
    → place_among (put_at o ps g) name ≡ noted_place g.1.volume (length ps) name (place_among ps name)
place_put None ps g name e = place_behind name 0 (length ps) ps (first_piece (length ps) g) (omega arith)
place_put (Some k) ps g name e = more_keeps_places name 0 k ps g ∙ noted_old g.1.volume name (length ps) k (place_among ps) (sym e)

-- a map of the places of the pieces, once it notes the place of a group's volume, has the places of
-- the pieces with the group
pub places_step : (before after : List ℕ → Option ℕ) (o : Option ℕ) (ps qs : List Piece) (g : ℕ × Group) (volume : List ℕ) (next : ℕ)
    → ((name : List ℕ) → before name ≡ place_among ps name) → ((name : List ℕ) → after name ≡ noted_place volume next name (before name))
    → volume ≡ g.1.volume → next ≡ length ps → o ≡ place_among ps g.1.volume → qs ≡ put_at o ps g → (name : List ℕ) → after name ≡ place_among qs name
places_step before after o ps qs g volume next held noted vol len place put name =
    noted name
    ∙ ap (λ v. noted_place v next name (before name)) vol
    ∙ ap (λ n. noted_place g.1.volume n name (before name)) len
    ∙ ap (noted_place g.1.volume (length ps) name) (held name)
    ∙ sym (place_put o ps g name place)
    ∙ sym (ap (λ l. place_among l name) put)
