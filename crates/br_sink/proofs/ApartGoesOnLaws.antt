-- What is kept of one more outcome, if files whose paths conflict are left out.
use Rattle.std.proofs.Common.{◌≡◌, ℕ, Bool, true, false, ◌||◌, not, cond, List, [], ◌∷◌, ◌++◌, map, refl, ap, sym, subst, ◌∙◌, Option, Some, None}
use Rattle.std.specs.Prelude.{filter_map}
use Rattle.std.specs.List.{list_any}
use Rattle.br_model.specs.Delivery.{in_the_way, item_of}
use Rattle.br_model.specs.File.{Item}
use Rattle.br_model.specs.Restored.{Restored}
use Rattle.br_sink.specs.ConflictsApart.{ApartGoesOn, apart, apart_beside, is_free, paths_in, with_path}
use Rattle.br_sink.proofs.ApartLaws.{items_none, items_some, kept_first, left_first}

-- the paths after these outcomes, the last one first
noted : List (List ℕ) → List Restored → List (List ℕ)
noted paths [] = paths
noted paths (k ∷ ks) = noted (with_path paths (item_of k)) ks

-- ---- one more outcome

front : (b : Bool) (s : Restored) (xs ys : List Restored) → s ∷ cond b xs ys ≡ cond b (s ∷ xs) (s ∷ ys)
front true s xs ys = refl
front false s xs ys = refl

-- this is what is kept of one more outcome, if these were kept
Goes : List (List ℕ) → List Restored → Restored → List Restored → List Restored → Type 0
Goes paths rs r more kept = apart_beside paths (rs ++ more) ≡ cond (is_free (noted paths kept) (item_of r)) (kept ++ r ∷ []) kept

goes_on : (paths : List (List ℕ)) (rs : List Restored) (r : Restored) → Goes paths rs r (r ∷ []) (apart_beside paths rs)
unfolding Goes noted
goes_on paths [] r = refl
goes_on paths (s ∷ rs) r = go (goes_on (with_path paths (item_of s)) rs r) (goes_on paths rs r) (is_free paths (item_of s)) refl
  where
    go : Goes (with_path paths (item_of s)) rs r (r ∷ []) (apart_beside (with_path paths (item_of s)) rs) → Goes paths rs r (r ∷ []) (apart_beside paths rs)
        → (b : Bool) → is_free paths (item_of s) ≡ b → Goes paths (s ∷ rs) r (r ∷ []) (apart_beside paths (s ∷ rs))
    go kept left true e =
        let later : List (List ℕ) = with_path paths (item_of s) in
        let rest : List Restored = apart_beside later rs in
        subst (λ (ks : List Restored). Goes paths (s ∷ rs) r (r ∷ []) ks) (sym ((kept_first paths s rs e).0))
        ((kept_first paths s (rs ++ r ∷ []) e).0 ∙ ap (λ (ks : List Restored). s ∷ ks) kept ∙ front (is_free (noted later rest) (item_of r)) s (rest ++ r ∷ []) rest)
    go kept left false e =
        subst (λ (ks : List Restored). Goes paths (s ∷ rs) r (r ∷ []) ks) (sym ((left_first paths s rs e).0)) ((left_first paths s (rs ++ r ∷ []) e).0 ∙ left)

-- ---- the paths of what is kept

or_false : (b : Bool) → b ≡ (b || false)
or_false true = refl
or_false false = refl

or_swapped : (a b c : Bool) → ((a || b) || c) ≡ (b || (a || c))
or_swapped true true c = refl
or_swapped true false c = refl
or_swapped false true c = refl
or_swapped false false c = refl

noted_any : (p : List ℕ → Bool) (paths : List (List ℕ)) (ks : List Restored) → list_any p (noted paths ks) ≡ (list_any p paths || list_any p (paths_in ks))
unfolding noted
noted_any p paths [] = or_false (list_any p paths)
noted_any p paths (k ∷ ks) = go (noted_any p (with_path paths (item_of k)) ks) (item_of k) refl
  where
    go : list_any p (noted (with_path paths (item_of k)) ks) ≡ (list_any p (with_path paths (item_of k)) || list_any p (paths_in ks))
        → (o : Option Item) → item_of k ≡ o → list_any p (noted paths (k ∷ ks)) ≡ (list_any p paths || list_any p (paths_in (k ∷ ks)))
    go more None e =
        more ∙ ap (λ (o : Option Item). list_any p (with_path paths o) || list_any p (paths_in ks)) e
        ∙ ap (λ (is : List Item). list_any p paths || list_any p (map (λ (i : Item). i.path) is)) (sym (items_none k ks e))
    go more (Some item) e =
        more ∙ ap (λ (o : Option Item). list_any p (with_path paths o) || list_any p (paths_in ks)) e
        ∙ or_swapped (p item.path) (list_any p paths) (list_any p (paths_in ks))
        ∙ ap (λ (is : List Item). list_any p paths || list_any p (map (λ (i : Item). i.path) is)) (sym (items_some k ks item e))

free_is : (o : Option Item) (ks : List Restored) → is_free (noted [] ks) o ≡ is_free (paths_in ks) o
free_is None ks = refl
free_is (Some item) ks = ap not (noted_any (in_the_way item.path) [] ks)

pub apart_goes_on_lem : ApartGoesOn
unfolding Goes
apart_goes_on_lem rs r = goes_on [] rs r ∙ ap (λ (b : Bool). cond b (apart rs ++ r ∷ []) (apart rs)) (free_is (item_of r) (apart rs))
