-- Blocks that are dealt out one after another.
use Rattle.std.proofs.Common.{◌≡◌, ℕ, zero, suc, ◌+◌, List, [], ◌∷◌, ◌++◌, length, take, drop, map, min, refl, sym, ap, ◌∙◌, append_assoc, add-one, inl, inr, arith}
use Rattle.std.proofs.lemmas.Bool.{cases_lt}
use Rattle.std.proofs.lemmas.List.{take_all, drop_all, map-append, length-map, take-append-drop, append-nil, length-take}
use Rattle.br_model.specs.Session.{Place, Visit, onto_visits, visits}
use Rattle.br_model.proofs.ListLaws.{cons_not_empty}
use Rattle.br_session.specs.Spans.{share, with_volumes}

-- one more from what is left
one_taken : {X : Type 0} (xs rest : List X) (k : ℕ) (x : X) → drop k xs ≡ x ∷ rest → (take (suc k) xs ≡ take k xs ++ x ∷ []) × (drop (suc k) xs ≡ rest)
one_taken [] rest zero x next = absurd cc
one_taken [] rest (suc k) x next = absurd cc
one_taken {X} (y ∷ xs) rest zero x next =
    let first : y ≡ x = cc in
    let others : xs ≡ rest = cc in (ap (λ (z : X). z ∷ []) first, others)
one_taken (y ∷ xs) rest (suc k) x next =
    let more = one_taken xs rest k x next in (ap (λ (zs : List _). y ∷ zs) more.0, more.1)

pub next_taken : {X : Type 0} (xs rest : List X) (k : ℕ) (x : X) → drop k xs ≡ x ∷ rest → (take (k + 1) xs ≡ take k xs ++ x ∷ []) × (drop (k + 1) xs ≡ rest)
next_taken xs rest k x next = rw add-one (one_taken xs rest k x next)

-- a block more goes to a volume
pub placed_more : {V B : Type 0} (old placed new : List (V × B)) (blocks rest : List B) (volume copy : V) (block : B) (k : ℕ)
    → placed ≡ old ++ map (λ b. (volume, b)) (take k blocks) → drop k blocks ≡ block ∷ rest → copy ≡ volume → new ≡ placed ++ (copy, block) ∷ []
    → new ≡ old ++ map (λ b. (volume, b)) (take (k + 1) blocks)
placed_more {V} {B} old placed new blocks rest volume copy block k so_far next same put =
    let pair : B → V × B = λ b. (volume, b) in
    let taken = next_taken blocks rest k block next in
    put ∙ ap (λ v. placed ++ (v, block) ∷ []) same ∙ ap (λ (ps : List (V × B)). ps ++ (volume, block) ∷ []) so_far ∙ append_assoc old (map pair (take k blocks)) ((volume, block) ∷ [])
    ∙ ap (λ (ps : List (V × B)). old ++ ps) (sym (map-append pair (take k blocks) (block ∷ [])) ∙ ap (map pair) (sym taken.0))

-- ---- the places that are left

-- the first place takes its share, and the others what is left
pub visits_more : (p : Place) (more : List Place) (blocks : List (List ℕ))
    → visits (p ∷ more) blocks ≡ onto_visits (record { volume = p.volume; blocks = take (share p more (length blocks)) blocks }) (visits more (drop (share p more (length blocks)) blocks))
unfolding visits
visits_more p [] blocks = ap (λ (bs : List (List ℕ)). onto_visits (record { volume = p.volume; blocks = bs }) []) (sym (take_all (length blocks) blocks (omega arith)))
visits_more p (q ∷ more) blocks =
    let cut = cut_within p.blocks blocks in
    ap (λ (bs : List (List ℕ)). onto_visits (record { volume = p.volume; blocks = bs }) (visits (q ∷ more) (drop p.blocks blocks))) (sym cut.0)
    ∙ ap (λ (bs : List (List ℕ)). onto_visits (record { volume = p.volume; blocks = take (min (length blocks) p.blocks) blocks }) (visits (q ∷ more) bs)) (sym cut.1)
  where
    cut_within : {X : Type 0} (n : ℕ) (xs : List X) → (take (min (length xs) n) xs ≡ take n xs) × (drop (min (length xs) n) xs ≡ drop n xs)
    cut_within n xs = elim (cases_lt n (length xs)) [
      | inl lt ↦ let same : min (length xs) n ≡ n = omega (arith, lt) in (ap (λ k. take k xs) same, ap (λ k. drop k xs) same)
      | inr le ↦
          let same : min (length xs) n ≡ length xs = omega (arith, le) in
          (ap (λ k. take k xs) same ∙ take_all (length xs) xs (omega arith) ∙ sym (take_all n xs le), ap (λ k. drop k xs) same ∙ drop_all (length xs) xs (omega arith) ∙ sym (drop_all n xs le))
    ]

pub no_visits : (blocks : List (List ℕ)) → visits [] blocks ≡ []
unfolding visits
no_visits blocks = refl

-- a visit brings its blocks, if it has any
pub brought : (v : Visit) (more : List Visit) → with_volumes (onto_visits v more) ≡ map (λ block. (v.volume, block)) v.blocks ++ with_volumes more
brought v more = by_blocks v.blocks
  where
    by_blocks : (blocks : List (List ℕ)) → with_volumes (onto_visits (record { volume = v.volume; blocks = blocks }) more) ≡ map (λ block. (v.volume, block)) blocks ++ with_volumes more
    by_blocks [] = refl
    by_blocks (b ∷ bs) = rw (cons_not_empty b bs) refl

-- a list is cut at the length of its front
at_front : {X : Type 0} (xs ys : List X) → (take (length xs) (xs ++ ys) ≡ xs) × (drop (length xs) (xs ++ ys) ≡ ys)
at_front [] ys = (refl, refl)
at_front (x ∷ xs) ys = let more = at_front xs ys in (ap (λ (zs : List _). x ∷ zs) more.0, more.1)

-- the blocks that the first place takes, and those after them
pub visits_cut : (p : Place) (more : List Place) (taken behind : List (List ℕ)) → length taken ≡ share p more (length (taken ++ behind))
    → visits (p ∷ more) (taken ++ behind) ≡ onto_visits (record { volume = p.volume; blocks = taken }) (visits more behind)
visits_cut p more taken behind is =
    let cut = at_front taken behind in
    visits_more p more (taken ++ behind)
    ∙ ap (λ n. onto_visits (record { volume = p.volume; blocks = take n (taken ++ behind) }) (visits more (drop n (taken ++ behind)))) (sym is)
    ∙ ap (λ (bs : List (List ℕ)). onto_visits (record { volume = p.volume; blocks = bs }) (visits more (drop (length taken) (taken ++ behind)))) cut.0
    ∙ ap (λ (bs : List (List ℕ)). onto_visits (record { volume = p.volume; blocks = taken }) (visits more bs)) cut.1

-- the results of a map are cut at the places at which its elements are
pub images_cut : {X : Type 0} (f : X → List ℕ) (n : ℕ) (xs : List X) → map f xs ≡ map f (take n xs) ++ map f (drop n xs)
images_cut f n xs = ap (map f) (sym (take-append-drop n xs)) ∙ map-append f (take n xs) (drop n xs)

-- a share is no more than what is left
length_of_share : {X : Type 0} (p : Place) (more : List Place) (n : ℕ) (xs : List X) → n ≡ share p more (length xs) → length (take n xs) ≡ share p more (length xs)
length_of_share p [] n xs is = omega (arith, length-take n xs, is)
length_of_share p (q ∷ more) n xs is = omega (arith, length-take n xs, is)

-- ---- one place more

-- the blocks so far, with those that the next place takes
pub dealt_more : {B : Type 0} (f : B → List ℕ) (placed new : List (List ℕ × B)) (left more : List Place) (p : Place) (volume : List ℕ) (blocks rest : List B) (n count : ℕ) (all : List (List ℕ × List ℕ))
    → map (λ (b : List ℕ × B). (b.0, f b.1)) placed ++ with_volumes (visits left (map f blocks)) ≡ all → left ≡ p ∷ more → volume ≡ p.volume → n ≡ share p more count → count ≡ length blocks
    → new ≡ placed ++ map (λ b. (volume, b)) (take n blocks) → rest ≡ drop n blocks
    → map (λ (b : List ℕ × B). (b.0, f b.1)) new ++ with_volumes (visits more (map f rest)) ≡ all
dealt_more {B} f placed new left more p volume blocks rest n count all so_far next named counted count_is put behind =
    let show : List ℕ × B → List ℕ × List ℕ = λ b. (b.0, f b.1) in
    let pair : B → List ℕ × B = λ b. (volume, b) in
    let brought_here : map show (map pair (take n blocks)) ≡ map (λ (block : List ℕ). (p.volume, block)) (map f (take n blocks)) = rw named (shown p.volume (take n blocks)) in
    let share_is : length (map f (take n blocks)) ≡ share p more (length (map f (take n blocks) ++ map f (drop n blocks))) =
    length-map (take n blocks) f ∙ length_of_share p more n blocks (counted ∙ ap (share p more) count_is) ∙ ap (share p more) (sym (length-map blocks f) ∙ ap length (images_cut f n blocks)) in
    let here = ap (λ (ps : List Place). with_volumes (visits ps (map f blocks))) next ∙ ap (λ (bs : List (List ℕ)). with_volumes (visits (p ∷ more) bs)) (images_cut f n blocks)
    ∙ ap with_volumes (visits_cut p more (map f (take n blocks)) (map f (drop n blocks)) share_is) ∙ brought (record { volume = p.volume; blocks = map f (take n blocks) }) (visits more (map f (drop n blocks))) in
    rw (put, behind) (rw map-append (append_assoc (map show placed) (map show (map pair (take n blocks))) (with_volumes (visits more (map f (drop n blocks))))
    ∙ ap (λ (bs : List (List ℕ × List ℕ)). map show placed ++ (bs ++ with_volumes (visits more (map f (drop n blocks))))) brought_here
    ∙ ap (λ (bs : List (List ℕ × List ℕ)). map show placed ++ bs) (sym here) ∙ so_far))
  where
    shown : (v : List ℕ) (bs : List B) → map (λ (b : List ℕ × B). (b.0, f b.1)) (map {B = List ℕ × B} (λ b. (v, b)) bs) ≡ map {B = List ℕ × List ℕ} (λ block. (v, block)) (map f bs)
    shown v [] = refl
    shown v (b ∷ bs) = ap (λ (cs : List (List ℕ × List ℕ)). (v, f b) ∷ cs) (shown v bs)

pub dealt_all : {B : Type 0} (f : B → List ℕ) (placed : List (List ℕ × B)) (left : List Place) (blocks : List B) (all : List (List ℕ × List ℕ))
    → map (λ (b : List ℕ × B). (b.0, f b.1)) placed ++ with_volumes (visits left (map f blocks)) ≡ all → length left ≡ 0 → map (λ (b : List ℕ × B). (b.0, f b.1)) placed ≡ all
dealt_all {B} f placed [] blocks all so_far none =
    let nothing : with_volumes (visits [] (map f blocks)) ≡ [] = ap with_volumes (no_visits (map f blocks)) in
    sym (append-nil (map (λ (b : List ℕ × B). (b.0, f b.1)) placed)) ∙ ap (λ (bs : List (List ℕ × List ℕ)). map (λ (b : List ℕ × B). (b.0, f b.1)) placed ++ bs) (sym nothing) ∙ so_far
dealt_all {B} f placed (p ∷ left) blocks all so_far none = absurd (omega (arith, none))
