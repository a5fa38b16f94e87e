-- Each step keeps the rule of the queue of batches.
use Rattle.std.proofs.Common.{◌≡◌, ◌≢◌, ◌⊎◌, ℕ, zero, suc, ◌+◌, ◌-◌, ◌<◌, ◌≤◌, true, false, true≢false, List, [], ◌∷◌, ◌++◌, length, set, sym, refl, ap, ◌∙◌, subst, ⊎_elim, inl, inr, append_assoc, arith}
use Rattle.std.proofs.lemmas.List.{append-nil}
use mathlib.Core.Option.{some, some-ne-none, some-injective}
use lib.ListN.{get_elem?}
use Rattle.crossbeam_queue.specs.Fifo.{Pushes, Pops, Forks, Merges, Learns}
use Rattle.crossbeam_queue.proofs.Lists.{at_set, at_snoc, set_here, set_else}
use Rattle.br_match.specs.declared.hit.Batch.{Batch}
use Rattle.br_pool.specs.declared.batch_queue.Crew.{Crew}
use Rattle.br_pool.specs.Crew.{crew, Has, HasAll, FitsCrew, IsKept, TellsAll, parts_of, pushed_of}

-- ---- batches in lists

pub has_left : (b : Batch) (xs ys : List Batch) → Has b xs → Has b (xs ++ ys)
has_left b [] ys h = absurd h
has_left b (x ∷ xs) ys (inl e) = inl e
has_left b (x ∷ xs) ys (inr h) = inr (has_left b xs ys h)

pub has_right : (b : Batch) (xs ys : List Batch) → Has b ys → Has b (xs ++ ys)
has_right b [] ys h = h
has_right b (x ∷ xs) ys h = inr (has_right b xs ys h)

pub has_split : (b : Batch) (xs ys : List Batch) → Has b (xs ++ ys) → Has b xs ⊎ Has b ys
has_split b [] ys h = inr h
has_split b (x ∷ xs) ys (inl e) = inl (inl e)
has_split b (x ∷ xs) ys (inr h) = ⊎_elim (λ (a : Has b xs). inl (inr a)) (λ (a : Has b ys). inr a) (has_split b xs ys h)

has_both : (b : Batch) (xs ys zs : List Batch) → (Has b xs → Has b zs) → (Has b ys → Has b zs) → Has b (xs ++ ys) → Has b zs
has_both b xs ys zs f g h = ⊎_elim f g (has_split b xs ys h)

-- ---- what all passes pushed

pushed_at : (views : List Crew) (j : ℕ) (v : Crew) → get_elem? views j ≡ some v → HasAll v.pushed (pushed_of views)
pushed_at [] j v at = absurd (some-ne-none v (sym at))
pushed_at (u ∷ us) zero v at = λ b h. has_left b u.pushed (pushed_of us) (subst (λ (y : Crew). Has b y.pushed) (sym (some-injective u v at)) h)
pushed_at (u ∷ us) (suc j) v at = λ b h. has_right b u.pushed (pushed_of us) (pushed_at us j v at b h)

-- what was pushed by a pass that changed, or by the passes as they are now
pushed_set : (views : List Crew) (j : ℕ) (v w : Crew) → get_elem? views j ≡ some v → (b : Batch) → Has b (pushed_of views) → Has b v.pushed ⊎ Has b (pushed_of (set views j w))
pushed_set [] j v w at b h = absurd h
pushed_set (u ∷ us) zero v w at b h =
    ⊎_elim (λ (a : Has b u.pushed). inl (subst (λ (y : Crew). Has b y.pushed) (some-injective u v at) a)) (λ (a : Has b (pushed_of us)). inr (has_right b w.pushed (pushed_of us) a)) (has_split b u.pushed (pushed_of us) h)
pushed_set (u ∷ us) (suc j) v w at b h =
    ⊎_elim (λ (a : Has b u.pushed). inr (has_left b u.pushed (pushed_of (set us j w)) a))
    (λ (a : Has b (pushed_of us)). ⊎_elim (λ (p : Has b v.pushed). inl p) (λ (q : Has b (pushed_of (set us j w))). inr (has_right b u.pushed (pushed_of (set us j w)) q)) (pushed_set us j v w at b a))
    (has_split b u.pushed (pushed_of us) h)

pushed-snoc : (views : List Crew) (w : Crew) → HasAll (pushed_of views) (pushed_of (views ++ w ∷ []))
pushed-snoc [] w = λ b h. absurd h
pushed-snoc (u ∷ us) w = λ b h.
    has_both b u.pushed (pushed_of us) (u.pushed ++ pushed_of (us ++ w ∷ [])) (has_left b u.pushed (pushed_of (us ++ w ∷ []))) (λ a. has_right b u.pushed (pushed_of (us ++ w ∷ [])) (pushed-snoc us w b a)) h

inside : (views : List Crew) (j : ℕ) (v : Crew) → get_elem? views j ≡ some v → j < length views
inside [] j v at = absurd (some-ne-none v (sym at))
inside (u ∷ us) zero v at = omega arith
inside (u ∷ us) (suc j) v at = let e = inside us j v at in omega (arith, e)

-- the view that was put at a place
put_here : (views : List Crew) (j : ℕ) (v w : Crew) → get_elem? views j ≡ some v → get_elem? (set views j w) j ≡ some w
put_here views j v w at = set_here views j w (inside views j v at)

-- a pass that knows at least what it knew
more_pushed : (views : List Crew) (j : ℕ) (v w : Crew) → get_elem? views j ≡ some v → HasAll v.pushed w.pushed → HasAll (pushed_of views) (pushed_of (set views j w))
more_pushed views j v w at more b h =
    ⊎_elim (λ (p : Has b v.pushed). pushed_at (set views j w) j w (put_here views j v w at) b (more b p)) (λ (q : Has b (pushed_of (set views j w))). q) (pushed_set views j v w at b h)

-- ---- parts

parts_set : (views : List Crew) (j : ℕ) (v w : Crew) → get_elem? views j ≡ some v → parts_of (set views j w) + v.parts ≡ parts_of views + w.parts
parts_set [] j v w at = absurd (some-ne-none v (sym at))
parts_set (u ∷ us) zero v w at = let e : u.parts ≡ v.parts = ap (λ (y : Crew). y.parts) (some-injective u v at) in omega (arith, e)
parts_set (u ∷ us) (suc j) v w at = let e = parts_set us j v w at in omega (arith, e)

parts-snoc : (views : List Crew) (w : Crew) → parts_of (views ++ w ∷ []) ≡ parts_of views + w.parts
parts-snoc [] w = omega arith
parts-snoc (u ∷ us) w = let e = parts-snoc us w in omega (arith, e)

parts_at : (views : List Crew) (j : ℕ) (v : Crew) → get_elem? views j ≡ some v → v.parts ≤ parts_of views
parts_at [] j v at = absurd (some-ne-none v (sym at))
parts_at (u ∷ us) zero v at = let e : u.parts ≡ v.parts = ap (λ (y : Crew). y.parts) (some-injective u v at) in omega (arith, e)
parts_at (u ∷ us) (suc j) v at = let e = parts_at us j v at in omega (arith, e)

-- if no pass has a part, nothing is known to be pushed
none_pushed : (views : List Crew) → parts_of views ≡ 0 → ((j : ℕ) (u : Crew) → get_elem? views j ≡ some u → u.parts ≡ 0 → u.pushed ≡ []) → (b : Batch) → Has b (pushed_of views) → ⊥
none_pushed [] none idle b h = h
none_pushed (u ∷ us) none idle b h =
    has_both b u.pushed (pushed_of us) [] (λ a. subst (λ (l : List Batch). Has b l) (idle 0 u refl (omega (arith, none))) a) (none_pushed us (omega (arith, none)) (λ j v at. idle (suc j) v at) b) h

-- if one pass has all parts, it knows all that was pushed
sole_pushed : (views : List Crew) (j : ℕ) (v : Crew) → get_elem? views j ≡ some v → parts_of views ≡ v.parts → ((j : ℕ) (u : Crew) → get_elem? views j ≡ some u → u.parts ≡ 0 → u.pushed ≡ [])
    → HasAll (pushed_of views) v.pushed
sole_pushed [] j v at all idle b h = absurd h
sole_pushed (u ∷ us) zero v at all idle b h =
    let same : u.parts ≡ v.parts = ap (λ (y : Crew). y.parts) (some-injective u v at) in
    has_both b u.pushed (pushed_of us) v.pushed (subst (λ (y : Crew). Has b y.pushed) (some-injective u v at)) (λ a. absurd (none_pushed us (omega (arith, all, same)) (λ j w at. idle (suc j) w at) b a)) h
sole_pushed (u ∷ us) (suc j) v at all idle b h =
    let most = parts_at us j v at in
    has_both b u.pushed (pushed_of us) v.pushed (λ a. absurd (subst (λ (l : List Batch). Has b l) (idle 0 u refl (omega (arith, all, most))) a))
    (sole_pushed us j v at (omega (arith, all, most)) (λ j w at. idle (suc j) w at) b) h

-- ---- one view

fits_set : (F : ℕ → Crew → Type 0) (views : List Crew) (port : ℕ) (w : Crew) → F port w → ((j : ℕ) (u : Crew) → j ≢ port → get_elem? views j ≡ some u → F j u)
    → (j : ℕ) (u : Crew) → get_elem? (set views port w) j ≡ some u → F j u
fits_set F views port w mine others j u e =
    ⊎_elim (λ (x : (j ≡ port) × (w ≡ u)). subst (λ (y : ℕ × Crew). F y.0 y.1) (λ i. (sym x.0 i, x.1 i)) mine) (λ (x : (j ≢ port) × (get_elem? views j ≡ some u)). others j u x.0 x.1) (at_set views port j w u e)

-- ---- the six kinds of step

first_fits : (j : ℕ) (u : Crew) → get_elem? (crew true 65536 [] [] ∷ []) j ≡ some u → FitsCrew 0 [] [] j u
first_fits zero u e =
    subst (λ (y : Crew). FitsCrew 0 [] [] 0 y) (some-injective (crew true 65536 [] []) u e) (record { gathers = λ _. (refl, refl); pushed = λ b a. a; idle = λ _. refl })
first_fits (suc j) u e = absurd (some-ne-none u (sym e))

pub begins : IsKept [] (crew true 65536 [] [] ∷ [])
begins = record { gatherer = 0; got = []; parts = refl; from = λ b h. absurd h; fits = first_fits }

pub sends : (n port : ℕ) (v : Crew) (x : Batch) → 0 < v.parts → Pushes IsKept n port v x (λ w. w ≡ crew v.gathers v.parts (v.pushed ++ x ∷ []) v.popped)
sends n port v x part items views room h at =
    let w : Crew = crew v.gathers v.parts (v.pushed ++ x ∷ []) v.popped in
    let mine = h.fits port v at in
    let kept = parts_set views port v w at in
    let more : (b : Batch) → Has b (h.got ++ items) → Has b (h.got ++ (items ++ x ∷ [])) =
    λ b a. subst (λ (l : List Batch). Has b l) (append_assoc h.got items (x ∷ [])) (has_left b (h.got ++ items) (x ∷ []) a) in (
      w,
      record {
        gatherer = h.gatherer;
        got = h.got;
        parts = omega (arith, kept, h.parts);
        from = λ b a. has_both b (h.got ++ items) (x ∷ []) (pushed_of (set views port w))
            (λ p. more_pushed views port v w at (λ c q. has_left c v.pushed (x ∷ []) q) b (h.from b p))
            (λ p. pushed_at (set views port w) port w (put_here views port v w at) b (has_right b v.pushed (x ∷ []) p))
            (subst (λ (l : List Batch). Has b l) (sym (append_assoc h.got items (x ∷ []))) a);
        fits = fits_set (FitsCrew h.gatherer h.got (items ++ x ∷ [])) views port w
            (record {
              gathers = mine.gathers;
              pushed = λ b a. has_both b v.pushed (x ∷ []) (h.got ++ (items ++ x ∷ [])) (λ l. more b (mine.pushed b l)) (λ r. has_right b h.got (items ++ x ∷ []) (has_right b items (x ∷ []) r)) a;
              idle = λ none. absurd (omega (arith, part, none));
            })
            (λ j u other e. record { gathers = (h.fits j u e).gathers; pushed = λ b a. more b ((h.fits j u e).pushed b a); idle = (h.fits j u e).idle });
      },
      refl,
    )

pub takes : (port : ℕ) (v : Crew) → v.gathers ≡ true → Pops IsKept port v (λ x w. w ≡ crew v.gathers v.parts v.pushed (v.popped ++ x ∷ []))
takes port v may x items views h at =
    let w : Crew = crew v.gathers v.parts v.pushed (v.popped ++ x ∷ []) in
    let mine = h.fits port v at in
    let got = h.got ++ x ∷ [] in
    let kept = parts_set views port v w at in
    let moved : (b : Batch) → Has b (h.got ++ x ∷ items) → Has b (got ++ items) = λ b a. subst (λ (l : List Batch). Has b l) (sym (append_assoc h.got (x ∷ []) items)) a in (
      w,
      record {
        gatherer = h.gatherer;
        got = got;
        parts = omega (arith, kept, h.parts);
        from = λ b a. more_pushed views port v w at (λ c q. q) b (h.from b (subst (λ (l : List Batch). Has b l) (append_assoc h.got (x ∷ []) items) a));
        fits = fits_set (FitsCrew h.gatherer got items) views port w
            (record { gathers = λ _. ((mine.gathers may).0, ap (λ l. l ++ x ∷ []) (mine.gathers may).1); pushed = λ b a. moved b (mine.pushed b a); idle = mine.idle })
            (λ j u other e. record {
              gathers = λ p. absurd (other (((h.fits j u e).gathers p).0 ∙ sym (mine.gathers may).0));
              pushed = λ b a. moved b ((h.fits j u e).pushed b a);
              idle = (h.fits j u e).idle;
            });
      },
      refl,
    )

pub forks : (port : ℕ) (v : Crew) → 1 < v.parts → Forks IsKept port v (crew v.gathers (v.parts - 1) v.pushed v.popped) (crew false 1 [] [])
forks port v two items views h at =
    let l : Crew = crew v.gathers (v.parts - 1) v.pushed v.popped in
    let r : Crew = crew false 1 [] [] in
    let vs : List Crew = set views port l in
    let mine = h.fits port v at in
    let kept = parts_set views port v l at in
    let whole = parts-snoc vs r in record {
      gatherer = h.gatherer;
      got = h.got;
      parts = omega (arith, kept, whole, h.parts, two);
      from = λ b a. pushed-snoc vs r b (more_pushed views port v l at (λ c q. q) b (h.from b a));
      fits = λ j u e.
          ⊎_elim
          (fits_set (FitsCrew h.gatherer h.got items) views port l (record { gathers = mine.gathers; pushed = mine.pushed; idle = λ none. absurd (omega (arith, two, none)) }) (λ j u other e. h.fits j u e) j u)
          (λ (is : r ≡ u). subst (λ (y : Crew). FitsCrew h.gatherer h.got items j y) is (record { gathers = λ p. absurd (true≢false (sym p)); pushed = λ b a. absurd a; idle = λ _. refl })) (at_snoc vs r u j e);
    }

pub merges : (port : ℕ) (v : Crew) (other : ℕ) (u : Crew) → Merges IsKept port v other u (crew v.gathers (v.parts + u.parts) (v.pushed ++ u.pushed) v.popped) (crew false 0 [] [])
merges port v other u items views h at two at' =
    let both : Crew = crew v.gathers (v.parts + u.parts) (v.pushed ++ u.pushed) v.popped in
    let spent : Crew = crew false 0 [] [] in
    let mine = h.fits port v at in
    let vs : List Crew = set views port both in
    let was : get_elem? views other ≡ some u =
    ⊎_elim (λ (x : (other ≡ port) × (both ≡ u)). absurd (two x.0)) (λ (x : (other ≢ port) × (get_elem? views other ≡ some u)). x.1) (at_set views port other both u at') in
    let theirs = h.fits other u was in
    let first = parts_set views port v both at in
    let second = parts_set vs other u spent at' in
    let here : get_elem? (set vs other spent) port ≡ some both = set_else vs other port spent (λ e. two (sym e)) ∙ put_here views port v both at in record {
      gatherer = h.gatherer;
      got = h.got;
      parts = omega (arith, first, second, h.parts);
      from = λ b a.
          ⊎_elim (λ (p : Has b u.pushed). pushed_at (set vs other spent) port both here b (has_right b v.pushed u.pushed p)) (λ (q : Has b (pushed_of (set vs other spent))). q)
          (pushed_set vs other u spent at' b (more_pushed views port v both at (λ c q. has_left c v.pushed u.pushed q) b (h.from b a)));
      fits = fits_set (FitsCrew h.gatherer h.got items) vs other spent (record { gathers = λ p. absurd (true≢false (sym p)); pushed = λ b a. absurd a; idle = λ _. refl })
          (λ j y _ e. fits_set (FitsCrew h.gatherer h.got items) views port both
          (record {
            gathers = mine.gathers;
            pushed = λ b a. has_both b v.pushed u.pushed (h.got ++ items) (mine.pushed b) (theirs.pushed b) a;
            idle = λ none. ap (λ l. l ++ u.pushed) (mine.idle (omega (arith, none))) ∙ theirs.idle (omega (arith, none));
          })
          (λ j y _ e. h.fits j y e) j y e);
    }

pub learns : (port : ℕ) (v : Crew) → v.gathers ≡ true → Learns IsKept port v (TellsAll v)
learns port v may items views h at =
    let mine = h.fits port v at in
    let got : v.popped ++ items ≡ h.got ++ items = ap (λ l. l ++ items) (mine.gathers may).1 in (
      λ b a. subst (λ (l : List Batch). Has b l) (sym got) (mine.pushed b a),
      λ all b a. sole_pushed views port v at (h.parts ∙ sym all) (λ j u e. (h.fits j u e).idle) b (h.from b (subst (λ (l : List Batch). Has b l) got a)),
    )

-- ---- an empty queue

nothing : (items : List Batch) → length items ≡ 0 → items ≡ []
nothing [] e = refl
nothing (x ∷ xs) e = absurd (omega (arith, e))

-- what follows from an empty queue
pub none_left : (v : Crew) → (items : List Batch) × (length items ≡ 0) × TellsAll v items → TellsAll v []
none_left v held = subst (λ (l : List Batch). TellsAll v l) (nothing held.0 held.1) held.2

pub all_popped : (v : Crew) → TellsAll v [] → HasAll v.pushed v.popped
all_popped v h = λ b a. subst (λ (l : List Batch). Has b l) (append-nil v.popped) (h.0 b a)

pub no_other : (v : Crew) → TellsAll v [] → v.parts ≡ 65536 → HasAll v.popped v.pushed
no_other v h all = λ b a. h.1 all b (subst (λ (l : List Batch). Has b l) (sym (append-nil v.popped)) a)
