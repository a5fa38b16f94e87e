-- Readers over several rounds, and their drives in their places.
use Rattle.std.proofs.Common.{◌≡◌, ℕ, ◌<◌, Bool, true, false, List, [], ◌∷◌, map, reverse, Option, refl, ap, sym, subst, ◌∙◌, arith}
use Rattle.std.specs.List.{AllByRecursion, AllZip}
use Rattle.br_model.specs.Volume.{Volume}
use Rattle.br_model.specs.Meaning.{Piece}
use Rattle.br_volume.proofs.ExtendLaws.{grows_itself, grows_more}
use Rattle.br_pool.specs.Pool.{StandsTold}
use Rattle.br_pool.specs.Workers.{HasServed}
use Rattle.br_pool.proofs.ListLaws.{map_map, map_reverse, reverse_reverse, zip_itself, zip_map, zip_reverse, zip_trans}
use Rattle.br_pool.proofs.AnswerLaws.{told_from, told_so_far}

clash : (b : Bool) → b ≡ false → b ≡ true → ⊥
clash true p q = absurd cc
clash false p q = absurd cc

pub served_itself : (shown : Option (List Volume)) (fails : ℕ) (out : Bool) → HasServed shown shown fails fails out out
served_itself shown fails out = record {
  grows = grows_itself shown;
  counted = omega arith;
  stays = λ e. e;
  risen = λ p q. absurd (clash out p q);
}

pub served_more : (a b c : Option (List Volume)) (k m n : ℕ) (x y z : Bool) → HasServed a b k m x y → HasServed b c m n y z → HasServed a c k n x z
served_more a b c k m n x y z first next = record {
  grows = grows_more a b c first.grows next.grows;
  counted = let p = first.counted in let q = next.counted in omega (arith, p, q);
  stays = λ e. next.stays (first.stays e);
  risen = λ p q. by_middle y refl p q;
}
  where
    by_middle : (o : Bool) → y ≡ o → x ≡ false → z ≡ true → k < n
    by_middle true e p q = let low = first.risen p e in let same = next.counted in omega (arith, low, same)
    by_middle false e p q = let low = next.risen e q in let same = first.counted in omega (arith, low, same)

module _ {R : Type 0} (shows : R → Option (List Volume)) (fails : R → ℕ) (out : R → Bool) where
  -- a reader before and after
  abbrev pub Goes : R → R → Type 0
  Goes r s = HasServed (shows r) (shows s) (fails r) (fails s) (out r) (out s)

  pub all_served : (rs : List R) → AllZip Goes rs rs
  all_served rs = zip_itself Goes (λ r. served_itself (shows r) (fails r) (out r)) rs

  pub served_on : (rs ss ts : List R) → AllZip Goes rs ss → AllZip Goes ss ts → AllZip Goes rs ts
  served_on rs ss ts p q =
      zip_trans Goes Goes Goes (λ r s t a b. served_more (shows r) (shows s) (shows t) (fails r) (fails s) (fails t) (out r) (out s) (out t) a b) rs ss ts p q

  -- over the whole time, thus until the middle
  pub stand_so_far : (pieces : List Piece) (volumes : List Volume) (rs ss ts : List R) → AllZip Goes rs ss → AllZip Goes ss ts
      → AllZip (StandsTold pieces volumes) (map shows rs) (map shows ts) → AllZip (StandsTold pieces volumes) (map shows rs) (map shows ss)
  stand_so_far pieces volumes [] [] [] p q told = tt
  stand_so_far pieces volumes [] [] (t ∷ ts) p q told = absurd q
  stand_so_far pieces volumes [] (s ∷ ss) ts p q told = absurd p
  stand_so_far pieces volumes (r ∷ rs) [] ts p q told = absurd p
  stand_so_far pieces volumes (r ∷ rs) (s ∷ ss) [] p q told = absurd q
  stand_so_far pieces volumes (r ∷ rs) (s ∷ ss) (t ∷ ts) p q told =
      (told_so_far pieces volumes (shows r) (shows s) (shows t) p.0.grows q.0.grows told.0, stand_so_far pieces volumes rs ss ts p.1 q.1 told.1)

  -- and from the middle on
  pub stand_from : (pieces : List Piece) (volumes : List Volume) (rs ss ts : List R) → AllZip Goes rs ss → AllZip Goes ss ts
      → AllZip (StandsTold pieces volumes) (map shows rs) (map shows ts) → AllZip (StandsTold pieces volumes) (map shows ss) (map shows ts)
  stand_from pieces volumes [] [] [] p q told = tt
  stand_from pieces volumes [] [] (t ∷ ts) p q told = absurd q
  stand_from pieces volumes [] (s ∷ ss) ts p q told = absurd p
  stand_from pieces volumes (r ∷ rs) [] ts p q told = absurd p
  stand_from pieces volumes (r ∷ rs) (s ∷ ss) [] p q told = absurd q
  stand_from pieces volumes (r ∷ rs) (s ∷ ss) (t ∷ ts) p q told =
      (told_from pieces volumes (shows r) (shows s) (shows t) p.0.grows q.0.grows told.0, stand_from pieces volumes rs ss ts p.1 q.1 told.1)

  -- those that went out failed
  pub all_risen : (rs ss : List R) → AllZip Goes rs ss → AllByRecursion (λ (r : R). out r ≡ false) rs → AllByRecursion (λ (b : Bool). b ≡ true) (map out ss)
      → AllZip (λ (r s : R). fails r < fails s) rs ss
  all_risen [] [] z fresh gone = tt
  all_risen [] (s ∷ ss) z fresh gone = absurd z
  all_risen (r ∷ rs) [] z fresh gone = absurd z
  all_risen (r ∷ rs) (s ∷ ss) z fresh gone = (z.0.risen fresh.0 gone.0, all_risen rs ss z.1 fresh.1 gone.1)

-- ---- the drives, in their places

module _ {R D : Type 0} (drive : R → D) where
  -- what holds of the drives of readers, from the last to the first, holds of the drives
  pub zip_back : (Q : D → D → Type 0) (rs ss : List R) (before after : List D) → reverse (map drive rs) ≡ before → after ≡ reverse (map drive ss)
      → AllZip (λ (r s : R). Q (drive r) (drive s)) rs ss → AllZip Q before after
  zip_back Q rs ss before after p q z =
      subst (λ l. AllZip Q l after) p
      (subst (λ l. AllZip Q (reverse (map drive rs)) l) (sym q) (zip_reverse Q (map drive rs) (map drive ss) (zip_map Q drive rs ss z)))

  turned : {B : Type 0} (f : D → B) (rs : List R) (ds : List D) → ds ≡ reverse (map drive rs) → reverse (map f ds) ≡ map (λ (r : R). f (drive r)) rs
  turned f rs ds e = ap (λ l. reverse (map f l)) e ∙ ap reverse (map_reverse f (map drive rs)) ∙ reverse_reverse (map f (map drive rs)) ∙ map_map f drive rs

  -- what holds of the drives holds of the readers
  pub zip_there : {B : Type 0} (Q : B → B → Type 0) (f : D → B) (rs ss : List R) (before after : List D) → reverse (map drive rs) ≡ before → after ≡ reverse (map drive ss)
      → AllZip Q (map f before) (map f after) → AllZip Q (map (λ (r : R). f (drive r)) rs) (map (λ (r : R). f (drive r)) ss)
  zip_there Q f rs ss before after p q z =
      subst (λ l. AllZip Q l (map (λ (r : R). f (drive r)) ss)) (turned f rs before (sym p))
      (subst (λ l. AllZip Q (reverse (map f before)) l) (turned f ss after q) (zip_reverse Q (map f before) (map f after) z))
