-- The workers after their run, with the readers in their places again.
use Rattle.std.proofs.Common.{◌≡◌, ℕ, ◌≤◌, List, [], ◌∷◌, map, reverse, flat_map, length, Bool, Option, ap, sym, subst, ◌∙◌, arith}
use Rattle.std.proofs.lemmas.List.{length-map, length-reverse}
use Rattle.std.specs.List.{AllByRecursion, AllZip}
use Rattle.atomic_table.specs.Seated.{TableId}
use Rattle.br_model.specs.Volume.{Volume}
use Rattle.br_model.specs.Meaning.{Piece}
use Rattle.br_volume.specs.Drive.{OnlyGrows}
use Rattle.br_claim.specs.Claims.{Seated}
use Rattle.br_volume.proofs.ExtendLaws.{grows_itself}
use Rattle.br_pool.specs.Pool.{StandsTold}
use Rattle.br_pool.specs.Slots.{AllBelow}
use Rattle.br_pool.specs.Workers.{Answer, HasServed, HaveWorked, HaveWorkedBy, IsAnswer}
use Rattle.br_pool.proofs.ListLaws.{map_map, map_reverse, zip_itself, zip_length, zip_map, zip_reverse, zip_so}
use Rattle.br_pool.proofs.AnswerLaws.{answer_weaker, each_below}
use Rattle.br_pool.proofs.WorkersLaws.{Ran, have_worked, told_each}

-- what each of the readers shows
pub shown : {W R B : Type 0} (reader : W → R) (f : R → B) (ws : List W) (rs : List R) → rs ≡ reverse (map reader ws) → map (λ w. f (reader w)) (reverse ws) ≡ map f rs
shown reader f ws rs e = sym (map_map f reader (reverse ws)) ∙ ap (map f) (map_reverse reader ws ∙ sym e)

-- what each pair says of its second part holds of the whole second list
pub all_second : {A B : Type 0} (R : A → B → Type 0) (Q : B → Type 0) → ((a : A) (b : B) → R a b → Q b) → (xs : List A) (ys : List B) → AllZip R xs ys → AllByRecursion Q ys
all_second R Q so [] [] z = tt
all_second R Q so [] (y ∷ ys) z = absurd z
all_second R Q so (x ∷ xs) [] z = absurd z
all_second R Q so (x ∷ xs) (y ∷ ys) z = (so x y z.0, all_second R Q so xs ys z.1)

module _ {D : Type 0} (shows : D → Option (List Volume)) (fails : D → ℕ) where
  -- a drive before and after
  abbrev pub Kept : D → D → Type 0
  Kept d e = OnlyGrows (shows d) (shows e) × (fails d ≤ fails e)

  pub all_kept : (ds : List D) → AllZip Kept ds ds
  all_kept ds = zip_itself Kept (λ d. (grows_itself (shows d), omega arith)) ds

module _ {W R : Type 0} (claims : TableId) (pieces : List Piece) (left : List ℕ) (is : W → W → Piece → Answer → Type 0) (shows : R → Option (List Volume)) (fails : R → ℕ) (out : R → Bool) (reader : W → R) (seat : W → Seated) (answers : W → List (ℕ × Answer)) where
  -- a worker before and after its run
  abbrev pub Did : W → W → Type 0
  Did = Ran claims pieces left is (λ (w : W). shows (reader w)) (λ (w : W). fails (reader w)) (λ (w : W). out (reader w)) seat answers

  -- a reader before and after
  abbrev pub Goes : R → R → Type 0
  Goes r s = HasServed (shows r) (shows s) (fails r) (fails s) (out r) (out s)

  pub numbers_below : (n : ℕ) (ws vs : List W) → n ≡ length pieces → AllZip Did ws vs → AllByRecursion (λ (v : W). AllBelow n (answers v)) vs
  numbers_below n ws vs len z =
      all_second Did (λ (v : W). AllBelow n (answers v)) (λ w v r. subst (λ k. AllBelow k (answers v)) (sym len)
      (each_below (is w v) pieces (answers v) r.each)) ws vs z

  pub places_kept : (ws vs : List W) (before after : List R) → AllZip Did ws vs → reverse (map reader ws) ≡ before → after ≡ reverse (map reader vs) → AllZip Goes before after
  places_kept ws vs before after z p q =
      subst (λ l. AllZip Goes l after) p
      (subst (λ l. AllZip Goes (reverse (map reader ws)) l) (sym q)
      (zip_reverse Goes (map reader ws) (map reader vs)
      (zip_map Goes reader ws vs (zip_so Did (λ (w v : W). Goes (reader w) (reader v)) (λ w v r. r.served) ws vs z))))

  pub seats_many : (ws vs : List W) (before : List R) (seats : List Seated) → AllZip Did ws vs → reverse (map reader ws) ≡ before → seats ≡ reverse (map seat vs) → length seats ≡ length before
  seats_many ws vs before seats z p q =
      let a : length seats ≡ length vs = ap length q ∙ length-reverse (map seat vs) ∙ length-map vs seat in
      let b : length before ≡ length ws = sym (ap length p) ∙ length-reverse (map reader ws) ∙ length-map ws reader in
      a ∙ zip_length Did ws vs z ∙ sym b

  pub have_served : (all : Piece → Answer → Type 0) (ws vs : List W) (before after : List R) (seats : List Seated) → AllZip Did ws vs → reverse (map reader ws) ≡ before → after ≡ reverse (map reader vs)
      → seats ≡ reverse (map seat vs) → AllZip (λ (w v : W). (p : Piece) (a : Answer) → is w v p a → all p a) (reverse ws) (reverse vs)
      → HaveWorkedBy all claims pieces left (map out before) (map out after) seats (flat_map answers (reverse vs))
  have_served all ws vs before after seats z p q r so =
      rw (← shown reader out ws before (sym p), ← shown reader out vs after q, r, ← map_reverse seat vs)
      (have_worked claims pieces left is (λ (w : W). shows (reader w)) (λ (w : W). fails (reader w)) (λ (w : W). out (reader w)) seat answers all (reverse ws) (reverse vs) (zip_reverse Did ws vs z) so)

  -- what all readers may be taken to show, the reader of each worker may
  pub told_of : (ws vs : List W) (before after : List R) → AllZip Did ws vs → reverse (map reader ws) ≡ before → after ≡ reverse (map reader vs)
      → AllZip (λ (w v : W). (volumes : List Volume) → AllZip (StandsTold pieces volumes) (map shows before) (map shows after) → StandsTold pieces volumes (shows (reader w)) (shows (reader v)))
      (reverse ws) (reverse vs)
  told_of ws vs before after z p q =
      told_each pieces (λ (w : W). shows (reader w)) (λ volumes. AllZip (StandsTold pieces volumes) (map shows before) (map shows after)) (reverse ws) (reverse vs)
      (length-reverse vs ∙ zip_length Did ws vs z ∙ sym (length-reverse ws))
      (λ volumes told. rw (shown reader shows ws before (sym p), shown reader shows vs after q) told)

-- over what the drive of the worker showed meanwhile
abbrev pub by_drive : {W R : Type 0} → List Piece → (R → Option (List Volume)) → (W → R) → W → W → Piece → Answer → Type 0
by_drive pieces shows reader w v = IsAnswer (λ volumes. StandsTold pieces volumes (shows (reader w)) (shows (reader v)))

module _ {W R : Type 0} (claims : TableId) (pieces : List Piece) (left : List ℕ) (shows : R → Option (List Volume)) (fails : R → ℕ) (out : R → Bool) (reader : W → R) (seat : W → Seated) (answers : W → List (ℕ × Answer)) where
  pub have_answered : (ws vs : List W) (before after : List R) (seats : List Seated) → AllZip (Did claims pieces left (by_drive pieces shows reader) shows fails out reader seat answers) ws vs
      → reverse (map reader ws) ≡ before → after ≡ reverse (map reader vs) → seats ≡ reverse (map seat vs)
      → HaveWorked claims pieces left (map shows before) (map shows after) (map out before) (map out after) seats (flat_map answers (reverse vs))
  have_answered ws vs before after seats z p q r =
      have_served claims pieces left (by_drive pieces shows reader) shows fails out reader seat answers (IsAnswer over) ws vs before after seats z p q r
      (zip_so _ (λ (w v : W). (p : Piece) (a : Answer) → by_drive pieces shows reader w v p a → IsAnswer over p a)
      (λ w v told p a h. answer_weaker (λ volumes. StandsTold pieces volumes (shows (reader w)) (shows (reader v))) over told p a h) (reverse ws) (reverse vs)
      (told_of claims pieces left (by_drive pieces shows reader) shows fails out reader seat answers ws vs before after z p q))
    where
      over : List Volume → Type 0
      over = λ volumes. AllZip (StandsTold pieces volumes) (map shows before) (map shows after)
