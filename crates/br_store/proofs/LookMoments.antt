-- What two looks at a file and its log say of the time between them.
use Rattle.std.proofs.Common.{◌≡◌, ◌<◌, ◌≤◌, ◌∙◌, ℕ, List, length, take, false, Option, Some, None, Result, Ok, Err, IfOk, inl, inr, refl, sym, ap, subst, subst₂, arith, le_refl, take_all, length-take}
use Rattle.std.proofs.lemmas.Bool.{cases_lt}
use Rattle.br_store.specs.declared.look_file.Copied.{Copied}
use Rattle.br_store.specs.declared.look_source.Source.TheVariants.{Main, Log}
use Rattle.br_store.specs.declared.look_stamp.FileTime.{FileTime}
use Rattle.br_store.specs.declared.look_stamp.Stamp.{Stamp}
use Rattle.br_store.specs.Scene.{At, Scene, IsFront, log_front}
use Rattle.br_store.specs.Moments.{AreCopied, AreHeld, HadLog, IsLogOf, IsMarked, IsRead, Lasts, Marks, StillIsKept}
use Rattle.br_store.proofs.LookParts.{carried}

pub same_time : (a b : FileTime) → a.seconds ≡ b.seconds → a.nanos ≡ b.nanos → a ≡ b
same_time a b seconds nanos = λ i. record { seconds = seconds i; nanos = nanos i }

pub same_stamp : (a b : Stamp) → a.len ≡ b.len → a.device ≡ b.device → a.inode ≡ b.inode → a.written ≡ b.written → a.changed ≡ b.changed → a ≡ b
same_stamp a b len device inode written changed =
    λ i. record { len = len i; device = device i; inode = inode i; written = written i; changed = changed i }

front_itself : (xs ys : List ℕ) → ys ≡ xs → IsFront ys xs
front_itself xs ys same = sym (take_all (length xs) xs (le_refl (length xs))) ∙ ap (λ zs. take (length xs) zs) (sym same)

pub still_is_kept_lem : StillIsKept
still_is_kept_lem scene = record {
  file = λ t u v first last same. refl;
  log = λ t u v w first next last long same. front_itself scene.log scene.log refl;
}

-- ---- marks

marks_by : (told : Option (ℕ → Scene)) (from at to : ℕ) (stamp : Stamp) (front : List ℕ) → from ≤ at → at ≤ to → At told at (λ scene. log_front scene ≡ front)
    → At told to (λ scene. scene.stamp ≡ stamp) → IsMarked told from to stamp front
marks_by None from at to stamp front after before begins stamped = tt
marks_by (Some scenes) from at to stamp front after before begins stamped =
    record { at = at; after = after; before = before; begins = begins; stamped = stamped }

-- the header of the log was read, and then the stamp of the file
pub marked : (told later : Option (ℕ → Scene)) (from at to : ℕ) (stamp : Stamp) (front : List ℕ) → later ≡ told → from ≤ at → at ≤ to
    → At told at (λ scene. log_front scene ≡ front) → At later to (λ scene. scene.stamp ≡ stamp) → IsMarked told from to stamp front
marked told later from at to stamp front same after before begins stamped =
    marks_by told from at to stamp front after before begins (carried (λ scenes. (scenes to).stamp ≡ stamp) later told (sym same) stamped)

-- a mark of the same files
pub marked_as : (told : Option (ℕ → Scene)) (from to : ℕ) (a b : Stamp) (f h : List ℕ) → a ≡ b → f ≡ h → IsMarked told from to a f → IsMarked told from to b h
marked_as told from to a b f h stamp front is = subst₂ (λ s l. IsMarked told from to s l) stamp front is

-- ---- the log

short_front : (xs : List ℕ) → length (take 32 xs) < 32 → take 32 xs ≡ xs
short_front xs short = take_all 32 xs (omega (arith, short, length-take 32 xs))

module _ (scenes : ℕ → Scene) (stamp : Stamp) (front log : List ℕ) where
  -- a log without a whole header is the one of the last look
  short_log : (from at to : ℕ) → from ≤ at → Marks scenes at to stamp front → length front < 32 → log ≡ front → HadLog scenes from to log
  short_log from at to before marks short is = λ kept. (
    marks.at,
    omega (arith, before, marks.after),
    marks.before,
    is ∙ sym marks.begins ∙ short_front (scenes marks.at).log (omega (arith, short, ap length marks.begins)),
  )

  -- a log with the same header before and after only grew
  long_log : (m0 m1 m2 m3 m4 : ℕ) → m0 ≤ m1 → m1 ≤ m2 → m2 ≤ m3 → m3 ≤ m4 → Marks scenes m0 m1 stamp front → Marks scenes m3 m4 stamp front
      → 32 ≤ length front → (Lasts Log scenes m2 m3 → log ≡ (scenes m2).log) → HadLog scenes m0 m4 log
  long_log m0 m1 m2 m3 m4 first second third fourth before after long read = λ kept. (
    m2,
    omega (arith, first, second),
    omega (arith, third, fourth),
    read (λ u above below.
        kept.log before.at m2 u after.at (omega (arith, before.before, second)) above (omega (arith, below, after.after))
        (omega (arith, long, ap length before.begins)) (before.begins ∙ sym after.begins)),
  )

  had_log : (m0 m1 m2 m3 m4 : ℕ) → m0 ≤ m1 → m1 ≤ m2 → m2 ≤ m3 → m3 ≤ m4 → Marks scenes m0 m1 stamp front → Marks scenes m3 m4 stamp front
      → (length front < 32 → log ≡ front) → (Lasts Log scenes m2 m3 → log ≡ (scenes m2).log) → HadLog scenes m0 m4 log
  had_log m0 m1 m2 m3 m4 first second third fourth before after short read = elim (cases_lt (length front) 32) [
    | inl below ↦ short_log m0 m3 m4 (omega (arith, first, second, third)) after below (short below)
    | inr long ↦ long_log m0 m1 m2 m3 m4 first second third fourth before after long read
  ]

log_by : (told : Option (ℕ → Scene)) (m0 m1 m2 m3 m4 : ℕ) (stamp : Stamp) (front log : List ℕ) → m0 ≤ m1 → m1 ≤ m2 → m2 ≤ m3 → m3 ≤ m4
    → IsMarked told m0 m1 stamp front → IsRead told Log m2 m3 log → IsMarked told m3 m4 stamp front → (length front < 32 → log ≡ front)
    → IsLogOf told m0 m4 stamp log
log_by None m0 m1 m2 m3 m4 stamp front log first second third fourth before read after short = tt
log_by (Some scenes) m0 m1 m2 m3 m4 stamp front log first second third fourth before read after short =
    (had_log scenes stamp front log m0 m1 m2 m3 m4 first second third fourth before after short read, after.stamped)

-- the mark was compared, the length was taken, the log was read, and the mark was compared again
pub log_read : (told a b c : Option (ℕ → Scene)) (m0 m1 m2 m3 m4 : ℕ) (stamp : Stamp) (front log : List ℕ) → a ≡ told → b ≡ a → c ≡ b
    → m0 ≤ m1 → m1 ≤ m2 → m2 ≤ m3 → m3 ≤ m4 → IsMarked told m0 m1 stamp front → IsRead b Log m2 m3 log → IsMarked c m3 m4 stamp front
    → (length front < 32 → log ≡ front) → IsLogOf told m0 m4 stamp log
log_read told a b c m0 m1 m2 m3 m4 stamp front log ea eb ec first second third fourth before read after short =
    log_by told m0 m1 m2 m3 m4 stamp front log first second third fourth before
    (subst (λ t. IsRead t Log m2 m3 log) (eb ∙ ea) read) (subst (λ t. IsMarked t m3 m4 stamp front) (ec ∙ eb ∙ ea) after) short

-- ---- both files

both_by : (told : Option (ℕ → Scene)) (m0 m1 m2 m3 m4 : ℕ) (stamp : Stamp) (front bytes log : List ℕ) → m0 ≤ m1 → m1 ≤ m2 → m2 ≤ m3 → m3 ≤ m4
    → IsMarked told m0 m1 stamp front → IsRead told Main m1 m2 bytes → At told m3 (λ scene. scene.has_journal ≡ false)
    → IsLogOf told m3 m4 stamp log → AreHeld told m0 m4 bytes log
both_by None m0 m1 m2 m3 m4 stamp front bytes log first second third fourth marks read free logs = tt
both_by (Some scenes) m0 m1 m2 m3 m4 stamp front bytes log first second third fourth marks read free logs = λ kept.
    let same : (scenes m1).stamp ≡ (scenes m4).stamp = marks.stamped ∙ sym logs.1 in
    let stays : (u : ℕ) → m1 ≤ u → u ≤ m4 → (scenes u).bytes ≡ (scenes m1).bytes = λ u above below. kept.file m1 u m4 above below same in
    let is : bytes ≡ (scenes m1).bytes = read (λ u above below.
    front_itself (scenes m1).bytes (scenes u).bytes (stays u above (omega (arith, below, third, fourth)))) in
    let had = logs.0 kept in
    record {
      free = m3;
      at = had.0;
      first = omega (arith, first, second, third);
      next = had.1;
      last = had.2;
      settled = free;
      stood = stays m3 (omega (arith, second, third)) fourth ∙ sym is;
      held = stays had.0 (omega (arith, second, third, had.1)) had.2 ∙ sym is;
      logged = sym had.3;
    }

-- the file was marked and read, no journal was there, and the log was read
pub both_read : (told a b c : Option (ℕ → Scene)) (m0 m1 m2 m3 m4 : ℕ) (stamp : Stamp) (front bytes log : List ℕ) → a ≡ told → b ≡ a → c ≡ b
    → m0 ≤ m1 → m1 ≤ m2 → m2 ≤ m3 → m3 ≤ m4 → IsMarked told m0 m1 stamp front → IsRead a Main m1 m2 bytes
    → At b m3 (λ scene. scene.has_journal ≡ false) → IsLogOf c m3 m4 stamp log → AreHeld told m0 m4 bytes log
both_read told a b c m0 m1 m2 m3 m4 stamp front bytes log ea eb ec first second third fourth marks read free logs =
    both_by told m0 m1 m2 m3 m4 stamp front bytes log first second third fourth marks
    (subst (λ t. IsRead t Main m1 m2 bytes) ea read)
    (carried (λ scenes. (scenes m3).has_journal ≡ false) b told (sym (eb ∙ ea)) free)
    (subst (λ t. IsLogOf t m3 m4 stamp log) (ec ∙ eb ∙ ea) logs)

-- ---- a longer time

held_in : (told : Option (ℕ → Scene)) (start from to : ℕ) (bytes log : List ℕ) → start ≤ from → AreHeld told from to bytes log → AreHeld told start to bytes log
held_in None start from to bytes log before are = tt
held_in (Some scenes) start from to bytes log before are = λ kept. let here = are kept in record {
  free = here.free;
  at = here.at;
  first = omega (arith, before, here.first);
  next = here.next;
  last = here.last;
  settled = here.settled;
  stood = here.stood;
  held = here.held;
  logged = here.logged;
}

-- what was held in the last part of a time was held in it
pub held_since : (told later : Option (ℕ → Scene)) (start from to : ℕ) (bytes log : List ℕ) → later ≡ told → start ≤ from → AreHeld later from to bytes log
    → AreHeld told start to bytes log
held_since told later start from to bytes log same before are =
    held_in told start from to bytes log before (subst (λ t. AreHeld t from to bytes log) same are)

-- the same of a result
pub copied_since : {E : Type 0} (told later : Option (ℕ → Scene)) (start from to : ℕ) (result : Result Copied E) → later ≡ told → start ≤ from
    → IfOk result (λ copied. AreCopied later from to copied) → IfOk result (λ copied. AreCopied told start to copied)
copied_since told later start from to (Err why) same before are = tt
copied_since told later start from to (Ok copied) same before are = held_since told later start from to copied.bytes.items copied.log.items same before are
