-- Outcomes of which only some are delivered, with the delivered files in their places.
use Rattle.std.proofs.Common.{◌≡◌, ℕ, Bool, true, false, not, cond, List, [], ◌∷◌, ◌++◌, map, Option, Some, None, Ok, Err, refl, sym, ap, subst, ◌∙◌}
use Rattle.std.specs.Prelude.{filter}
use Rattle.std.specs.List.{AllByRecursion, AllZip, list_any}
use Rattle.br_model.specs.Bootstrap.{Group}
use Rattle.br_model.specs.Delivery.{in_the_way, item_of}
use Rattle.br_model.specs.File.{Outcome}
use Rattle.br_model.specs.Restored.{Restored}
use Rattle.br_model.specs.Volume.{Volume}
use Rattle.br_reread_files.specs.Again.{IsMadeOf}
use Rattle.br_reread_files.specs.Gathered.{Gathered}
use Rattle.br_engine.specs.DeliveredAgain.{CanGive, IsFileLike, IsOutcomeLike}
use Rattle.br_piece.specs.MissingLines.{report}
use Rattle.br_types.specs.Newest.{Copy, copies_of, copy_of, is_current, is_newest, newest}
use Rattle.br_types.specs.declared.wanted.Copies.{Copies}
use Rattle.br_types.specs.declared.wanted.Copies.TheVariants.{All, Newest}
use Rattle.br_types.specs.declared.wanted.Gaps.{Gaps}
use Rattle.br_types.specs.declared.wanted.Gaps.TheVariants.{Unreported, Reported}
use Rattle.br_types.specs.declared.wanted.Stops.{Stops}
use Rattle.br_types.specs.declared.wanted.Stops.TheVariants.{AtFirst, Never}
use Rattle.br_types.specs.declared.wanted.Wanted.{Wanted}
use Rattle.br_sink.specs.ConflictsApart.{apart_beside, conflicts_beside, is_free, with_path}
use Rattle.br_sink.proofs.ApartLaws.{kept_first, left_first}
use Rattle.br_engine.specs.WantedOutcomes.{conflicting, delivered, kept, left_out, of_copies, reported}

like_itself : (r : Restored) → IsFileLike r r
like_itself r = (refl, go r.outcome)
  where
    go : (o : Outcome) → IsOutcomeLike o o
    go (Ok item) = record { path = refl; kind = refl; stat = refl; link = refl; skipped = refl; bytes = (refl, refl) }
    go (Err f) = refl

-- ---- what holds of some of a list

-- what holds of all holds of those that pass a test
all_filtered : {X : Type 0} (P : X → Type 0) (stays : X → Bool) (xs : List X) → AllByRecursion P xs → AllByRecursion P (filter stays xs)
all_filtered P stays [] all = tt
all_filtered P stays (x ∷ xs) all = go (stays x) (all_filtered P stays xs all.1)
  where
    go : (b : Bool) → AllByRecursion P (filter stays xs) → AllByRecursion P (cond b (x ∷ filter stays xs) (filter stays xs))
    go true rest = (all.0, rest)
    go false rest = rest

-- ---- files in the places of those that pass a test

-- an element in the place of the first, if that one passes
abbrev put_one : {X : Type 0} → Bool → X → List X → (List X → List X) → List X
put_one false x ks more = x ∷ more ks
put_one true x [] more = x ∷ more []
put_one true x (k ∷ ks) more = k ∷ more ks

-- elements in the places of those that pass
abbrev put_back : {X : Type 0} → (X → Bool) → List X → List X → List X
put_back stays [] ks = []
put_back stays (x ∷ xs) ks = put_one (stays x) x ks (put_back stays xs)

-- the files are like those in whose places they are
back_like : (stays : Restored → Bool) (os ks : List Restored) → AllZip IsFileLike ks (filter stays os) → AllZip IsFileLike (put_back stays os ks) os
back_like stays [] ks like = tt
back_like stays (o ∷ os) ks like = go (stays o) ks like (λ rest. back_like stays os rest)
  where
    go : (b : Bool) (ks : List Restored) → AllZip IsFileLike ks (cond b (o ∷ filter stays os) (filter stays os))
        → ((rest : List Restored) → AllZip IsFileLike rest (filter stays os) → AllZip IsFileLike (put_back stays os rest) os)
        → AllZip IsFileLike (put_one b o ks (put_back stays os)) (o ∷ os)
    go false ks like more = (like_itself o, more ks like)
    go true [] like more = absurd like
    go true (k ∷ ks) like more = (like.0, more ks like.1)

-- the same files in their places change nothing
back_same : {X : Type 0} (stays : X → Bool) (xs : List X) → put_back stays xs (filter stays xs) ≡ xs
back_same stays [] = refl
back_same stays (x ∷ xs) = go (stays x) (back_same stays xs)
  where
    go : (b : Bool) → put_back stays xs (filter stays xs) ≡ xs → put_one b x (cond b (x ∷ filter stays xs) (filter stays xs)) (put_back stays xs) ≡ x ∷ xs
    go false rest = ap (λ (ys : List _). x ∷ ys) rest
    go true rest = ap (λ (ys : List _). x ∷ ys) rest

-- the files that pass are those that were put there
back_passes : (stays : Restored → Bool) (os ks : List Restored) → ((a b : Restored) → IsFileLike a b → stays a ≡ stays b) → AllZip IsFileLike ks (filter stays os)
    → filter stays (put_back stays os ks) ≡ ks
back_passes stays [] [] same like = refl
back_passes stays [] (k ∷ ks) same like = absurd like
back_passes stays (o ∷ os) ks same like = go (stays o) refl ks like (λ rest. back_passes stays os rest same)
  where
    go : (b : Bool) → stays o ≡ b → (ks : List Restored) → AllZip IsFileLike ks (cond b (o ∷ filter stays os) (filter stays os))
        → ((rest : List Restored) → AllZip IsFileLike rest (filter stays os) → filter stays (put_back stays os rest) ≡ rest)
        → filter stays (put_one b o ks (put_back stays os)) ≡ ks
    go false e ks like more =
        ap (λ (c : Bool). cond c (o ∷ filter stays (put_back stays os ks)) (filter stays (put_back stays os ks))) e ∙ more ks like
    go true e [] like more = absurd like
    go true e (k ∷ ks) like more =
        ap (λ (c : Bool). cond c (k ∷ filter stays (put_back stays os ks)) (filter stays (put_back stays os ks))) (same k o like.0 ∙ e)
        ∙ ap (λ (rs : List Restored). k ∷ rs) (more ks like.1)

-- ---- the newest of files that are like others

same_copy : (a b : Restored) → IsFileLike a b → copy_of a ≡ copy_of b
same_copy a b like = go a b a.outcome b.outcome refl refl like.0 like.1
  where
    go : (a b : Restored) (x y : Outcome) → a.outcome ≡ x → b.outcome ≡ y → a.key ≡ b.key → IsOutcomeLike x y → copy_of a ≡ copy_of b
    go a b (Ok i) (Ok j) e f k l = rw (e, f) (λ t. Some (record { key = k t; path = l.path t }))
    go a b (Err x) (Err y) e f k l = rw (e, f) refl
    go a b (Ok i) (Err y) e f k l = absurd l
    go a b (Err x) (Ok j) e f k l = absurd l

same_copies : (rs os : List Restored) → AllZip IsFileLike rs os → copies_of rs ≡ copies_of os
same_copies [] [] like = refl
same_copies [] (o ∷ os) like = absurd like
same_copies (r ∷ rs) [] like = absurd like
same_copies (r ∷ rs) (o ∷ os) like = λ t. first (same_copy r o like.0 t) (same_copies rs os like.1 t)
  where
    first : Option Copy → List Copy → List Copy
    first None cs = cs
    first (Some c) cs = c ∷ cs

-- the keys are the same
same_keys : (rs os : List Restored) → AllZip IsFileLike rs os → map (λ (r : Restored). r.key) rs ≡ map (λ (r : Restored). r.key) os
same_keys [] [] like = refl
same_keys [] (o ∷ os) like = absurd like
same_keys (r ∷ rs) [] like = absurd like
same_keys (r ∷ rs) (o ∷ os) like = λ t. like.0.0 t ∷ same_keys rs os like.1 t

-- Files like these; those of the wanted copies are the delivered ones. If the delivered ones are
-- those that were to be delivered, they are these files themselves.
record InCopies (copies : Copies) (os ks : List Restored) : Type 0 where
  pub rs : List Restored
  pub like : AllZip IsFileLike rs os
  pub same : ks ≡ of_copies copies os → rs ≡ os
  pub wanted : ks ≡ of_copies copies rs

in_copies : (copies : Copies) (os ks : List Restored) → AllZip IsFileLike ks (of_copies copies os) → InCopies copies os ks
unfolding newest
in_copies All os ks like = record { rs = ks; like = like; same = λ same. same; wanted = refl }
in_copies Newest os ks like =
    let rs = put_back (is_newest os) os ks in
    let each = back_like (is_newest os) os ks like in
    record {
      rs = rs;
      like = each;
      same = λ same. ap (put_back (is_newest os) os) same ∙ back_same (is_newest os) os;
      wanted =
          sym (back_passes (is_newest os) os ks (λ a b l. ap (is_current (copies_of os)) (same_copy a b l)) like)
          ∙ ap (λ (cs : List Copy). filter (λ (r : Restored). is_current cs (copy_of r)) rs) (sym (same_copies rs os each));
    }

-- ---- files in the places of those that do not conflict

-- a file like another conflicts with the same paths, and has the same path
free_like : (paths : List (List ℕ)) (a b : Restored) → IsFileLike a b
    → (is_free paths (item_of a) ≡ is_free paths (item_of b)) × (with_path paths (item_of a) ≡ with_path paths (item_of b))
free_like paths a b like = go a b a.outcome b.outcome refl refl like.1
  where
    go : (a b : Restored) (x y : Outcome) → a.outcome ≡ x → b.outcome ≡ y → IsOutcomeLike x y
        → (is_free paths (item_of a) ≡ is_free paths (item_of b)) × (with_path paths (item_of a) ≡ with_path paths (item_of b))
    go a b (Ok i) (Ok j) e f l = rw (e, f) (ap (λ (p : List ℕ). not (list_any (in_the_way p) paths)) l.path, ap (λ (p : List ℕ). p ∷ paths) l.path)
    go a b (Err x) (Err y) e f l = rw (e, f) (refl, refl)
    go a b (Ok i) (Err y) e f l = absurd l
    go a b (Err x) (Ok j) e f l = absurd l

-- the paths after an outcome that is kept or not
abbrev after : Bool → List (List ℕ) → Restored → List (List ℕ)
after b paths o = cond b (with_path paths (item_of o)) paths

-- elements in the places of those that are kept
abbrev put_apart : List (List ℕ) → List Restored → List Restored → List Restored
put_apart paths [] ks = []
put_apart paths (o ∷ os) ks = put_one (is_free paths (item_of o)) o ks (put_apart (after (is_free paths (item_of o)) paths o) os)

apart_like : (paths : List (List ℕ)) (os ks : List Restored) → AllZip IsFileLike ks (apart_beside paths os) → AllZip IsFileLike (put_apart paths os ks) os
apart_like paths [] ks like = tt
apart_like paths (o ∷ os) ks like = go (is_free paths (item_of o)) ks like (λ ps rest. apart_like ps os rest)
  where
    go : (b : Bool) (ks : List Restored) → AllZip IsFileLike ks (cond b (o ∷ apart_beside (with_path paths (item_of o)) os) (apart_beside paths os))
        → ((ps : List (List ℕ)) (rest : List Restored) → AllZip IsFileLike rest (apart_beside ps os) → AllZip IsFileLike (put_apart ps os rest) os)
        → AllZip IsFileLike (put_one b o ks (put_apart (after b paths o) os)) (o ∷ os)
    go false ks like more = (like_itself o, more paths ks like)
    go true [] like more = absurd like
    go true (k ∷ ks) like more = (like.0, more (with_path paths (item_of o)) ks like.1)

apart_same : (paths : List (List ℕ)) (os : List Restored) → put_apart paths os (apart_beside paths os) ≡ os
apart_same paths [] = refl
apart_same paths (o ∷ os) = go (is_free paths (item_of o)) (λ ps. apart_same ps os)
  where
    go : (b : Bool) → ((ps : List (List ℕ)) → put_apart ps os (apart_beside ps os) ≡ os)
        → put_one b o (cond b (o ∷ apart_beside (with_path paths (item_of o)) os) (apart_beside paths os)) (put_apart (after b paths o) os) ≡ o ∷ os
    go false more = ap (λ (rs : List Restored). o ∷ rs) (more paths)
    go true more = ap (λ (rs : List Restored). o ∷ rs) (more (with_path paths (item_of o)))

-- the files that are kept are those that were put there, and the same ones conflict
abbrev ApartPasses : List (List ℕ) → List Restored → List Restored → Type 0
ApartPasses paths os ks = (apart_beside paths (put_apart paths os ks) ≡ ks) × (conflicts_beside paths (put_apart paths os ks) ≡ conflicts_beside paths os)

apart_passes : (paths : List (List ℕ)) (os ks : List Restored) → AllZip IsFileLike ks (apart_beside paths os) → ApartPasses paths os ks
apart_passes paths [] [] like = (refl, refl)
apart_passes paths [] (k ∷ ks) like = absurd like
apart_passes paths (o ∷ os) ks like = go (is_free paths (item_of o)) refl ks like (λ ps rest. apart_passes ps os rest)
  where
    go : (b : Bool) → is_free paths (item_of o) ≡ b → (ks : List Restored)
        → AllZip IsFileLike ks (cond b (o ∷ apart_beside (with_path paths (item_of o)) os) (apart_beside paths os))
        → ((ps : List (List ℕ)) (rest : List Restored) → AllZip IsFileLike rest (apart_beside ps os) → ApartPasses ps os rest)
        → (apart_beside paths (put_one b o ks (put_apart (after b paths o) os)) ≡ ks)
        × (conflicts_beside paths (put_one b o ks (put_apart (after b paths o) os)) ≡ conflicts_beside paths (o ∷ os))
    go false e ks like more =
        let m = more paths ks like in
        let l = left_first paths o (put_apart paths os ks) e in
        (l.0 ∙ m.0, l.1 ∙ ap (λ (ps : List (List ℕ)). with_path [] (item_of o) ++ ps) m.1 ∙ sym (left_first paths o os e).1)
    go true e [] like more = absurd like
    go true e (k ∷ ks) like more =
        let wp : List (List ℕ) = with_path paths (item_of o) in
        let same = free_like paths k o like.0 in
        let m = more wp ks like.1 in
        let f = kept_first paths k (put_apart wp os ks) (same.0 ∙ e) in (
          f.0 ∙ ap (λ (ps : List (List ℕ)). k ∷ apart_beside ps (put_apart wp os ks)) same.1 ∙ ap (λ (rs : List Restored). k ∷ rs) m.0,
          f.1 ∙ ap (λ (ps : List (List ℕ)). conflicts_beside ps (put_apart wp os ks)) same.1 ∙ m.1 ∙ sym (kept_first paths o os e).1,
        )

-- the same for files of which those that conflict are left out or not
record InKept (stops : Stops) (os ks : List Restored) : Type 0 where
  pub rs : List Restored
  pub like : AllZip IsFileLike rs os
  pub same : ks ≡ kept stops os → rs ≡ os
  pub wanted : ks ≡ kept stops rs
  pub left : conflicting stops rs ≡ conflicting stops os

in_kept : (stops : Stops) (os ks : List Restored) → AllZip IsFileLike ks (kept stops os) → InKept stops os ks
in_kept AtFirst os ks like = record { rs = ks; like = like; same = λ same. same; wanted = refl; left = refl }
in_kept Never os ks like =
    let passes = apart_passes [] os ks like in
    record {
      rs = put_apart [] os ks;
      like = apart_like [] os ks like;
      same = λ same. ap (put_apart [] os) same ∙ apart_same [] os;
      wanted = sym passes.0;
      left = passes.1;
    }

-- Files like these; the wanted ones are the delivered ones. If the delivered ones are those that
-- were to be delivered, they are these files themselves.
pub record InPlaces (wanted : Wanted) (os ks : List Restored) : Type 0 where
  pub rs : List Restored
  pub like : AllZip IsFileLike rs os
  pub same : ks ≡ delivered wanted os → rs ≡ os
  pub chosen : ks ≡ delivered wanted rs
  pub left : left_out wanted rs ≡ left_out wanted os

pub in_places : (wanted : Wanted) (os ks : List Restored) → AllZip IsFileLike ks (delivered wanted os) → InPlaces wanted os ks
in_places wanted os ks like =
    let m = in_kept wanted.stops (of_copies wanted.copies os) ks like in
    let c = in_copies wanted.copies os m.rs m.like in
    record {
      rs = c.rs;
      like = c.like;
      same = λ same. c.same (m.same same);
      chosen = m.wanted ∙ ap (kept wanted.stops) c.wanted;
      left = sym (ap (conflicting wanted.stops) c.wanted) ∙ m.left;
    }

-- ---- what holds of all outcomes

all_of_copies : (P : Restored → Type 0) (copies : Copies) (os : List Restored) → AllByRecursion P os → AllByRecursion P (of_copies copies os)
unfolding newest
all_of_copies P All os all = all
all_of_copies P Newest os all = all_filtered P (is_newest os) os all

all_apart : (P : Restored → Type 0) (paths : List (List ℕ)) (os : List Restored) → AllByRecursion P os → AllByRecursion P (apart_beside paths os)
all_apart P paths [] all = tt
all_apart P paths (o ∷ os) all = go (is_free paths (item_of o)) (all_apart P (with_path paths (item_of o)) os all.1) (all_apart P paths os all.1)
  where
    go : (b : Bool) → AllByRecursion P (apart_beside (with_path paths (item_of o)) os) → AllByRecursion P (apart_beside paths os)
        → AllByRecursion P (cond b (o ∷ apart_beside (with_path paths (item_of o)) os) (apart_beside paths os))
    go true rest others = (all.0, rest)
    go false rest others = others

all_kept : (P : Restored → Type 0) (stops : Stops) (os : List Restored) → AllByRecursion P os → AllByRecursion P (kept stops os)
all_kept P AtFirst os all = all
all_kept P Never os all = all_apart P [] os all

-- so what can be given of all can be given of those that are delivered
pub gives_delivered : {D : Type 0} (shows : D → Option (List Volume)) (failures : D → ℕ) (drives : List D) (groups : List Group) (gathered : Option Gathered) (wanted : Wanted) (os rs : List Restored)
    → rs ≡ delivered wanted os → CanGive shows failures drives groups gathered os → CanGive shows failures drives groups gathered rs
gives_delivered shows failures drives groups None wanted os rs is given = tt
gives_delivered shows failures drives groups (Some gathered) wanted os rs is given =
    let P = IsMadeOf gathered.hits in
    (given.0, subst (AllByRecursion P) (sym is) (all_kept P wanted.stops (of_copies wanted.copies os) (all_of_copies P wanted.copies os given.1)))

-- the same is missing
pub same_report : (gaps : Gaps) (groups : List Group) (counts : List (Option ℕ)) (rs os : List Restored) → AllZip IsFileLike rs os → reported gaps groups counts rs ≡ reported gaps groups counts os
same_report Unreported groups counts rs os like = refl
same_report Reported groups counts rs os like = ap (report groups counts) (same_keys rs os like)
