-- Shares that drives make side by side.
use Rattle.std.proofs.Common.{◌≡◌, ◌≤◌, ◌+◌, ℕ, List, [], ◌∷◌, ◌++◌, map, reverse, drop, length, length-append, Option, OnOk, refl, ap, sym, subst, ◌∙◌, append_assoc, arith}
use mathlib.Core.List.{reverse-append}
use Rattle.std.specs.List.{AllByRecursion, AllZip}
use Rattle.br_model.specs.Bootstrap.{Group}
use Rattle.br_model.specs.Meaning.{Hit, Spot}
use Rattle.br_model.specs.Restored.{Restored}
use Rattle.br_model.specs.Volume.{Volume}
use Rattle.br_join.specs.Outcome.{restored}
use Rattle.br_data.specs.ManyDrives.{GivesMany, GoesOn, RereadingMany, driven_by}
use Rattle.br_reread_parts.specs.Given.{GivesHits}
use Rattle.br_join.specs.Runs.{Run, file_of}
use Rattle.br_reread_files.specs.Runs.{AreFirst, GivesRuns}
use Rattle.br_reread_files.specs.Sharing.{HasMade, IsBegun, many_of, runs_in}
use Rattle.br_data.proofs.GoOnLaws.{all_go}
use Rattle.br_reread_files.specs.declared.sharing.FileShare.{FileShare}
use Rattle.br_reread_files.specs.declared.file_work.Work.{Work}
use Rattle.br_reread_parts.proofs.GivenLaws.{all_behind}
use Rattle.br_reread_files.proofs.RunLaws.{none_first}
use Rattle.br_reread_files.proofs.TurnLaws.{all_mapped, all_over, all_reverse, all_unmapped, length_map, length_reverse, reverse_reverse, zip_length, zip_map, zip_reverse, zip_so}

-- ---- runs of works

-- the files of the first works are the first files
pub given_front : (m : RereadingMany) (xs ys : List Run) → GivesRuns m (xs ++ ys) → GivesRuns m xs
given_front m [] ys given = tt
given_front m (x ∷ xs) ys given = (given.0, given_front m xs ys given.1)

pub given_behind : (m : RereadingMany) (xs ys : List Run) → GivesRuns m (xs ++ ys) → GivesRuns m ys
given_behind m [] ys given = given
given_behind m (x ∷ xs) ys given = given_behind m xs ys given.1

-- the files of each work are given
given_works : (m : RereadingMany) (ws : List Work) → GivesRuns m (runs_in ws) → AllByRecursion (λ (w : Work). GivesRuns m w.runs.now) ws
given_works m [] given = tt
given_works m (w ∷ ws) given = (given_front m w.runs.now (runs_in ws) given, given_works m ws (given_behind m w.runs.now (runs_in ws) given))

map_append : {A B : Type 0} (f : A → B) (xs ys : List A) → map f (xs ++ ys) ≡ map f xs ++ map f ys
map_append f [] ys = refl
map_append f (x ∷ xs) ys = ap (λ l. f x ∷ l) (map_append f xs ys)

-- the last work comes first, the other way round
pub last_first : (new old : List Work) (w : Work) → old ≡ new ++ w ∷ [] → runs_in (reverse old) ≡ w.runs.now ++ runs_in (reverse new)
last_first new old w e = ap runs_in (ap reverse e ∙ reverse-append new (w ∷ []))

-- one work more is finished
pub works_more : (done after all : List Restored) (new old : List Work) (w : Work) → old ≡ new ++ w ∷ [] → after ≡ done ++ map file_of w.runs.now
    → done ++ map file_of (runs_in (reverse old)) ≡ all → after ++ map file_of (runs_in (reverse new)) ≡ all
works_more done after all new old w e pushed h =
    ap (λ (fs : List Restored). fs ++ map file_of (runs_in (reverse new))) pushed
    ∙ append_assoc done (map file_of w.runs.now) (map file_of (runs_in (reverse new)))
    ∙ ap (λ (fs : List Restored). done ++ fs) (sym (map_append file_of w.runs.now (runs_in (reverse new))) ∙ ap (map file_of) (sym (last_first new old w e)))
    ∙ h

-- the first of the elements of lists
abbrev first_or : {X : Type 0} → X → List (List X) → X
first_or x [] = x
first_or x ([] ∷ ls) = x
first_or x ((y ∷ ys) ∷ ls) = y

module _ {D : Type 0} (shows : D → Option (List Volume)) (failures : D → ℕ) (groups : List Group) where
  abbrev drives_of : FileShare D → List D
  drives_of s = s.drives.items

  abbrev work_of : FileShare D → Work
  work_of s = s.work

  abbrev one : D → List D
  one d = d ∷ []

  abbrev by : List D → RereadingMany
  by ds = record { drives = driven_by shows failures ds; groups = groups }

  -- ---- each share has one drive

  singles : (xs : List D) → AllByRecursion (λ (ds : List D). length ds ≡ 1) (map one xs)
  singles [] = tt
  singles (x ∷ xs) = (refl, singles xs)

  turned : (ss : List (FileShare D)) (xs : List D) → reverse (map drives_of ss) ≡ map one xs → map drives_of ss ≡ reverse (map one xs)
  turned ss xs e = sym (reverse_reverse (map drives_of ss)) ∙ ap reverse e

  -- the shares that drives went into have one each
  pub one_dealt : (ss : List (FileShare D)) (left xs : List D) → map one left ++ reverse (map drives_of ss) ≡ map one xs → AllByRecursion (λ (s : FileShare D). length s.drives.items ≡ 1) ss
  one_dealt ss left xs e =
      all_unmapped (λ (ds : List D). length ds ≡ 1) drives_of ss
      (subst (AllByRecursion (λ (ds : List D). length ds ≡ 1)) (reverse_reverse (map drives_of ss))
      (all_reverse (λ (ds : List D). length ds ≡ 1) (reverse (map drives_of ss))
      (all_behind (λ (ds : List D). length ds ≡ 1) (map one left) (reverse (map drives_of ss))
      (subst (AllByRecursion (λ (ds : List D). length ds ≡ 1)) (sym e) (singles xs)))))

  -- as many drives are left and dealt as there were
  pub many_dealt : (ss : List (FileShare D)) (left xs : List D) → map one left ++ reverse (map drives_of ss) ≡ map one xs → length left + length ss ≡ length xs
  many_dealt ss left xs e =
      omega (arith, ap length e, length-append (map one left) (reverse (map drives_of ss)), length_map one left, length_map one xs, length_reverse (map drives_of ss), length_map drives_of ss)

  -- drives that went back are those that there were
  pub same_back : (xs ys : List D) → map one ys ≡ map one xs → ys ≡ xs
  same_back [] [] e = refl
  same_back [] (y ∷ ys) e = absurd cc
  same_back (x ∷ xs) [] e = absurd cc
  same_back (x ∷ xs) (y ∷ ys) e =
      let heads : y ≡ x = ap (λ (l : List (List D)). first_or x l) e in
      let tails : map one ys ≡ map one xs = ap (λ (l : List (List D)). drop 1 l) e in
      λ i. heads i ∷ same_back xs ys tails i

  pub on_itself : (xs ys : List D) → ys ≡ xs → AllZip GoesOn (driven_by shows failures xs) (driven_by shows failures ys)
  on_itself xs ys e = subst (λ (l : List D). AllZip GoesOn (driven_by shows failures xs) (driven_by shows failures l)) (sym e) (all_go (driven_by shows failures xs))

  length_driven : (ds : List D) → length (driven_by shows failures ds) ≡ length ds
  length_driven ds = length_map (λ (d : D). record { shown = shows d; failures = failures d }) ds

  same_length : (s t : FileShare D) → HasMade shows failures groups s t → length s.drives.items ≡ 1 → length t.drives.items ≡ 1
  same_length s t has is =
      sym (length_driven t.drives.items) ∙ zip_length GoesOn (driven_by shows failures s.drives.items) (driven_by shows failures t.drives.items) has.on
      ∙ length_driven s.drives.items ∙ is

  -- and so it has after the run
  one_each : (ss ts : List (FileShare D)) (xs : List D) → reverse (map drives_of ss) ≡ map one xs → AllZip (HasMade shows failures groups) ss ts
      → AllByRecursion (λ (s : FileShare D). length s.drives.items ≡ 1) ts
  one_each ss ts xs e has =
      all_over (HasMade shows failures groups) (λ (s : FileShare D). length s.drives.items ≡ 1) (λ (s : FileShare D). length s.drives.items ≡ 1) same_length ss ts has
      (all_unmapped (λ (ds : List D). length ds ≡ 1) drives_of ss
      (subst (AllByRecursion (λ (ds : List D). length ds ≡ 1)) (sym (turned ss xs e)) (all_reverse (λ (ds : List D). length ds ≡ 1) (map one xs) (singles xs))))

  -- ---- all drives went on

  abbrev Go : List D → List D → Type 0
  Go ds es = AllZip GoesOn (driven_by shows failures ds) (driven_by shows failures es)

  go_each : (xs ys : List D) → AllZip Go (map one xs) (map one ys) → Go xs ys
  go_each [] [] z = tt
  go_each [] (y ∷ ys) z = absurd z
  go_each (x ∷ xs) [] z = absurd z
  go_each (x ∷ xs) (y ∷ ys) z = (z.0.0, go_each xs ys z.1)

  all_on : (ss ts : List (FileShare D)) (xs ys : List D) → reverse (map drives_of ss) ≡ map one xs → map one ys ≡ reverse (map drives_of ts)
      → AllZip (HasMade shows failures groups) ss ts → AllZip GoesOn (driven_by shows failures xs) (driven_by shows failures ys)
  all_on ss ts xs ys e f has =
      go_each xs ys
      (subst (λ (ds : List (List D)). AllZip Go ds (map one ys)) e
      (subst (AllZip Go (reverse (map drives_of ss))) (sym f)
      (zip_reverse Go (map drives_of ss) (map drives_of ts)
      (zip_map Go drives_of ss ts (zip_so (HasMade shows failures groups) (λ (s t : FileShare D). Go s.drives.items t.drives.items) (λ s t h. h.on) ss ts has)))))

  -- ---- what all drives give, one of them gives

  abbrev Gives : List D → List D → Type 0
  Gives all ds = (spot : Spot) (bytes : List ℕ) → GivesMany (by all) spot bytes → GivesMany (by ds) spot bytes

  gives_each : (all xs : List D) → Gives all xs → AllByRecursion (Gives all) (map one xs)
  gives_each all [] so = tt
  gives_each all (x ∷ xs) so = ((λ spot bytes given. ((so spot bytes given).0, tt)), gives_each all xs (λ spot bytes given. (so spot bytes given).1))

  gives_shares : (ss : List (FileShare D)) (xs : List D) → reverse (map drives_of ss) ≡ map one xs → AllByRecursion (λ (s : FileShare D). Gives xs s.drives.items) ss
  gives_shares ss xs e =
      all_unmapped (Gives xs) drives_of ss
      (subst (AllByRecursion (Gives xs)) (sym (turned ss xs e)) (all_reverse (Gives xs) (map one xs) (gives_each xs xs (λ spot bytes given. given))))

  hits_by : (all ds : List D) → Gives all ds → (hits : List Hit) → GivesHits (by all) hits → GivesHits (by ds) hits
  hits_by all ds so [] given = tt
  hits_by all ds so (h ∷ hs) given = (so h.spot h.fragment.bytes given.0, hits_by all ds so hs given.1)

  runs_by : (all ds : List D) → Gives all ds → (runs : List Run) → GivesRuns (by all) runs → GivesRuns (by ds) runs
  runs_by all ds so [] given = tt
  runs_by all ds so (r ∷ rs) given = (hits_by all ds so r.hits given.0, runs_by all ds so rs given.1)

  both : {X : Type 0} (P Q R : X → Type 0) → ((x : X) → P x → Q x → R x) → (xs : List X) → AllByRecursion P xs → AllByRecursion Q xs → AllByRecursion R xs
  both P Q R so [] p q = tt
  both P Q R so (x ∷ xs) p q = (so x p.0 q.0, both P Q R so xs p.1 q.1)

  -- the drive of each share gives the files of it
  abbrev IsGiven : FileShare D → Type 0
  IsGiven s = (s.work.made.items ≡ []) × GivesRuns (many_of shows failures groups s) s.work.runs.now

  begun_one : (s t : FileShare D) → HasMade shows failures groups s t → IsGiven s → IsBegun t.work
  begun_one s t has is = record {
    first =
        subst (λ (rs : List Run). AreFirst rs (map restored t.work.made.items)) (sym has.runs)
        (has.first is.1 (none_first s.work.runs.now (map restored s.work.made.items) (ap (map restored) is.0)));
    all = subst (λ (rs : List Run). OnOk t.work.end (length rs ≤ length t.work.made.items)) (sym has.runs) has.all;
    unchanged = λ changed. has.unchanged changed is.1;
  }

  given_all : (ss : List (FileShare D)) (xs : List D) → reverse (map drives_of ss) ≡ map one xs → AllByRecursion (λ (w : Work). w.made.items ≡ []) (map work_of ss)
      → GivesRuns (by xs) (runs_in (map work_of ss)) → AllByRecursion IsGiven ss
  given_all ss xs e none given =
      both (λ (s : FileShare D). s.work.made.items ≡ []) (λ (s : FileShare D). GivesRuns (many_of shows failures groups s) s.work.runs.now) IsGiven (λ s p q. (p, q)) ss
      (all_unmapped (λ (w : Work). w.made.items ≡ []) work_of ss none)
      (both (λ (s : FileShare D). Gives xs s.drives.items) (λ (s : FileShare D). GivesRuns (by xs) s.work.runs.now) (λ (s : FileShare D). GivesRuns (many_of shows failures groups s) s.work.runs.now)
      (λ s so g. runs_by xs s.drives.items so s.work.runs.now g) ss (gives_shares ss xs e)
      (all_unmapped (λ (w : Work). GivesRuns (by xs) w.runs.now) work_of ss (given_works (by xs) (map work_of ss) given)))

  -- what is made of each is the first of its files
  all_begun : (ss ts : List (FileShare D)) (xs : List D) (fresh works : List Work) → reverse (map drives_of ss) ≡ map one xs → map work_of ss ≡ fresh
      → AllByRecursion (λ (w : Work). w.made.items ≡ []) fresh → AllZip (HasMade shows failures groups) ss ts → works ≡ reverse (map work_of ts)
      → GivesRuns (by xs) (runs_in fresh) → AllByRecursion IsBegun works
  all_begun ss ts xs fresh works e same none has back given =
      subst (AllByRecursion IsBegun) (sym back)
      (all_reverse IsBegun (map work_of ts)
      (all_mapped IsBegun work_of ts
      (all_over (HasMade shows failures groups) IsGiven (λ (t : FileShare D). IsBegun t.work) begun_one ss ts has
      (given_all ss xs e (subst (AllByRecursion (λ (w : Work). w.made.items ≡ [])) (sym same) none) (subst (λ (ws : List Work). GivesRuns (by xs) (runs_in ws)) (sym same) given)))))

  -- ---- the files stay

  same_runs : (ss ts : List (FileShare D)) → AllZip (HasMade shows failures groups) ss ts → runs_in (map work_of ts) ≡ runs_in (map work_of ss)
  same_runs [] [] z = refl
  same_runs [] (t ∷ ts) z = absurd z
  same_runs (s ∷ ss) [] z = absurd z
  same_runs (s ∷ ss) (t ∷ ts) z = λ i. z.0.runs i ++ same_runs ss ts z.1 i

  pub runs_back : (ss ts : List (FileShare D)) (fresh works : List Work) → map work_of ss ≡ fresh → AllZip (HasMade shows failures groups) ss ts → works ≡ reverse (map work_of ts)
      → runs_in (reverse works) ≡ runs_in fresh
  runs_back ss ts fresh works same has back =
      ap runs_in (ap reverse back ∙ reverse_reverse (map work_of ts)) ∙ same_runs ss ts has ∙ ap runs_in same

  -- no drive is left if all are dealt
  all_dealt : (ss : List (FileShare D)) (left xs : List D) → left ≡ [] → map one left ++ reverse (map drives_of ss) ≡ map one xs → reverse (map drives_of ss) ≡ map one xs
  all_dealt ss left xs none e = ap (λ (ds : List D). map one ds ++ reverse (map drives_of ss)) (sym none) ∙ e

  -- ---- a run, from the drives that were dealt to those that went back

  pub run_one : (ss ts : List (FileShare D)) (left xs : List D) → left ≡ [] → map one left ++ reverse (map drives_of ss) ≡ map one xs → AllZip (HasMade shows failures groups) ss ts
      → AllByRecursion (λ (s : FileShare D). length s.drives.items ≡ 1) ts
  run_one ss ts left xs none e has = one_each ss ts xs (all_dealt ss left xs none e) has

  pub run_on : (ss ts : List (FileShare D)) (left xs ys : List D) → left ≡ [] → map one left ++ reverse (map drives_of ss) ≡ map one xs → map one ys ≡ map one left ++ reverse (map drives_of ts)
      → AllZip (HasMade shows failures groups) ss ts → AllZip GoesOn (driven_by shows failures xs) (driven_by shows failures ys)
  run_on ss ts left xs ys none e f has =
      all_on ss ts xs ys (all_dealt ss left xs none e) (f ∙ ap (λ (ds : List D). map one ds ++ reverse (map drives_of ts)) none) has

  pub run_begun : (ss ts : List (FileShare D)) (left xs : List D) (fresh works : List Work) → left ≡ [] → map one left ++ reverse (map drives_of ss) ≡ map one xs → map work_of ss ≡ fresh
      → AllByRecursion (λ (w : Work). w.made.items ≡ []) fresh → AllZip (HasMade shows failures groups) ss ts → works ≡ reverse (map work_of ts)
      → GivesRuns (by xs) (runs_in fresh) → AllByRecursion IsBegun works
  run_begun ss ts left xs fresh works none e same made has back given = all_begun ss ts xs fresh works (all_dealt ss left xs none e) same made has back given
