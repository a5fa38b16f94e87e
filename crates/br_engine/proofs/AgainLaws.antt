-- What drives read again over all volumes that they may be taken to show.
use Rattle.std.proofs.Common.{◌≡◌, ◌<◌, ◌≤◌, ℕ, zero, suc, List, [], ◌∷◌, map, take, drop, Option, Some, None, Result, Ok, Err, refl, ap, sym, subst, ◌∙◌, inl, inr, arith}
use Rattle.std.specs.Prelude.{IfErr, IfOk, option_map}
use Rattle.std.proofs.KnownBytes.{Keeps-refl}
use Rattle.std.specs.List.{AllByRecursion, AllZip}
use Rattle.br_model.specs.Bootstrap.{Group}
use Rattle.br_model.specs.Meaning.{Hit, Hits, Piece, hits_of, meaning, pieces_of}
use Rattle.br_model.specs.Name.{FileKey}
use Rattle.br_model.specs.Restored.{HitList, Names, Planned, Restored, files, files_listed, planned_in}
use Rattle.br_model.specs.Volume.{Volume}
use Rattle.br_model.proofs.ListLaws.{all_weaker}
use Rattle.br_model.proofs.MeaningLaws.{meaning_has_hits_lem}
use Rattle.br_volume.specs.Drive.{OnlyGrows}
use Rattle.br_volume.proofs.ExtendLaws.{extends_more, grows_more}
use Rattle.br_data.specs.declared.reread_fault.AgainFault.{AgainFault}
use Rattle.br_data.specs.declared.reread_fault.AgainFault.TheVariants as again
use Rattle.br_data.specs.StandingHits.{HitsStand, StandingStays}
use Rattle.br_join.specs.Joining.{Joining}
use Rattle.br_join.specs.Outcome.{restored}
use Rattle.br_join.specs.declared.item.Outcome.{Outcome}
use Rattle.br_records.specs.Runs.{AreListed}
use Rattle.br_join.specs.Runs.{files_of}
use Rattle.br_records.proofs.SortLaws.{listed_is}
use Rattle.br_pool.specs.Pool.{OnlyIfAllFail, StandsTold}
use Rattle.br_pool.specs.declared.fault.PoolFault.TheVariants as pool
use Rattle.br_pool.proofs.ListLaws.{zip_trans}
use Rattle.br_data.specs.ManyDrives.{Driven, GoOn, GoesOn, HaveFailed, RereadingMany, driven_by}
use Rattle.br_data.proofs.GoOnLaws.{given_on}
use Rattle.br_reread_files.specs.Again.{IsMadeOf}
use Rattle.br_reread_files.specs.Gathered.{Gathered}
use Rattle.br_reread_parts.specs.Given.{GivesHit, GivesHits}
use Rattle.br_reread_files.proofs.AgainLaws.{all_made}
use Rattle.br_reread_files.proofs.MeantLaws.{ShowsThem, meant_given}
use Rattle.br_engine.specs.DeliveredAgain.{CanGive, CanMake, CanReread, ChangedJoined, GivesAgain, MadeOver, MakesOver}
use Rattle.br_engine.specs.Extracting.{GivesOver, WritesNothing}
use Rattle.br_engine.specs.Fault.{IsNoDriveLeft, IsUnmade, OfAgain, fault_number}
use Rattle.br_engine.specs.Restoring.{AllStand, JoinsOver, NoneStandBy, Told}
use Rattle.br_engine.specs.declared.fault.ExtractFault.{ExtractFault}
use Rattle.br_engine.specs.declared.fault.ExtractFault.TheVariants as fault
use Rattle.br_engine.specs.declared.made.MadeFiles.{MadeFiles}
use Rattle.br_engine.proofs.ExtractLaws.{gives_files}
use Rattle.br_engine.proofs.JoinLaws.{files_of_hits}

-- ---- volumes that drives may be taken to show

-- what a drive may be taken to show after a call it may be taken to show in the midst
stands_one : (pieces : List Piece) (volumes : List Volume) (e m l : Option (List Volume)) → StandsTold pieces volumes e l → OnlyGrows e m → OnlyGrows m l
    → StandsTold pieces volumes e m
stands_one pieces volumes None m l stands p q = absurd stands
stands_one pieces volumes (Some e) None l stands p q = absurd p
stands_one pieces volumes (Some e) (Some m) None stands p q = absurd q
stands_one pieces volumes (Some e) (Some m) (Some l) stands p q = (
  stands.0,
  elim stands.1 [
    | inl throughout ↦ inl (extends_more m l volumes throughout q)
    | inr enclosed ↦ inr enclosed
  ],
)

pub stand_midst : (pieces : List Piece) (volumes : List Volume) (es ms ls : Told) → AllZip (StandsTold pieces volumes) es ls → AllZip OnlyGrows es ms
    → AllZip OnlyGrows ms ls → AllZip (StandsTold pieces volumes) es ms
stand_midst pieces volumes [] [] ls stands p q = tt
stand_midst pieces volumes [] (m ∷ ms) ls stands p q = absurd p
stand_midst pieces volumes (e ∷ es) [] ls stands p q = absurd p
stand_midst pieces volumes (e ∷ es) (m ∷ ms) [] stands p q = absurd q
stand_midst pieces volumes (e ∷ es) (m ∷ ms) (l ∷ ls) stands p q =
    (stands_one pieces volumes e m l stands.0 p.0 q.0, stand_midst pieces volumes es ms ls stands.1 p.1 q.1)

-- a drive shows them afterwards
shows_one : (pieces : List Piece) (volumes : List Volume) (failed : ℕ) (e l : Option (List Volume)) → StandsTold pieces volumes e l → OnlyGrows e l
    → ShowsThem volumes (record { shown = l; failures = failed })
shows_one pieces volumes failed None l stands grown = absurd stands
shows_one pieces volumes failed (Some e) None stands grown = absurd stands
shows_one pieces volumes failed (Some e) (Some l) stands grown = (l, refl, extends_more volumes e l grown stands.0)

module _ {D : Type 0} (shows : D → Option (List Volume)) (failures : D → ℕ) where
  -- only the volumes
  pub only_grow : (xs ys : List D) → AllZip (λ (x y : D). OnlyGrows (shows x) (shows y) × (failures x ≤ failures y)) xs ys
      → AllZip OnlyGrows (map shows xs) (map shows ys)
  only_grow [] [] z = tt
  only_grow [] (y ∷ ys) z = absurd z
  only_grow (x ∷ xs) [] z = absurd z
  only_grow (x ∷ xs) (y ∷ ys) z = (z.0.0, only_grow xs ys z.1)

  show_them : (pieces : List Piece) (volumes : List Volume) (xs ys : List D) → AllZip (StandsTold pieces volumes) (map shows xs) (map shows ys)
      → AllZip OnlyGrows (map shows xs) (map shows ys) → AllByRecursion (ShowsThem volumes) (driven_by shows failures ys)
  show_them pieces volumes [] [] stands grown = tt
  show_them pieces volumes [] (y ∷ ys) stands grown = absurd grown
  show_them pieces volumes (x ∷ xs) [] stands grown = absurd grown
  show_them pieces volumes (x ∷ xs) (y ∷ ys) stands grown =
      (shows_one pieces volumes (failures y) (shows x) (shows y) stands.0 grown.0, show_them pieces volumes xs ys stands.1 grown.1)

  -- so the hits of a bootstrap are read again
  pub reread : HitsStand → StandingStays → (groups : List Group) (volumes : List Volume) (xs ys : List D) (hs : List Hit) → AllStand (map shows xs) (map shows ys) (pieces_of groups) volumes
      → AllZip (λ (x y : D). OnlyGrows (shows x) (shows y) × (failures x ≤ failures y)) xs ys → meaning groups volumes ≡ Ok (hits_of hs) → AreListed hs
      → GivesHits (record { drives = driven_by shows failures ys; groups = groups }) hs
  reread stand stays groups volumes xs ys hs all grown means sorted =
      meant_given stand stays meaning_has_hits_lem groups volumes (record { drives = driven_by shows failures ys; groups = groups }) hs sorted
      means refl (show_them (pieces_of groups) volumes xs ys all (only_grow xs ys grown))

  -- what drives did that read again, each in its place
  in_place : (xs ys : List D) → AllZip GoesOn (driven_by shows failures xs) (driven_by shows failures ys)
      → AllZip (λ (x y : D). OnlyGrows (shows x) (shows y) × (failures x ≤ failures y)) xs ys
  in_place [] [] z = tt
  in_place [] (y ∷ ys) z = absurd z
  in_place (x ∷ xs) [] z = absurd z
  in_place (x ∷ xs) (y ∷ ys) z = (z.0, in_place xs ys z.1)

  have_failed : (xs ys : List D) → AllZip (λ (x y : Driven). x.failures < y.failures) (driven_by shows failures xs) (driven_by shows failures ys)
      → AllZip (λ (x y : D). failures x < failures y) xs ys
  have_failed [] [] z = tt
  have_failed [] (y ∷ ys) z = absurd z
  have_failed (x ∷ xs) [] z = absurd z
  have_failed (x ∷ xs) (y ∷ ys) z = (z.0, have_failed xs ys z.1)

  pub stay_driven : (m n : RereadingMany) (xs ys : List D) → m.drives ≡ driven_by shows failures xs → driven_by shows failures ys ≡ n.drives → GoOn m n
      → AllZip (λ (x y : D). OnlyGrows (shows x) (shows y) × (failures x ≤ failures y)) xs ys
  stay_driven m n xs ys e f on =
      in_place xs ys (subst (λ (ds : List Driven). AllZip GoesOn ds (driven_by shows failures ys)) e (subst (λ (ds : List Driven). AllZip GoesOn m.drives ds) (sym f) on.1))

  pub fail_driven : (m n : RereadingMany) (xs ys : List D) → m.drives ≡ driven_by shows failures xs → driven_by shows failures ys ≡ n.drives → HaveFailed m n
      → AllZip (λ (x y : D). failures x < failures y) xs ys
  fail_driven m n xs ys e f failed =
      have_failed xs ys
      (subst (λ (ds : List Driven). AllZip (λ (x y : Driven). x.failures < y.failures) ds (driven_by shows failures ys)) e
      (subst (λ (ds : List Driven). AllZip (λ (x y : Driven). x.failures < y.failures) m.drives ds) (sym f) failed))

  -- drives that failed after they had stayed in their places
  pub fail_later : (xs ys zs : List D) → AllZip (λ (x y : D). OnlyGrows (shows x) (shows y) × (failures x ≤ failures y)) xs ys
      → AllZip (λ (x y : D). failures x < failures y) ys zs → AllZip (λ (x y : D). failures x < failures y) xs zs
  fail_later xs ys zs p q = zip_trans _ _ _ (λ a b c first next. omega (arith, first.1, next)) xs ys zs p q

-- ---- what is made of what was gathered

-- hits that were given are given still
pub hits_kept : StandingStays → (a b : RereadingMany) (hits : List Hit) → GoOn a b → GivesHits a hits → GivesHits b hits
hits_kept stays a b hits on given = all_weaker (GivesHit a) (GivesHit b) (λ h one. given_on stays a b h.spot h.fragment.bytes on one) hits given

-- the files of listed hits are those of their set
files_are : (hits : List Hit) (names : Option Names) → AreListed hits → files_of hits names ≡ files (hits_of hits) (option_map planned_in names)
unfolding files
files_are hits names sorted = ap (λ (es : HitList). files_listed es (option_map planned_in names)) (sym (listed_is hits sorted))

-- drives that read again as those of before, of these groups
pub many_is : (m : RereadingMany) (ds : List Driven) (gs : List Group) → m.drives ≡ ds → m.groups ≡ gs → record { drives = ds; groups = gs } ≡ m
many_is m ds gs e f i = record { drives = sym e i; groups = sym f i }

-- what was gathered can be read again
pub can_give : (m : RereadingMany) (g : Gathered) (hits : Hits) (ds : List Driven) (gs : List Group) → hits_of g.hits ≡ hits → AreListed g.hits → m.drives ≡ ds → m.groups ≡ gs
    → ((found : List Hit) → hits_of found ≡ hits → AreListed found → GivesHits (record { drives = ds; groups = gs }) found) → GivesHits m g.hits
can_give m g hits ds gs same sorted driven grouped given = subst (λ (n : RereadingMany). GivesHits n g.hits) (many_is m ds gs driven grouped) (given g.hits same sorted)

module _ (m : RereadingMany) (g : Gathered) (hits : Hits) (names : Option Names) (rs : List Restored) (ds : List Driven) (gs : List Group)
    (same : hits_of g.hits ≡ hits) (named : g.names ≡ names) (sorted : AreListed g.hits) (driven : m.drives ≡ ds) (grouped : m.groups ≡ gs)
    (made : GivesHits m g.hits → rs ≡ files_of g.hits g.names)
    (given : (found : List Hit) → hits_of found ≡ hits → AreListed found → GivesHits (record { drives = ds; groups = gs }) found) where
  given_now : GivesHits m g.hits
  given_now = subst (λ (n : RereadingMany). GivesHits n g.hits) (many_is m ds gs driven grouped) (given g.hits same sorted)

  -- they are the files of what was taken
  pub files_made : rs ≡ files hits (option_map planned_in names)
  files_made = made given_now ∙ files_are g.hits g.names sorted ∙ (λ i. files (same i) (option_map planned_in (named i)))

  -- and they can be made once more
  pub made_again : StandingStays → (n : RereadingMany) (es : List Driven) → GoOn m n → es ≡ n.drives
      → GivesHits (record { drives = es; groups = gs }) g.hits × AllByRecursion (IsMadeOf g.hits) rs
  made_again stays n es on later = (
    subst (λ (k : RereadingMany). GivesHits k g.hits) (sym (many_is n es gs (sym later) (on.0 ∙ grouped))) (hits_kept stays m n g.hits on given_now),
    subst (AllByRecursion (IsMadeOf g.hits)) (sym (made given_now)) (all_made g.hits g.names),
  )

-- ---- what is made within a budget

-- data are not read again since each drive failed, if no drive is left
pub only_failed : (f : AgainFault) (e : ExtractFault) → OfAgain f e → IsNoDriveLeft e → f ≡ again.Failed
only_failed again.Memory e of is = absurd (no_one (ap fault_number (sym of) ∙ is))
  where
    no_one : ◌≡◌ {A = Option ℕ} (Some 1) (Some 70) → ⊥
    no_one e = let n : ◌≡◌ {A = ℕ} 1 70 = cc in omega (arith, n)
only_failed again.Failed e of is = refl
only_failed again.Changed e of is = absurd (no_two (ap fault_number (sym of) ∙ is))
  where
    no_two : ◌≡◌ {A = Option ℕ} (Some 72) (Some 70) → ⊥
    no_two e = let n : ◌≡◌ {A = ℕ} 72 70 = cc in omega (arith, n)

-- data are not read again since a volume was changed, if that is the fault
pub only_changed : (f : AgainFault) (e : ExtractFault) → OfAgain f e → e ≡ fault.Changed → f ≡ again.Changed
only_changed again.Memory e of is = let both : fault.Memory ≡ fault.Changed = sym of ∙ is in absurd cc
only_changed again.Failed e of is = let both : fault.Piece pool.NoDriveLeft ≡ fault.Changed = sym of ∙ is in absurd cc
only_changed again.Changed e of is = refl

-- nothing is said of the files if they were not made
unmade_gives : (earlier later : Told) (groups : List Group) (names : Option (List Planned)) (f : ExtractFault) → IsUnmade f → GivesOver earlier later groups names (Err f)
unmade_gives earlier later groups names fault.Memory is = λ volumes stands. tt
unmade_gives earlier later groups names (fault.Bootstrap why) is = absurd is
unmade_gives earlier later groups names (fault.Piece why) is = rw is (λ volumes stands. tt)
unmade_gives earlier later groups names fault.Changed is = λ volumes stands. tt
unmade_gives earlier later groups names (fault.Io why) is = absurd is
unmade_gives earlier later groups names (fault.NoEnd turns) is = absurd is

module _ {D : Type 0} (shows : D → Option (List Volume)) (failures : D → ℕ) (stand : HitsStand) (stays : StandingStays) (groups : List Group) (xs ys zs : List D)
    (first : AllZip (λ (x y : D). OnlyGrows (shows x) (shows y) × (failures x ≤ failures y)) xs ys)
    (next : AllZip (λ (x y : D). OnlyGrows (shows x) (shows y) × (failures x ≤ failures y)) ys zs)
    (joining : Joining) (means : JoinsOver shows xs ys groups (Ok joining)) where
  midst : (volumes : List Volume) → AllStand (map shows xs) (map shows zs) (pieces_of groups) volumes → AllStand (map shows xs) (map shows ys) (pieces_of groups) volumes
  midst volumes stands =
      stand_midst (pieces_of groups) volumes (map shows xs) (map shows ys) (map shows zs) stands (only_grow shows failures xs ys first) (only_grow shows failures ys zs next)

  can_reread : (volumes : List Volume) → AllStand (map shows xs) (map shows zs) (pieces_of groups) volumes → CanReread shows failures ys groups joining.hits
  can_reread volumes stands = λ found same sorted.
      reread shows failures stand stays groups volumes xs ys found (midst volumes stands) first (means volumes (midst volumes stands) ∙ ap Ok (sym same)) sorted

  -- the files are those of the bootstrap
  pub made_files : (names : Option Names) (result : Result MadeFiles ExtractFault) → joining.names ≡ names
      → IfOk result (MadeOver (CanReread shows failures ys groups joining.hits) joining) → IfErr result IsUnmade → MakesOver shows xs zs groups names result
  made_files names (Err f) named made unmade = unmade_gives (map shows xs) (map shows zs) groups (option_map planned_in names) f unmade
  made_files names (Ok m) named made unmade = λ volumes stands.
      let rs = made (can_reread volumes stands) in
      gives_files (map shows xs) (map shows zs) groups (option_map planned_in names) m.outcomes
      (files_of_hits (map shows xs) (map shows zs) groups (option_map planned_in names) joining.hits (Ok m.outcomes) (λ v s. means v (midst v s))
      (subst (λ (n : Option Names). map restored m.outcomes.items ≡ files joining.hits (option_map planned_in n)) named rs) tt) volumes stands

  -- and they can be made once more
  pub made_gives : (result : Result MadeFiles ExtractFault)
      → IfOk result (λ (m : MadeFiles). CanReread shows failures ys groups joining.hits → CanGive shows failures zs groups m.gathered (map restored m.outcomes.items))
      → IfOk result (λ (m : MadeFiles). GivesAgain shows failures xs zs groups m)
  made_gives (Err f) gives = tt
  made_gives (Ok m) gives = λ volumes stands. gives (can_reread volumes stands)

  -- a volume was changed only if there are none that they may be taken to show
  pub made_changed : (result : Result MadeFiles ExtractFault) → IfErr result (ChangedJoined shows failures ys groups joining)
      → IfErr result (λ (why : ExtractFault). why ≡ fault.Changed → NoneStandBy shows xs zs groups)
  made_changed (Ok m) changed = tt
  made_changed (Err f) changed = λ is volumes stands. changed is (can_reread volumes stands)

-- drives that failed after they had stayed in their places
pub fails_later : {D A : Type 0} (shows : D → Option (List Volume)) (failures : D → ℕ) (xs ys zs : List D) (result : Result A ExtractFault)
    → AllZip (λ (x y : D). OnlyGrows (shows x) (shows y) × (failures x ≤ failures y)) xs ys → OnlyIfAllFail failures ys zs IsNoDriveLeft result
    → OnlyIfAllFail failures xs zs IsNoDriveLeft result
fails_later shows failures xs ys zs (Ok a) first failed = tt
fails_later shows failures xs ys zs (Err f) first failed = λ is. fail_later shows failures xs ys zs first (failed is)

-- ---- what can be made of a part

all_taken : {X Y : Type 0} (P : Y → Type 0) (f : X → Y) (n : ℕ) (xs : List X) → AllByRecursion P (map f xs) → AllByRecursion P (map f (take n xs))
all_taken P f zero xs all = tt
all_taken P f (suc n) [] all = tt
all_taken P f (suc n) (x ∷ xs) all = (all.0, all_taken P f n xs all.1)

all_dropped : {X Y : Type 0} (P : Y → Type 0) (f : X → Y) (n : ℕ) (xs : List X) → AllByRecursion P (map f xs) → AllByRecursion P (map f (drop n xs))
all_dropped P f zero xs all = all
all_dropped P f (suc n) [] all = tt
all_dropped P f (suc n) (x ∷ xs) all = all_dropped P f n xs all.1

-- what could be made once more can be still, and so can the first of it
pub make_taken : (m : RereadingMany) (g : Gathered) (n : ℕ) (os : List (FileKey × Outcome)) → CanMake m g (map restored os) → CanMake m g (map restored (take n os))
make_taken m g n os can = (can.0, all_taken (IsMadeOf g.hits) restored n os can.1)

-- and a part of it
pub make_window : StandingStays → (a b : RereadingMany) (g : Gathered) (place n : ℕ) (os window : List (FileKey × Outcome)) → GoOn a b → window ≡ take n (drop place os)
    → CanMake a g (map restored os) → CanMake b g (map restored window)
make_window stays a b g place n os window on is can = (
  hits_kept stays a b g.hits on can.0,
  subst (λ (w : List (FileKey × Outcome)). AllByRecursion (IsMadeOf g.hits) (map restored w)) (sym is)
      (all_taken (IsMadeOf g.hits) restored n (drop place os) (all_dropped (IsMadeOf g.hits) restored place os can.1)),
)

-- ---- from call to call

-- each drive stays in its place from one call to the next
pub stay_on : {D : Type 0} (shows : D → Option (List Volume)) (failures : D → ℕ) (xs ys zs : List D)
    → AllZip (λ (x y : D). OnlyGrows (shows x) (shows y) × (failures x ≤ failures y)) xs ys
    → AllZip (λ (x y : D). OnlyGrows (shows x) (shows y) × (failures x ≤ failures y)) ys zs
    → AllZip (λ (x y : D). OnlyGrows (shows x) (shows y) × (failures x ≤ failures y)) xs zs
stay_on shows failures xs ys zs p q =
    zip_trans _ _ _ (λ a b c first next. (grows_more (shows a) (shows b) (shows c) first.0 next.0, omega (arith, first.1, next.1))) xs ys zs p q

-- a writer that was not asked has what it had
pub nothing_written : (before : Option (List ℕ)) (f : ExtractFault) → WritesNothing before before f
nothing_written before fault.Memory = Keeps-refl before
nothing_written before (fault.Bootstrap why) = Keeps-refl before
nothing_written before (fault.Piece why) = Keeps-refl before
nothing_written before fault.Changed = Keeps-refl before
nothing_written before (fault.Io why) = tt
nothing_written before (fault.NoEnd turns) = Keeps-refl before
