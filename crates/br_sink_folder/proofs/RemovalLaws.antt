-- Files that are removed again.
use Rattle.std.proofs.Common.{◌≡◌, ℕ, ◌<◌, ◌≤◌, ◌+◌, ◌⊎◌, Bool, true, false, cond, Option, Some, None, List, [], ◌∷◌, ◌++◌, length, get_or, set, take, inl, inr, refl, ap, sym, subst, ◌∙◌}
use Rattle.std.specs.Prelude.{bytes_eq}
use Rattle.std.proofs.Math.Seq.{map-set_same}
use Rattle.std.proofs.lemmas.List.{map-append, take_more}
use Rattle.br_model.specs.File.{Item}
use Rattle.br_fs.specs.Making.{Nodes, AreSet, Else, IsFileOrFree, KeepsOthers, Sets, node_at}
use Rattle.br_fs.specs.declared.kind.Kind.TheVariants.{Folder}
use Rattle.br_sink_folder.specs.Below.{AddsFolders, IsNewFolder, MakesNew}
use Rattle.br_sink_folder.specs.Removed.{AreRemoved, ChangesOne, GivesUp, HasNoFile, IsRemoved, LacksFile, MakesNoFile, MakesNone, files_of}
use Rattle.br_sink_folder.specs.declared.window.Made.{Made}
use Rattle.br_sink_folder.proofs.BelowLaws.{adds_both, adds_same, keeps_more}
use Rattle.br_sink_folder.proofs.HeldLaws.{all_more, set_own}

-- a path without a file still has none

lacks_same : (path : List ℕ) (a b : Nodes) → (node_at a path ≡ None) ⊎ (node_at a path ≡ Some (Else Folder))
    → node_at b path ≡ node_at a path → LacksFile b path
lacks_same path a b (inl free) same = inl (same ∙ free)
lacks_same path a b (inr folder) same = inr (same ∙ folder)

lacks_added : (root path : List ℕ) (a b : Nodes) → LacksFile a path
    → (node_at b path ≡ node_at a path) ⊎ IsNewFolder root path a b → LacksFile b path
lacks_added root path a b lacks (inl same) = lacks_same path a b lacks same
lacks_added root path a b lacks (inr (below, free, is)) = inr is

lacks_set : (path other : List ℕ) (a b : Nodes) → AreSet path None a b → LacksFile a other → (is : Bool) → bytes_eq path other ≡ is
    → LacksFile b other
lacks_set path other a b set lacks true is = inl (set other ∙ ap (λ (t : Bool). cond t None (node_at a other)) is)
lacks_set path other a b set lacks false is =
    lacks_same other a b lacks (set other ∙ ap (λ (t : Bool). cond t None (node_at a other)) is)

pub no_file_same : (a b : Option Nodes) → b ≡ a → MakesNoFile a b
no_file_same None None same = tt
no_file_same None (Some b) same = absurd cc
no_file_same (Some a) None same = absurd cc
no_file_same (Some a) (Some b) same =
    let is : b ≡ a = cc in λ path lacks. lacks_same path a b lacks (ap (λ (nodes : Nodes). node_at nodes path) is)

pub no_file_added : (root : List ℕ) (a b : Option Nodes) → AddsFolders root a b → MakesNoFile a b
no_file_added root None None added = tt
no_file_added root None (Some b) added = absurd added
no_file_added root (Some a) None added = absurd added
no_file_added root (Some a) (Some b) added = λ path lacks. lacks_added root path a b lacks (added path)

pub no_file_set : (path : List ℕ) (a b : Option Nodes) → Sets path None a b → MakesNoFile a b
no_file_set path None None set = tt
no_file_set path None (Some b) set = absurd set
no_file_set path (Some a) None set = absurd set
no_file_set path (Some a) (Some b) set = λ other lacks. lacks_set path other a b set lacks (bytes_eq path other) refl

pub no_file_more : (a b c : Option Nodes) → MakesNoFile a b → MakesNoFile b c → MakesNoFile a c
no_file_more None None None f g = tt
no_file_more None None (Some c) f g = absurd g
no_file_more None (Some b) c f g = absurd f
no_file_more (Some a) None c f g = absurd f
no_file_more (Some a) (Some b) None f g = absurd g
no_file_more (Some a) (Some b) (Some c) f g = λ path lacks. g path (f path lacks)

-- nothing is at a path that was cleared
pub no_file_now : (path : List ℕ) (a b : Option Nodes) → Sets path None a b → HasNoFile path b
no_file_now path None None set = tt
no_file_now path None (Some b) set = absurd set
no_file_now path (Some a) None set = absurd set
no_file_now path (Some a) (Some b) set = inl (set_own path None a b set)

-- what is changed at one path

pub changes_added : (root path : List ℕ) (a b : Option Nodes) → AddsFolders root a b → ChangesOne root path a b
changes_added root path None None added = tt
changes_added root path None (Some b) added = absurd added
changes_added root path (Some a) None added = absurd added
changes_added root path (Some a) (Some b) added = λ other apart. added other

pub changes_kept : (root path : List ℕ) (a b : Option Nodes) → KeepsOthers path a b → ChangesOne root path a b
changes_kept root path None None kept = tt
changes_kept root path None (Some b) kept = absurd kept
changes_kept root path (Some a) None kept = absurd kept
changes_kept root path (Some a) (Some b) kept = λ other apart. inl (kept other apart)

pub changes_more : (root path : List ℕ) (a b c : Option Nodes) → ChangesOne root path a b → ChangesOne root path b c → ChangesOne root path a c
changes_more root path None None None f g = tt
changes_more root path None None (Some c) f g = absurd g
changes_more root path None (Some b) c f g = absurd f
changes_more root path (Some a) None c f g = absurd f
changes_more root path (Some a) (Some b) None f g = absurd g
changes_more root path (Some a) (Some b) (Some c) f g = λ other apart. adds_both root other a b c (f other apart) (g other apart)

-- folders were made first
pub changes_then : (root path : List ℕ) (a b c : Option Nodes) → AddsFolders root a b → KeepsOthers path b c → ChangesOne root path a c
changes_then root path a b c added kept = changes_more root path a b c (changes_added root path a b added) (changes_kept root path b c kept)

pub changes_same : (root path : List ℕ) (a b : Option Nodes) → b ≡ a → ChangesOne root path a b
changes_same root path a b same = changes_added root path a b (adds_same root a b same)

-- a file at a path is made and written, or removed again

pub file_changes : (root path whole : List ℕ) (a b c : Option Nodes) → whole ≡ root ++ path → AddsFolders root a b → KeepsOthers whole b c
    → ChangesOne root (root ++ path) a c
file_changes root path whole a b c is added kept = rw is at (changes_then root whole a b c added kept)

pub file_changes_twice : (root path whole : List ℕ) (a b c d : Option Nodes) → whole ≡ root ++ path → AddsFolders root a b
    → KeepsOthers whole b c → KeepsOthers whole c d → ChangesOne root (root ++ path) a d
file_changes_twice root path whole a b c d is added kept more =
    rw is at (changes_then root whole a b d added (keeps_more whole b c d kept more))

pub file_is_undone : (root path whole : List ℕ) (a b c d e : Option Nodes) → whole ≡ root ++ path → AddsFolders root a b
    → KeepsOthers whole b c → KeepsOthers whole c d → ChangesOne root whole d e → ChangesOne root (root ++ path) a e
file_is_undone root path whole a b c d e is added kept more last =
    rw is at (changes_more root whole a d e (changes_then root whole a b d added (keeps_more whole b c d kept more)) last)

-- a file that could not be made or written

pub unmade_same : (path : List ℕ) (a b : Option Nodes) → b ≡ a → MakesNone path a b
unmade_same path a b same = inl same

pub unmade_cleared : (path : List ℕ) (a b c : Option Nodes) → IsFileOrFree a path → Sets path None a b → c ≡ b → MakesNone path a c
unmade_cleared path a b c file cleared same = inr (file, subst (HasNoFile path) (sym same) (no_file_now path a b cleared))

module _ (refused : List ℕ → Type 0) (root path whole : List ℕ) where
  pub gives_added : (a b : Option Nodes) → AddsFolders root a b → GivesUp refused root path a b
  gives_added a b added = inl added

  pub gives_same : (a b : Option Nodes) → b ≡ a → GivesUp refused root path a b
  gives_same a b same = inl (adds_same root a b same)

  pub gives_unmade : (a b c : Option Nodes) → whole ≡ root ++ path → AddsFolders root a b → MakesNone whole b c → GivesUp refused root path a c
  gives_unmade a b c is added (inl same) = inl (subst (AddsFolders root a) (sym same) added)
  gives_unmade a b c is added (inr (file, none)) = inr (b, added, rw is at file, inl (rw is at none))

  pub gives_unwritten : (contents : Option (List ℕ)) (a b m c : Option Nodes) → whole ≡ root ++ path → AddsFolders root a b
      → MakesNew whole contents b m → IsRemoved refused c whole → GivesUp refused root path a c
  gives_unwritten contents a b m c is added (middle, file, cleared, made) removed = inr (b, added, rw is at file, rw is at removed)

-- folders were made first
pub no_file_then : (root : List ℕ) (a b c : Option Nodes) → AddsFolders root a b → MakesNoFile b c → MakesNoFile a c
no_file_then root a b c added kept = no_file_more a b c (no_file_added root a b added) kept

pub no_file_still : (path : List ℕ) (a b : Option Nodes) → HasNoFile path a → MakesNoFile a b → HasNoFile path b
no_file_still path None None none kept = tt
no_file_still path None (Some b) none kept = absurd kept
no_file_still path (Some a) None none kept = absurd kept
no_file_still path (Some a) (Some b) none kept = kept path none

module _ (refused : List ℕ → Type 0) (root : List ℕ) (place : ℕ) where
  removed_still : (path : List ℕ) (a b : Option Nodes) → HasNoFile path a ⊎ refused path → MakesNoFile a b → IsRemoved refused b path
  removed_still path a b (inl none) kept = inl (no_file_still path a b none kept)
  removed_still path a b (inr tried) kept = inr tried

  all_still : (files : List (ℕ × List ℕ)) (a b : Option Nodes) → AreRemoved refused root place files a → MakesNoFile a b
      → AreRemoved refused root place files b
  all_still [] a b removed kept = tt
  all_still (file ∷ files) a b removed kept =
      ((λ later. removed_still (root ++ file.1) a b (removed.0 later) kept), all_still files a b removed.1 kept)

  -- one more was looked at
  pub removed_more : {W : Type 0} (made : List (Made W)) (i : ℕ) (one : Made W) (a b : Option Nodes)
      → AreRemoved refused root place (files_of (take i made)) a → i < length made → one ≡ get_or made i one → MakesNoFile a b
      → (place ≤ one.place → IsRemoved refused b (root ++ one.item.now.path))
      → AreRemoved refused root place (files_of (take (i + 1) made)) b
  removed_more made i one a b removed low is kept now =
      let more : take (i + 1) made ≡ take i made ++ one ∷ [] =
      take_more made i one low ∙ ap (λ (o : Made _). take i made ++ o ∷ []) (sym is) in
      let all : files_of (take (i + 1) made) ≡ files_of (take i made) ++ (one.place, one.item.now.path) ∷ [] =
      ap (λ (l : List (Made _)). files_of l) more ∙ map-append (λ (m : Made _). (m.place, m.item.now.path)) (take i made) (one ∷ []) in
      subst (λ (l : List (ℕ × List ℕ)). AreRemoved refused root place l b) (sym all)
      (all_more (λ (file : ℕ × List ℕ). place ≤ file.0 → IsRemoved refused b (root ++ file.1)) (files_of (take i made))
      (one.place, one.item.now.path) (all_still (files_of (take i made)) a b removed kept) now)

-- places and paths stay

-- one of them has changed
pub files_set : {W : Type 0} (made : List (Made W)) (i : ℕ) (old new : Made W) → old ≡ get_or made i old → new.place ≡ old.place
    → new.item.now ≡ old.item.now → files_of (set made i new) ≡ files_of made
files_set made i old new is place item =
    let file : ℕ × List ℕ = (old.place, old.item.now.path) in
    let same : (new.place, new.item.now.path) ≡ file =
    ap (λ (p : ℕ). (p, new.item.now.path)) place ∙ ap (λ (it : Item). (old.place, it.path)) item in
    map-set_same (λ (m : Made _). (m.place, m.item.now.path)) made i new old
    (same ∙ ap (λ (m : Made _). (m.place, m.item.now.path)) is)
