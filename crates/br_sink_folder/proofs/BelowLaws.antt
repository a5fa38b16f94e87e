-- What is below a folder after several changes.
use Rattle.std.proofs.Common.{◌≡◌, ℕ, ◌<◌, ◌+◌, ◌-◌, ◌⊎◌, Bool, true, false, cond, Option, Some, None, Result, Ok, Err, OnOk, List, ◌∷◌, ◌++◌, length, take, inl, inr, refl, ap, sym, arith, ◌∙◌}
use Rattle.std.specs.Prelude.{bytes_eq, slice_range, suc}
use Rattle.std.proofs.lemmas.Slice.Eq.{bytes_eq-Decides}
use Rattle.std.proofs.Math.Seq.{take-append-add}
use Rattle.std.specs.Io.KnownBytes.{Appends}
use Rattle.br_fs.specs.Making.{Node, Nodes, Bytes, Else, IsBelow, IsFileOrFree, IsFinished, IsFolderNow, KeepsOthers, MakesFile, Opened, Sets, node_at}
use Rattle.br_fs.specs.declared.kind.Kind.TheVariants.{Folder}
use Rattle.br_fs.proofs.MakingLaws.{opened_still, put_whole, same_keeps, set_keeps, set_over}
use Rattle.br_sink_folder.specs.Below.{AddsFolders, IsNewFolder, KeepsOutside, MakesNew, PutsBelow, PutsNew}

-- paths that begin with the folder's

pub below_root : (root path rest : List ℕ) → path ≡ 47 ∷ rest → IsBelow root (root ++ path)
below_root root path rest is = (rest, ap (λ (p : List ℕ). root ++ p) is)

-- a front of a path below the folder that is longer than the folder's
pub front_below : (root path front : List ℕ) (at : ℕ) → IsBelow root path → length root < at → front ≡ slice_range path 0 at
    → IsBelow root front
front_below root path front at (rest, is) long cut =
    let n : ℕ = at - (length root + 1) in
    let same : length root + suc n ≡ at = omega (arith, long) in
    let more : take (length root + suc n) (root ++ 47 ∷ rest) ≡ root ++ 47 ∷ take n rest = take-append-add root (47 ∷ rest) (suc n) in
    let less : at - 0 ≡ at = omega arith in
    let front_is : slice_range path 0 at ≡ take at path = ap (λ (k : ℕ). take k path) less in
    (take n rest, cut ∙ front_is ∙ ap (λ (k : ℕ). take k path) (sym same) ∙ ap (λ (p : List ℕ). take (length root + suc n) p) is ∙ more)

-- folders that are added

pub adds_same : (root : List ℕ) (earlier later : Option Nodes) → later ≡ earlier → AddsFolders root earlier later
adds_same root None None same = tt
adds_same root None (Some l) same = absurd cc
adds_same root (Some e) None same = absurd cc
adds_same root (Some e) (Some l) same = let is : l ≡ e = cc in λ other. inl (ap (λ (nodes : Nodes). node_at nodes other) is)

sets_folder : (root path : List ℕ) (earlier later : Nodes) (other : List ℕ) → IsBelow root path → node_at earlier path ≡ None
    → (is : Bool) → bytes_eq path other ≡ is → node_at later other ≡ cond is (Some (Else Folder)) (node_at earlier other)
    → (node_at later other ≡ node_at earlier other) ⊎ IsNewFolder root other earlier later
sets_folder root path earlier later other below free true same set =
    let is : path ≡ other = (bytes_eq-Decides path other).0 same in inr (rw is at below, rw is at free, set)
sets_folder root path earlier later other below free false same set = inl set

pub adds_folder : (root path : List ℕ) (earlier later : Option Nodes) → IsBelow root path
    → IsFolderNow path earlier later → AddsFolders root earlier later
adds_folder root path earlier later below (inl (was, same)) = adds_same root earlier later same
adds_folder root path None None below (inr (free, set)) = tt
adds_folder root path None (Some l) below (inr (free, set)) = absurd set
adds_folder root path (Some e) None below (inr (free, set)) = absurd set
adds_folder root path (Some e) (Some l) below (inr (free, set)) =
    λ other. sets_folder root path e l other below free (bytes_eq path other) refl (set other)

pub adds_both : (root other : List ℕ) (a b c : Nodes) → (node_at b other ≡ node_at a other) ⊎ IsNewFolder root other a b
    → (node_at c other ≡ node_at b other) ⊎ IsNewFolder root other b c
    → (node_at c other ≡ node_at a other) ⊎ IsNewFolder root other a c
adds_both root other a b c (inl same) (inl again) = inl (again ∙ same)
adds_both root other a b c (inl same) (inr (below, free, is)) = inr (below, sym same ∙ free, is)
adds_both root other a b c (inr (below, free, is)) (inl again) = inr (below, free, again ∙ is)
adds_both root other a b c (inr (below, free, is)) (inr (also, none, folder)) = let never : None ≡ Some (Else Folder) = sym none ∙ is in absurd cc

pub adds_more : (root : List ℕ) (a b c : Option Nodes) → AddsFolders root a b → AddsFolders root b c → AddsFolders root a c
adds_more root None None None f g = tt
adds_more root None None (Some c) f g = absurd g
adds_more root None (Some b) c f g = absurd f
adds_more root (Some a) None c f g = absurd f
adds_more root (Some a) (Some b) None f g = absurd g
adds_more root (Some a) (Some b) (Some c) f g = λ other. adds_both root other a b c (f other) (g other)

-- one path that is changed

-- two laws of br_fs under names of this crate, since a tactic takes only those
pub same_others : (path : List ℕ) (earlier later : Option Nodes) → later ≡ earlier → KeepsOthers path earlier later
same_others path earlier later same = same_keeps path earlier later same

pub set_others : (path : List ℕ) (left : Option Node) (earlier later : Option Nodes) → Sets path left earlier later → KeepsOthers path earlier later
set_others path left earlier later set = set_keeps path left earlier later set

pub keeps_more : (path : List ℕ) (a b c : Option Nodes) → KeepsOthers path a b → KeepsOthers path b c → KeepsOthers path a c
keeps_more path None None None f g = tt
keeps_more path None None (Some c) f g = absurd g
keeps_more path None (Some b) c f g = absurd f
keeps_more path (Some a) None c f g = absurd f
keeps_more path (Some a) (Some b) None f g = absurd g
keeps_more path (Some a) (Some b) (Some c) f g = λ other apart. g other apart ∙ f other apart

-- a new file, finished or not
pub made_keeps : (path : List ℕ) (contents : Option (List ℕ)) (a b : Option Nodes) → MakesFile path contents a b → KeepsOthers path a b
made_keeps path contents None None made = tt
made_keeps path contents None (Some b) made = absurd made
made_keeps path contents (Some a) None made = absurd made
made_keeps path contents (Some a) (Some b) made = set_keeps path (Some (Opened made.0)) (Some a) (Some b) made.2

pub made_new : (path : List ℕ) (contents : Option (List ℕ)) (a b c : Option Nodes) → IsFileOrFree a path → Sets path None a b
    → MakesFile path contents b c → MakesNew path contents a c
made_new path contents a b c file cleared made = (b, file, cleared, made)

-- an earlier file is removed, and a new one is made and has the bytes
put_over : (path bytes : List ℕ) (before after : Option (List ℕ)) (a b c : Option Nodes) → Appends before after bytes
    → IsFinished path after b c → MakesNew path before a b → PutsNew path bytes a c
put_over path bytes before after a b c more put (middle, file, cleared, made) = (
  file,
  set_over path None (Some (Bytes bytes)) a middle c cleared
      (put_whole path bytes before after middle b c made more (put (opened_still path bytes before after middle b made more))),
)

pub new_put : {A E : Type 0} (result : Result A E) (path bytes : List ℕ) (before after : Option (List ℕ)) (b c : Option Nodes)
    → Appends before after bytes → OnOk result (IsFinished path after b c)
    → OnOk result ((a : Option Nodes) → MakesNew path before a b → PutsNew path bytes a c)
new_put (Ok x) path bytes before after b c more put = λ a made. put_over path bytes before after a b c more put made
new_put (Err e) path bytes before after b c more put = tt

pub new_written : (path bytes : List ℕ) (before after : Option (List ℕ)) (b c : Option Nodes) → Appends before after bytes
    → IsFinished path after b c → (a : Option Nodes) → MakesNew path before a b → PutsNew path bytes a c
new_written path bytes before after b c more put a made = put_over path bytes before after a b c more put made

-- what a folder has beside what is below it

pub outside_more : (root : List ℕ) (a b c : Option Nodes) → KeepsOutside root a b → KeepsOutside root b c → KeepsOutside root a c
outside_more root None None None f g = tt
outside_more root None None (Some c) f g = absurd g
outside_more root None (Some b) c f g = absurd f
outside_more root (Some a) None c f g = absurd f
outside_more root (Some a) (Some b) None f g = absurd g
outside_more root (Some a) (Some b) (Some c) f g = λ other apart. g other apart ∙ f other apart

pub outside_same : (root : List ℕ) (earlier later : Option Nodes) → later ≡ earlier → KeepsOutside root earlier later
outside_same root None None same = tt
outside_same root None (Some l) same = absurd cc
outside_same root (Some e) None same = absurd cc
outside_same root (Some e) (Some l) same = let is : l ≡ e = cc in λ other apart. ap (λ (nodes : Nodes). node_at nodes other) is

added_at : (root other : List ℕ) (a b : Nodes) → (IsBelow root other → ⊥) → (node_at b other ≡ node_at a other) ⊎ IsNewFolder root other a b
    → node_at b other ≡ node_at a other
added_at root other a b apart (inl same) = same
added_at root other a b apart (inr (below, free, is)) = absurd (apart below)

pub outside_added : (root : List ℕ) (a b : Option Nodes) → AddsFolders root a b → KeepsOutside root a b
outside_added root None None f = tt
outside_added root None (Some b) f = absurd f
outside_added root (Some a) None f = absurd f
outside_added root (Some a) (Some b) f = λ other apart. added_at root other a b apart (f other)

pub differs : (path other : List ℕ) → (path ≡ other → ⊥) → (is : Bool) → bytes_eq path other ≡ is → is ≡ false
differs path other apart true is = absurd (apart ((bytes_eq-Decides path other).0 is))
differs path other apart false is = refl

pub outside_set : (root path : List ℕ) (a b : Option Nodes) → IsBelow root path → KeepsOthers path a b → KeepsOutside root a b
outside_set root path None None below f = tt
outside_set root path None (Some b) below f = absurd f
outside_set root path (Some a) None below f = absurd f
outside_set root path (Some a) (Some b) below f =
    λ other apart. f other (differs path other (λ is. apart (rw is at below)) (bytes_eq path other) refl)

-- something below the folder is changed after that
pub outside_then : (root path : List ℕ) (a b c : Option Nodes) → KeepsOutside root a b → IsBelow root path → KeepsOthers path b c
    → KeepsOutside root a c
outside_then root path a b c f below others = outside_more root a b c f (outside_set root path b c below others)

-- something below the folder was changed before that
pub outside_first : (root path : List ℕ) (a b c : Option Nodes) → IsBelow root path → KeepsOthers path a b → KeepsOutside root b c
    → KeepsOutside root a c
outside_first root path a b c below others f = outside_more root a b c (outside_set root path a b below others) f

-- twice, and then something else below the folder
pub outside_twice : (root path : List ℕ) (a b c d : Option Nodes) → KeepsOutside root a b → IsBelow root path → KeepsOthers path b c
    → KeepsOthers path c d → KeepsOutside root a d
outside_twice root path a b c d f below others more = outside_then root path a b d f below (keeps_more path b c d others more)

pub outside_undone : (root path : List ℕ) (a b c d e : Option Nodes) → KeepsOutside root a b → IsBelow root path → KeepsOthers path b c
    → KeepsOthers path c d → KeepsOutside root d e → KeepsOutside root a e
outside_undone root path a b c d e f below others more last = outside_more root a d e (outside_twice root path a b c d f below others more) last

-- folders are made, and then the file
put_there : (root path whole bytes : List ℕ) (a b c : Option Nodes) → whole ≡ root ++ path → AddsFolders root a b
    → PutsNew whole bytes b c → PutsBelow root path bytes a c
put_there root path whole bytes a b c is added put = (b, added, rw is at put)

pub put_below : {A E : Type 0} (result : Result A E) (root path whole bytes : List ℕ) (contents : Option (List ℕ)) (a b m c : Option Nodes)
    → whole ≡ root ++ path → AddsFolders root a b → MakesNew whole contents b m
    → OnOk result ((e : Option Nodes) → MakesNew whole contents e m → PutsNew whole bytes e c) → OnOk result (PutsBelow root path bytes a c)
put_below (Ok x) root path whole bytes contents a b m c is added made put = put_there root path whole bytes a b c is added (put b made)
put_below (Err e) root path whole bytes contents a b m c is added made put = tt

pub put_parts_below : (root path whole bytes : List ℕ) (contents : Option (List ℕ)) (a b m c : Option Nodes) → whole ≡ root ++ path
    → AddsFolders root a b → MakesNew whole contents b m → ((e : Option Nodes) → MakesNew whole contents e m → PutsNew whole bytes e c)
    → PutsBelow root path bytes a c
put_parts_below root path whole bytes contents a b m c is added made put = put_there root path whole bytes a b c is added (put b made)
