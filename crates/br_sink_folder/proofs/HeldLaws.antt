-- What is left below a folder while files are put, some of which are held open.
use Rattle.std.proofs.Common.{◌≡◌, ℕ, zero, suc, ◌<◌, ◌≤◌, ◌+◌, ◌⊎◌, Bool, true, false, cond, Option, Some, None, Result, Ok, Err, OnOk, List, [], ◌∷◌, ◌++◌, length, get_or, set, take, drop, inl, inr, refl, ap, sym, subst, ◌∙◌, ⊎_elim, arith}
use Rattle.std.specs.Prelude.{◌&&◌, bytes_eq, ⊤}
use Rattle.std.specs.List.{AllByRecursion}
use Rattle.std.proofs.lemmas.List.{drop-set-lt, drop_all, drop_more, map-append, take-append-le, take_all, take_more_set}
use Rattle.std.proofs.lemmas.List.Sums.{fold-append}
use Rattle.std.proofs.Math.Seq.{take-length}
use Rattle.std.proofs.lemmas.Slice.Eq.{bytes_eq-Decides}
use Rattle.std.specs.Io.KnownBytes.{Appends}
use Rattle.br_model.specs.File.{Item, has_bytes}
use Rattle.br_fs.specs.Making.{Nodes, Node, Bytes, Opened, AreSet, IsFinished, IsFree, KeepsOthers, MakesFile, node_at}
use Rattle.br_sink_folder.specs.Below.{AddsFolders, IsNewFolder, PutsBelow}
use Rattle.br_sink_folder.specs.FolderSink.{PutsItem}
use Rattle.br_sink_folder.specs.Held.{AnsweredAt, AppendsSome, AreAnswered, AreLast, AreAllFrom, ArePlaced, FinishesOne, FinishesSome, HaveOwnPaths, Holds, HoldsOver, IsLeft, IsNew, IsOpenWith, IsPlaceOf, IsWritten, LeavesAll, LeavesAnswered, LeavesFiles, LeavesWritten, MakesOne, NoneAt, Rise, WritesEach, WritesOne, bytes_after, bytes_put, items_of, path_at}
use Rattle.br_sink_folder.specs.Removed.{files_of}
use Rattle.br_sink_folder.specs.Way.{MakesFolder, MakesFolders}
use Rattle.br_sink_folder.specs.declared.window.Made.{Made}
use Rattle.br_sink_folder.proofs.BelowLaws.{adds_both, differs}
use Rattle.br_sink_folder.proofs.WayLaws.{folders_more, folders_stay, free_no_folder, no_folder, none_told, opened_no_folder, stay_added, stay_item, stay_same, stay_set}

-- what is at one path after one more change

pub folder_left : (root path : List ℕ) (was : Option (List ℕ)) (a b c : Nodes) → IsLeft root path was a b
    → (node_at c path ≡ node_at b path) ⊎ IsNewFolder root path b c → IsLeft root path was a c
folder_left root path (Some bytes) a b c left (inl same) = same ∙ left
folder_left root path (Some bytes) a b c left (inr (below, free, is)) = let never : None ≡ Some (Bytes bytes) = sym free ∙ left in absurd cc
folder_left root path None a b c left added = adds_both root path a b c left added

pub still_opened : (root path : List ℕ) (n : ℕ) (b c : Nodes) → node_at b path ≡ Some (Opened n)
    → (node_at c path ≡ node_at b path) ⊎ IsNewFolder root path b c → node_at c path ≡ Some (Opened n)
still_opened root path n b c is (inl same) = same ∙ is
still_opened root path n b c is (inr (below, free, folder)) = let never : None ≡ Some (Opened n) = sym free ∙ is in absurd cc

pub set_own : (path : List ℕ) (node : Option Node) (b c : Nodes) → AreSet path node b c → node_at c path ≡ node
set_own path node b c set = set path ∙ ap (λ (t : Bool). cond t node (node_at b path)) ((bytes_eq-Decides path path).1 refl)

pub set_apart : (path other : List ℕ) (node : Option Node) (b c : Nodes) → AreSet path node b c → (path ≡ other → ⊥)
    → node_at c other ≡ node_at b other
set_apart path other node b c set apart =
    set other ∙ ap (λ (t : Bool). cond t node (node_at b other)) (differs path other apart (bytes_eq path other) refl)

pub apart_if : (path other : List ℕ) → bytes_eq path other ≡ false → path ≡ other → ⊥
apart_if path other none is = let never : true ≡ false = sym ((bytes_eq-Decides path other).1 is) ∙ none in absurd cc

-- the bytes of a path after one more item was put

put_more : (root path : List ℕ) (items : List Item) (item : Item)
    → bytes_put root (items ++ item ∷ []) path ≡ bytes_after root path (bytes_put root items path) item
put_more root path items item = fold-append (bytes_after root path) None items (item ∷ [])

pub put_apart : (root path : List ℕ) (items : List Item) (item : Item) → (root ++ item.path ≡ path → ⊥)
    → bytes_put root (items ++ item ∷ []) path ≡ bytes_put root items path
put_apart root path items item apart =
    put_more root path items item
    ∙ ap (λ (t : Bool). cond (t && has_bytes item.kind) (Some item.bytes) (bytes_put root items path))
    (differs (root ++ item.path) path apart (bytes_eq (root ++ item.path) path) refl)

pub put_own : (root : List ℕ) (items : List Item) (item : Item) → has_bytes item.kind ≡ true
    → bytes_put root (items ++ item ∷ []) (root ++ item.path) ≡ Some item.bytes
put_own root items item has =
    let path : List ℕ = root ++ item.path in
    put_more root path items item
    ∙ ap (λ (t : Bool). cond (t && has_bytes item.kind) (Some item.bytes) (bytes_put root items path)) ((bytes_eq-Decides path path).1 refl)
    ∙ ap (λ (t : Bool). cond t (Some item.bytes) (bytes_put root items path)) has

none_if : (t : Bool) → t && false ≡ false
none_if true = refl
none_if false = refl

put_none : (root path : List ℕ) (items : List Item) (item : Item) → has_bytes item.kind ≡ false
    → bytes_put root (items ++ item ∷ []) path ≡ bytes_put root items path
put_none root path items item none =
    put_more root path items item
    ∙ ap (λ (t : Bool). cond (bytes_eq (root ++ item.path) path && t) (Some item.bytes) (bytes_put root items path)) none
    ∙ ap (λ (t : Bool). cond t (Some item.bytes) (bytes_put root items path)) (none_if (bytes_eq (root ++ item.path) path))

-- lists with one more at the end

pub all_front : {A : Type 0} (P : A → Type 0) (xs : List A) (x : A) → AllByRecursion P (xs ++ x ∷ []) → AllByRecursion P xs
all_front P [] x all = tt
all_front P (y ∷ xs) x all = (all.0, all_front P xs x all.1)

pub all_end : {A : Type 0} (P : A → Type 0) (xs : List A) (x : A) → AllByRecursion P (xs ++ x ∷ []) → P x
all_end P [] x all = all.0
all_end P (y ∷ xs) x all = all_end P xs x all.1

pub all_more : {A : Type 0} (P : A → Type 0) (xs : List A) (x : A) → AllByRecursion P xs → P x → AllByRecursion P (xs ++ x ∷ [])
all_more P [] x all is = (is, tt)
all_more P (y ∷ xs) x all is = (all.0, all_more P xs x all.1 is)

own_more : (root : List ℕ) (its : List Item) (item : Item) → HaveOwnPaths root its → NoneAt root (root ++ item.path) its
    → HaveOwnPaths root (its ++ item ∷ [])
own_more root [] item own none = (tt, tt)
own_more root (x ∷ its) item own none =
    (all_more (λ (i : Item). root ++ i.path ≡ root ++ x.path → ⊥) its item own.0 (λ is. none.0 (sym is)), own_more root its item own.1 none.1)

last_apart : (root : List ℕ) (items its : List Item) (item : Item) → AreLast root items its → NoneAt root (root ++ item.path) its
    → AreLast root (items ++ item ∷ []) its
last_apart root items [] item last none = tt
last_apart root items (x ∷ its) item last none =
    (put_apart root (root ++ x.path) items item (λ is. none.0 (sym is)) ∙ last.0, last_apart root items its item last.1 none.1)

last_none : (root : List ℕ) (items its : List Item) (item : Item) → AreLast root items its → has_bytes item.kind ≡ false
    → AreLast root (items ++ item ∷ []) its
last_none root items [] item last no_bytes = tt
last_none root items (x ∷ its) item last no_bytes =
    (put_none root (root ++ x.path) items item no_bytes ∙ last.0, last_none root items its item last.1 no_bytes)

-- the items at their places

path_more : (items : List Item) (item : Item) (n : ℕ) (path : List ℕ) → path_at items n ≡ Some path → path_at (items ++ item ∷ []) n ≡ Some path
path_more [] item n path is = absurd cc
path_more (x ∷ items) item zero path is = is
path_more (x ∷ items) item (suc n) path is = path_more items item n path is

path_new : (items : List Item) (item : Item) (n : ℕ) → n ≡ length items → path_at (items ++ item ∷ []) n ≡ Some item.path
path_new [] item n is = ap (λ (k : ℕ). path_at (item ∷ []) k) is
path_new (x ∷ items) item zero is = absurd (omega (arith, is))
path_new (x ∷ items) item (suc n) is = path_new items item n (omega (arith, is))

path_low : (items : List Item) (n : ℕ) (path : List ℕ) → path_at items n ≡ Some path → n < length items
path_low [] n path is = absurd cc
path_low (x ∷ items) zero path is = omega arith
path_low (x ∷ items) (suc n) path is = let low = path_low items n path is in omega (arith, low)

placed_more : (items : List Item) (item : Item) (files : List (ℕ × List ℕ)) → ArePlaced items files → ArePlaced (items ++ item ∷ []) files
placed_more items item [] placed = tt
placed_more items item (file ∷ files) placed = (path_more items item file.0 file.1 placed.0, placed_more items item files placed.1)

all_low : (items : List Item) (n : ℕ) (files : List (ℕ × List ℕ)) → n ≡ length items → ArePlaced items files
    → AllByRecursion (λ (file : ℕ × List ℕ). file.0 < n) files
all_low items n [] is placed = tt
all_low items n (file ∷ files) is placed =
    let low = path_low items file.0 file.1 placed.0 in (omega (arith, low, is), all_low items n files is placed.1)

place_low : (items : List Item) (files : List (ℕ × List ℕ)) (place : ℕ) → ArePlaced items files → IsPlaceOf place files → place < length items
place_low items [] place placed at = absurd at
place_low items (file ∷ files) place placed (inl is) = let low = path_low items file.0 file.1 placed.0 in omega (arith, low, is)
place_low items (file ∷ files) place placed (inr more) = place_low items files place placed.1 more

last_place : (files : List (ℕ × List ℕ)) (file : ℕ × List ℕ) (place : ℕ) → IsPlaceOf place (files ++ file ∷ [])
    → IsPlaceOf place files ⊎ (file.0 ≡ place)
last_place [] file place (inl is) = inr is
last_place [] file place (inr none) = absurd none
last_place (first ∷ files) file place (inl is) = inl (inl is)
last_place (first ∷ files) file place (inr more) =
    ⊎_elim (λ (front : IsPlaceOf place files). inl (inr front)) (λ (is : file.0 ≡ place). inr is) (last_place files file place more)

-- what is put from a place on, if no item from there on has the path

puts_before : (root path : List ℕ) (items : List Item) (item : Item) (place : ℕ) → place ≤ length items
    → bytes_put root (items ++ item ∷ []) path ≡ bytes_put root items path → bytes_put root items path ≡ bytes_put root (take place items) path
    → bytes_put root (items ++ item ∷ []) path ≡ bytes_put root (take place (items ++ item ∷ [])) path
puts_before root path items item place low last more =
    last ∙ more ∙ ap (λ (l : List Item). bytes_put root l path) (sym (take-append-le place items (item ∷ []) low))

all_without : (root : List ℕ) (items : List Item) (item : Item) (files : List (ℕ × List ℕ)) → has_bytes item.kind ≡ false → ArePlaced items files
    → AreAllFrom root items files → AreAllFrom root (items ++ item ∷ []) files
all_without root items item files none placed all = λ place path at free.
    let low = place_low items files place placed at in
    puts_before root path items item place (omega (arith, low)) (put_none root path items item none) (all place path at free)

all_held : (root : List ℕ) (items : List Item) (item : Item) (files : List (ℕ × List ℕ)) (own : ℕ) → own ≡ length items → ArePlaced items files
    → AreAllFrom root items files → AreAllFrom root (items ++ item ∷ []) (files ++ (own, item.path) ∷ [])
all_held root items item files own is placed all = λ place path at free.
    let file : ℕ × List ℕ = (own, item.path) in
    let P : ℕ × List ℕ → Type 0 = λ it. place ≤ it.0 → root ++ it.1 ≡ path → ⊥ in
    ⊎_elim
    (λ (front : IsPlaceOf place files).
    let low = place_low items files place placed front in
    puts_before root path items item place (omega (arith, low))
    (put_apart root path items item (all_end P files file free (omega (arith, low, is)))) (all place path front (all_front P files file free)))
    (λ (same : own ≡ place).
    let low : place ≤ length items = omega (arith, same, is) in
    let whole : items ≡ take place items = sym (ap (λ (n : ℕ). take n items) (sym same ∙ is) ∙ take-length items) in
    puts_before root path items item place low (put_apart root path items item (all_end P files file free (omega (arith, same))))
    (ap (λ (l : List Item). bytes_put root l path) whole))
    (last_place files file place at)

rise_more : (files : List (ℕ × List ℕ)) (file : ℕ × List ℕ) → Rise files → AllByRecursion (λ (other : ℕ × List ℕ). other.0 < file.0) files
    → Rise (files ++ file ∷ [])
rise_more [] file rise low = (tt, tt)
rise_more (first ∷ files) file rise low =
    (all_more (λ (later : ℕ × List ℕ). first.0 < later.0) files file rise.0 low.0, rise_more files file rise.1 low.1)

-- of the written files some are finished, unless their result is a fault, and the others are left

pub record Closes {W : Type 0} (contents : W → Option (List ℕ)) (root : List ℕ) (items : List Item) (done left : List (Made W))
    (earlier later : Nodes) : Type 0 where
  pub rest : (path : List ℕ) → AnsweredAt root path done → NoneAt root path (items_of left) → IsLeft root path (bytes_put root items path) earlier later
  pub apart : HaveOwnPaths root (items_of left)
  pub last : AreLast root items (items_of left)
  pub each : AllByRecursion (IsWritten contents root later) left
  pub folders : AreAnswered done → MakesFolders root items (Some later)

abbrev pub ClosesOver : {W : Type 0} → (W → Option (List ℕ)) → List ℕ → List Item → List (Made W) → List (Made W) → Option Nodes → Option Nodes → Type 0
ClosesOver contents root items done left None None = ⊤
ClosesOver contents root items done left (Some earlier) (Some later) = Closes contents root items done left earlier later
ClosesOver contents root items done left None (Some later) = ⊥
ClosesOver contents root items done left (Some earlier) None = ⊥

module _ {W : Type 0} (contents : W → Option (List ℕ)) (root : List ℕ) where
  -- files that are open stay so where their paths are not changed

  open_still : (bytes : List ℕ) (b c : Nodes) (m : Made W) → IsOpenWith contents root bytes b m
      → (node_at c (root ++ m.item.now.path) ≡ node_at b (root ++ m.item.now.path)) ⊎ IsNewFolder root (root ++ m.item.now.path) b c
      → IsOpenWith contents root bytes c m
  open_still bytes b c m o added = (o.0, o.1, o.2, o.3, still_opened root (root ++ m.item.now.path) o.1 b c o.4 added)

  new_folders : (b c : Nodes) (made : List (Made W))
      → ((path : List ℕ) → (node_at c path ≡ node_at b path) ⊎ IsNewFolder root path b c)
      → AllByRecursion (IsNew contents root b) made → AllByRecursion (IsNew contents root c) made
  new_folders b c [] added each = tt
  new_folders b c (m ∷ made) added each =
      (open_still [] b c m each.0 (added (root ++ m.item.now.path)), new_folders b c made added each.1)

  new_set : (path : List ℕ) (node : Option Node) (b c : Nodes) (made : List (Made W)) → AreSet path node b c
      → NoneAt root path (items_of made) → AllByRecursion (IsNew contents root b) made → AllByRecursion (IsNew contents root c) made
  new_set path left b c [] set none each = tt
  new_set path left b c (m ∷ made) set none each =
      (open_still [] b c m each.0 (inl (set_apart path (root ++ m.item.now.path) left b c set (λ is. none.0 (sym is)))), new_set path left b c made set none.1 each.1)

  written_kept : (path : List ℕ) (b c : Nodes) (made : List (Made W))
      → ((other : List ℕ) → bytes_eq path other ≡ false → node_at c other ≡ node_at b other)
      → NoneAt root path (items_of made) → AllByRecursion (IsWritten contents root b) made → AllByRecursion (IsWritten contents root c) made
  written_kept path b c [] kept none each = tt
  written_kept path b c (m ∷ made) kept none each =
      let own : List ℕ = root ++ m.item.now.path in
      let apart = differs path own (λ is. none.0 (sym is)) (bytes_eq path own) refl in
      ((λ ok. open_still m.item.now.bytes b c m (each.0 ok) (inl (kept own apart))), written_kept path b c made kept none.1 each.1)

  -- if nothing is at a path, no file is open there
  none_open : (path : List ℕ) (b : Nodes) (made : List (Made W)) → node_at b path ≡ None → AllByRecursion (IsNew contents root b) made
      → NoneAt root path (items_of made)
  none_open path b [] free each = tt
  none_open path b (m ∷ made) free each = (
    (λ is. let never : Some (Opened each.0.1) ≡ None = sym each.0.4 ∙ ap (λ (p : List ℕ). node_at b p) is ∙ free in absurd cc),
    none_open path b made free each.1,
  )

  -- folders are made

  folders : (items : List Item) (made : List (Made W)) (a b c : Nodes) → Holds (IsNew contents root) root items made a b
      → ((path : List ℕ) → (node_at c path ≡ node_at b path) ⊎ IsNewFolder root path b c)
      → Holds (IsNew contents root) root items made a c
  folders items made a b c h added = record {
    rest = λ path none. folder_left root path (bytes_put root items path) a b c (h.rest path none) (added path);
    apart = h.apart;
    last = h.last;
    placed = h.placed;
    rise = h.rise;
    every = h.every;
    each = new_folders b c made added h.each;
    folders = folders_stay root items (Some b) (Some c) (stay_added root (Some b) (Some c) added) h.folders;
  }

  pub over_folders : (items : List Item) (made : List (Made W)) (a b c : Option Nodes)
      → HoldsOver (IsNew contents root) root items made a b → AddsFolders root b c → HoldsOver (IsNew contents root) root items made a c
  over_folders items made None None None h added = tt
  over_folders items made None None (Some c) h added = absurd added
  over_folders items made None (Some b) c h added = absurd h
  over_folders items made (Some a) None c h added = absurd h
  over_folders items made (Some a) (Some b) None h added = absurd added
  over_folders items made (Some a) (Some b) (Some c) h added = folders items made a b c h added

  -- what has no bytes is put

  without : (items : List Item) (made : List (Made W)) (item : Item) (a b : Nodes) → has_bytes item.kind ≡ false → MakesFolder root item (Some b)
      → Holds (IsNew contents root) root items made a b → Holds (IsNew contents root) root (items ++ item ∷ []) made a b
  without items made item a b none folder h = record {
    rest = λ path free. subst (λ (was : Option (List ℕ)). IsLeft root path was a b) (sym (put_none root path items item none)) (h.rest path free);
    apart = h.apart;
    last = last_none root items (items_of made) item h.last none;
    placed = placed_more items item (files_of made) h.placed;
    rise = h.rise;
    every = all_without root items item (files_of made) none h.placed h.every;
    each = h.each;
    folders = folders_more root items item (Some b) (Some b) h.folders (stay_same (Some b) (Some b) refl) folder;
  }

  pub over_without : (items : List Item) (made : List (Made W)) (item : Item) (a b : Option Nodes) → has_bytes item.kind ≡ false
      → MakesFolder root item b
      → HoldsOver (IsNew contents root) root items made a b → HoldsOver (IsNew contents root) root (items ++ item ∷ []) made a b
  over_without items made item None None none folder h = tt
  over_without items made item None (Some b) none folder h = absurd h
  over_without items made item (Some a) None none folder h = absurd h
  over_without items made item (Some a) (Some b) none folder h = without items made item a b none folder h

  -- what is not on disk is put
  pub over_other : (items : List Item) (made : List (Made W)) (item : Item) (a b : Option Nodes) → has_bytes item.kind ≡ false
      → (item.kind ≡ 5 → ⊥)
      → HoldsOver (IsNew contents root) root items made a b → HoldsOver (IsNew contents root) root (items ++ item ∷ []) made a b
  over_other items made item a b none other h = over_without items made item a b none (λ folder. absurd (other folder)) h

  -- a new file is held

  one_more : (items : List Item) (made : List (Made W)) (m : Made W) (file : W) (n : ℕ) (a b c : Nodes) → has_bytes m.item.now.kind ≡ true
      → m.place ≡ length items → Holds (IsNew contents root) root items made a b → node_at b (root ++ m.item.now.path) ≡ None
      → m.file ≡ Some file → contents file ≡ Some (n ∷ []) → AreSet (root ++ m.item.now.path) (Some (Opened n)) b c
      → Holds (IsNew contents root) root (items ++ m.item.now ∷ []) (made ++ m ∷ []) a c
  one_more items made m file n a b c has place h free is new set =
      let item : Item = m.item.now in
      let path : List ℕ = root ++ item.path in
      let none = none_open path b made free h.each in
      let all : items_of (made ++ m ∷ []) ≡ items_of made ++ item ∷ [] = map-append (λ (o : Made W). o.item.now) made (m ∷ []) in
      let new_file : ℕ × List ℕ = (m.place, item.path) in
      let files : files_of (made ++ m ∷ []) ≡ files_of made ++ new_file ∷ [] = map-append (λ (o : Made W). (o.place, o.item.now.path)) made (m ∷ []) in
      let own_place = path_new items item m.place place in
      record {
        rest = λ other apart.
            let away = subst (NoneAt root other) all apart in
            let front = all_front (λ (i : Item). root ++ i.path ≡ other → ⊥) (items_of made) item away in
            let differ = all_end (λ (i : Item). root ++ i.path ≡ other → ⊥) (items_of made) item away in
            subst (λ (was : Option (List ℕ)). IsLeft root other was a c) (sym (put_apart root other items item differ))
            (folder_left root other (bytes_put root items other) a b c (h.rest other front) (inl (set_apart path other (Some (Opened n)) b c set differ)));
        apart = subst (HaveOwnPaths root) (sym all) (own_more root (items_of made) item h.apart none);
        last =
            subst (AreLast root (items ++ item ∷ [])) (sym all)
            (all_more (λ (i : Item). bytes_put root (items ++ item ∷ []) (root ++ i.path) ≡ Some i.bytes) (items_of made) item
            (last_apart root items (items_of made) item h.last none) (put_own root items item has));
        placed =
            subst (ArePlaced (items ++ item ∷ [])) (sym files)
            (all_more (λ (file : ℕ × List ℕ). path_at (items ++ item ∷ []) file.0 ≡ Some file.1) (files_of made) new_file
            (placed_more items item (files_of made) h.placed) own_place);
        rise = subst Rise (sym files) (rise_more (files_of made) new_file h.rise (all_low items m.place (files_of made) place h.placed));
        every = subst (AreAllFrom root (items ++ item ∷ [])) (sym files) (all_held root items item (files_of made) m.place place h.placed h.every);
        each =
            all_more (IsNew contents root c) made m (new_set path (Some (Opened n)) b c made set none h.each)
            (file, n, is, new, set_own path (Some (Opened n)) b c set);
        folders =
            folders_more root items item (Some b) (Some c) h.folders
            (stay_set path (Some (Opened n)) b c (free_no_folder (node_at b path) free) set) (no_folder root item (Some c) has);
      }

  more_over : (items : List Item) (made : List (Made W)) (m : Made W) (file : W) (a b c : Option Nodes) → has_bytes m.item.now.kind ≡ true
      → m.place ≡ length items → HoldsOver (IsNew contents root) root items made a b → IsFree b (root ++ m.item.now.path)
      → m.file ≡ Some file → MakesFile (root ++ m.item.now.path) (contents file) b c
      → HoldsOver (IsNew contents root) root (items ++ m.item.now ∷ []) (made ++ m ∷ []) a c
  more_over items made m file None None None has place h free is new = tt
  more_over items made m file None None (Some c) has place h free is new = absurd new
  more_over items made m file None (Some b) c has place h free is new = absurd h
  more_over items made m file (Some a) None c has place h free is new = absurd h
  more_over items made m file (Some a) (Some b) None has place h free is new = absurd new
  more_over items made m file (Some a) (Some b) (Some c) has place h free is new =
      one_more items made m file new.0 a b c has place h free is new.1 new.2

  pub over_more : (items : List Item) (made after : List (Made W)) (m : Made W) (item : Item) (place : ℕ) (a b c : Option Nodes)
      → m.item.now ≡ item → m.place ≡ place → place ≡ length items → after ≡ made ++ m ∷ [] → has_bytes item.kind ≡ true → HoldsOver (IsNew contents root) root items made a b
      → MakesOne contents root m b c → HoldsOver (IsNew contents root) root (items ++ item ∷ []) after a c
  over_more items made after m item place a b c same own next is has h new =
      subst (λ (i : Item). HoldsOver (IsNew contents root) root (items ++ i ∷ []) after a c) same
      (subst (λ (l : List (Made W)). HoldsOver (IsNew contents root) root (items ++ m.item.now ∷ []) l a c) (sym is)
      (more_over items made m new.0 a new.1 c (ap (λ (i : Item). has_bytes i.kind) same ∙ has) (own ∙ next) (over_folders items made a b new.1 h new.3) new.4 new.2 new.5))

  -- the files are written

  known : (n : ℕ) (bytes : List ℕ) (later : Option (List ℕ)) → Appends (Some (n ∷ [])) later bytes → later ≡ Some (n ∷ bytes)
  known n bytes None more = absurd more
  known n bytes (Some ys) more = ap (λ (l : List ℕ). Some l) more

  appended : (file : W) (later : Option W) (n : ℕ) (bytes : List ℕ) → contents file ≡ Some (n ∷ []) → AppendsSome contents (Some file) later bytes
      → (f : W) × (later ≡ Some f) × (contents f ≡ Some (n ∷ bytes))
  appended file None n bytes is more = absurd more
  appended file (Some f) n bytes is more = (f, refl, known n bytes (contents f) (rw is at more))

  written_one : (b : Nodes) (old new : Made W) → IsNew contents root b old → WritesOne contents old new → IsWritten contents root b new
  written_one b old new o w = λ ok.
      let more : AppendsSome contents (Some o.0) new.file old.item.now.bytes = rw o.2 at (w.bytes ok) in
      let f = appended o.0 new.file o.1 old.item.now.bytes o.3 more in
      (f.0, o.1, f.1, f.2 ∙ ap (λ (i : Item). Some (o.1 ∷ i.bytes)) (sym w.item), ap (λ (i : Item). node_at b (root ++ i.path)) w.item ∙ o.4)

  written_all : (b : Nodes) (old new : List (Made W)) → length new ≡ length old → WritesEach contents old new
      → AllByRecursion (IsNew contents root b) old → AllByRecursion (IsWritten contents root b) new
  written_all b [] [] len w each = tt
  written_all b [] (y ∷ ys) len w each = absurd (omega (arith, len))
  written_all b (x ∷ xs) [] len w each = absurd (omega (arith, len))
  written_all b (x ∷ xs) (y ∷ ys) len w each = (
    written_one b x y each.0 (w 0 x (omega arith)),
    written_all b xs ys (omega (arith, len)) (λ i d low. w (suc i) d (omega (arith, low))) each.1,
  )

  items_same : (old new : List (Made W)) → length new ≡ length old → WritesEach contents old new → items_of new ≡ items_of old
  items_same [] [] len w = refl
  items_same [] (y ∷ ys) len w = absurd (omega (arith, len))
  items_same (x ∷ xs) [] len w = absurd (omega (arith, len))
  items_same (x ∷ xs) (y ∷ ys) len w =
      let first : WritesOne contents x y = w 0 x (omega arith) in
      let more = items_same xs ys (omega (arith, len)) (λ i d low. w (suc i) d (omega (arith, low))) in
      ap (λ (i : Item). i ∷ items_of ys) first.item ∙ ap (λ (l : List Item). x.item.now ∷ l) more

  pub files_written : (old new : List (Made W)) → length new ≡ length old
      → WritesEach contents old new → files_of new ≡ files_of old
  files_written [] [] len w = refl
  files_written [] (y ∷ ys) len w = absurd (omega (arith, len))
  files_written (x ∷ xs) [] len w = absurd (omega (arith, len))
  files_written (x ∷ xs) (y ∷ ys) len w =
      let first : WritesOne contents x y = w 0 x (omega arith) in
      let more = files_written xs ys (omega (arith, len)) (λ i d low. w (suc i) d (omega (arith, low))) in
      ap (λ (p : ℕ). (p, y.item.now.path) ∷ files_of ys) first.place
      ∙ ap (λ (it : Item). (x.place, it.path) ∷ files_of ys) first.item
      ∙ ap (λ (l : List (ℕ × List ℕ)). (x.place, x.item.now.path) ∷ l) more

  pub over_written : (items : List Item) (old new : List (Made W)) (a b : Option Nodes) → length new ≡ length old → WritesEach contents old new
      → HoldsOver (IsNew contents root) root items old a b → HoldsOver (IsWritten contents root) root items new a b
  over_written items old new None None len w h = tt
  over_written items old new None (Some b) len w h = absurd h
  over_written items old new (Some a) None len w h = absurd h
  over_written items old new (Some a) (Some b) len w h =
      let same : items_of new ≡ items_of old = items_same old new len w in
      let files : files_of new ≡ files_of old = files_written old new len w in
      record {
        rest = λ path none. h.rest path (subst (NoneAt root path) same none);
        apart = subst (HaveOwnPaths root) (sym same) h.apart;
        last = subst (AreLast root items) (sym same) h.last;
        placed = subst (ArePlaced items) (sym files) h.placed;
        rise = subst Rise (sym files) h.rise;
        every = subst (AreAllFrom root items) (sym files) h.every;
        each = written_all b old new len w h.each;
        folders = h.folders;
      }

  -- one of them is finished

  bytes_same : (n k : ℕ) (xs ys : List ℕ) → Some (n ∷ xs) ≡ Some (k ∷ ys) → xs ≡ ys
  bytes_same n k xs ys is = cc

  finish_sets : (m : Made W) (b c : Nodes) → m.answer ≡ Ok tt → IsWritten contents root b m
      → FinishesSome contents (root ++ m.item.now.path) m.file (Some b) (Some c) → AreSet (root ++ m.item.now.path) (Some (Bytes m.item.now.bytes)) b c
  finish_sets m b c ok written put =
      let o = written ok in
      let path : List ℕ = root ++ m.item.now.path in
      let done : IsFinished path (contents o.0) (Some b) (Some c) = rw o.2 at put in
      let file = done (o.1, m.item.now.bytes, o.3, o.4) in
      subst (λ (bytes : List ℕ). AreSet path (Some (Bytes bytes)) b c) (bytes_same file.0 o.1 file.1 m.item.now.bytes (sym file.2 ∙ o.3)) file.3

  closed_at : (items : List Item) (old new : Made W) (done left : List (Made W)) (a b c : Nodes) → new.item.now ≡ old.item.now
      → FinishesOne contents root old new (Some b) (Some c) → KeepsOthers (root ++ old.item.now.path) (Some b) (Some c)
      → Closes contents root items done (old ∷ left) a b → (path : List ℕ) → AnsweredAt root path (done ++ new ∷ []) → NoneAt root path (items_of left)
      → (same : Bool) → bytes_eq (root ++ old.item.now.path) path ≡ same → IsLeft root path (bytes_put root items path) a c
  closed_at items old new done left a b c item finishes kept h path answered none true same =
      let own : List ℕ = root ++ old.item.now.path in
      let is : own ≡ path = (bytes_eq-Decides own path).0 same in
      let at_new : root ++ new.item.now.path ≡ path = ap (λ (i : Item). root ++ i.path) item ∙ is in
      let put = finishes (all_end (λ (m : Made W). root ++ m.item.now.path ≡ path → m.answer ≡ Ok tt) done new answered at_new) in
      let set = finish_sets old b c put.0 h.each.0 put.1 in
      subst (λ (p : List ℕ). IsLeft root p (bytes_put root items p) a c) is
      (subst (λ (was : Option (List ℕ)). IsLeft root own was a c) (sym h.last.0) (set_own own (Some (Bytes old.item.now.bytes)) b c set))
  closed_at items old new done left a b c item finishes kept h path answered none false same =
      let own : List ℕ = root ++ old.item.now.path in
      let front = all_front (λ (m : Made W). root ++ m.item.now.path ≡ path → m.answer ≡ Ok tt) done new answered in
      folder_left root path (bytes_put root items path) a b c (h.rest path front (apart_if own path same, none)) (inl (kept path same))

  closed_one : (items : List Item) (old new : Made W) (done left : List (Made W)) (a b c : Nodes) → new.item.now ≡ old.item.now
      → FinishesOne contents root old new (Some b) (Some c) → KeepsOthers (root ++ old.item.now.path) (Some b) (Some c)
      → Closes contents root items done (old ∷ left) a b → Closes contents root items (done ++ new ∷ []) left a c
  closed_one items old new done left a b c item finishes kept h = record {
    rest = λ path answered none.
        closed_at items old new done left a b c item finishes kept h path answered none (bytes_eq (root ++ old.item.now.path) path) refl;
    apart = h.apart.1;
    last = h.last.1;
    each = written_kept (root ++ old.item.now.path) b c left kept h.apart.0 h.each.1;
    folders = λ answered.
        let put = finishes (all_end (λ (m : Made W). m.answer ≡ Ok tt) done new answered) in
        let path : List ℕ = root ++ old.item.now.path in
        let opened = h.each.0 put.0 in
        let stay =
        stay_set path (Some (Bytes old.item.now.bytes)) b c (opened_no_folder (node_at b path) opened.1 opened.4) (finish_sets old b c put.0 h.each.0 put.1) in
        folders_stay root items (Some b) (Some c) stay (h.folders (all_front (λ (m : Made W). m.answer ≡ Ok tt) done new answered));
  }

  closed_over : (items : List Item) (old new : Made W) (done left : List (Made W)) (a b c : Option Nodes) → new.item.now ≡ old.item.now
      → FinishesOne contents root old new b c → KeepsOthers (root ++ old.item.now.path) b c
      → ClosesOver contents root items done (old ∷ left) a b → ClosesOver contents root items (done ++ new ∷ []) left a c
  closed_over items old new done left None None None item finishes kept h = tt
  closed_over items old new done left None None (Some c) item finishes kept h = absurd kept
  closed_over items old new done left None (Some b) c item finishes kept h = absurd h
  closed_over items old new done left (Some a) None c item finishes kept h = absurd h
  closed_over items old new done left (Some a) (Some b) None item finishes kept h = absurd kept
  closed_over items old new done left (Some a) (Some b) (Some c) item finishes kept h =
      closed_one items old new done left a b c item finishes kept h

  pub close_begin : (items : List Item) (made : List (Made W)) (a b : Option Nodes) → HoldsOver (IsWritten contents root) root items made a b
      → ClosesOver contents root items (take 0 made) (drop 0 made) a b
  close_begin items made None None h = tt
  close_begin items made None (Some b) h = absurd h
  close_begin items made (Some a) None h = absurd h
  close_begin items made (Some a) (Some b) h =
      record { rest = λ path answered none. h.rest path none; apart = h.apart; last = h.last; each = h.each; folders = λ answered. h.folders }

  -- a loop that finishes them one by one
  pub close_step : (items : List Item) (made : List (Made W)) (i : ℕ) (old new : Made W) (nodes b c : Option Nodes) → i < length made
      → old ≡ get_or made i old → new.item.now ≡ old.item.now → FinishesOne contents root old new b c
      → KeepsOthers (root ++ old.item.now.path) b c → ClosesOver contents root items (take i made) (drop i made) nodes b
      → ClosesOver contents root items (take (i + 1) (set made i new)) (drop (i + 1) (set made i new)) nodes c
  close_step items made i old new nodes b c low is item finishes kept h =
      let left : drop i made ≡ old ∷ drop (i + 1) made = drop_more made i old low ∙ ap (λ (o : Made W). o ∷ drop (i + 1) made) (sym is) in
      let now : ClosesOver contents root items (take i made) (old ∷ drop (i + 1) made) nodes b =
      subst (λ (l : List (Made W)). ClosesOver contents root items (take i made) l nodes b) left h in
      subst (λ (l : List (Made W)). ClosesOver contents root items (take (i + 1) (set made i new)) l nodes c) (sym (drop-set-lt (i + 1) made i new (omega arith)))
      (subst (λ (l : List (Made W)). ClosesOver contents root items l (drop (i + 1) made) nodes c) (sym (take_more_set made i new low))
      (closed_over items old new (take i made) (drop (i + 1) made) nodes b c item finishes kept now))

  closed_end : (items : List Item) (made : List (Made W)) (a c : Option Nodes) → ClosesOver contents root items made [] a c → LeavesWritten root items made a c
  closed_end items made None None h = record { files = tt; folders = λ answered. none_told root items }
  closed_end items made None (Some c) h = absurd h
  closed_end items made (Some a) None h = absurd h
  closed_end items made (Some a) (Some c) h = record { files = λ path answered. h.rest path answered tt; folders = h.folders }

  pub close_end : (items : List Item) (made : List (Made W)) (i : ℕ) (nodes c : Option Nodes) → length made ≤ i
      → ClosesOver contents root items (take i made) (drop i made) nodes c → LeavesWritten root items made nodes c
  close_end items made i nodes c past h =
      closed_end items made nodes c
      (subst (λ (l : List (Made W)). ClosesOver contents root items made l nodes c) (drop_all i made past)
      (subst (λ (l : List (Made W)). ClosesOver contents root items l (drop i made) nodes c) (take_all i made past) h))

  -- all of them have their answers

  answered_at : (path : List ℕ) (made : List (Made W)) → AreAnswered made → AnsweredAt root path made
  answered_at path [] answered = tt
  answered_at path (m ∷ made) answered = ((λ is. answered.0), answered_at path made answered.1)

  files_left : (items : List Item) (made : List (Made W)) (a c : Option Nodes) → AreAnswered made → LeavesAnswered root items made a c
      → LeavesFiles root items a c
  files_left items made None None answered left = tt
  files_left items made None (Some c) answered left = absurd left
  files_left items made (Some a) None answered left = absurd left
  files_left items made (Some a) (Some c) answered left = λ path. left path (answered_at path made answered)

  pub all_left : (items : List Item) (made : List (Made W)) (a c : Option Nodes) → AreAnswered made → LeavesWritten root items made a c
      → LeavesAll root items a c
  all_left items made a c answered left = record { files = files_left items made a c answered left.files; folders = left.folders answered }

  again : (items : List Item) (a b : Option Nodes) → LeavesFiles root items a b → MakesFolders root items b → HoldsOver (IsNew contents root) root items [] a b
  again items None None files folders = tt
  again items None (Some b) files folders = absurd files
  again items (Some a) None files folders = absurd files
  again items (Some a) (Some b) files folders =
      record { rest = λ path free. files path; apart = tt; last = tt; placed = tt; rise = tt; every = λ place path at free. absurd at; each = tt; folders = folders }

  pub over_again : (items : List Item) (made : List (Made W)) (a b : Option Nodes) → made ≡ [] → LeavesAll root items a b
      → HoldsOver (IsNew contents root) root items made a b
  over_again items made a b none h =
      subst (λ (l : List (Made W)). HoldsOver (IsNew contents root) root items l a b) (sym none) (again items a b h.files h.folders)

-- nothing was put yet

pub leaves_nothing : (root : List ℕ) (nodes : Option Nodes) → LeavesFiles root [] nodes nodes
leaves_nothing root None = tt
leaves_nothing root (Some a) = λ path. inl refl

pub all_nothing : (root : List ℕ) (nodes : Option Nodes) → LeavesAll root [] nodes nodes
all_nothing root nodes = record { files = leaves_nothing root nodes; folders = tt }

-- a file is put alone, while none is held

alone : (root : List ℕ) (items : List Item) (item : Item) (a b c d : Nodes) → has_bytes item.kind ≡ true
    → ((path : List ℕ) → IsLeft root path (bytes_put root items path) a b)
    → ((path : List ℕ) → (node_at c path ≡ node_at b path) ⊎ IsNewFolder root path b c) → AreSet (root ++ item.path) (Some (Bytes item.bytes)) c d
    → (path : List ℕ) (same : Bool) → bytes_eq (root ++ item.path) path ≡ same → IsLeft root path (bytes_put root (items ++ item ∷ []) path) a d
alone root items item a b c d has left added set path true same =
    let own : List ℕ = root ++ item.path in
    let is : own ≡ path = (bytes_eq-Decides own path).0 same in
    subst (λ (p : List ℕ). IsLeft root p (bytes_put root (items ++ item ∷ []) p) a d) is
    (subst (λ (was : Option (List ℕ)). IsLeft root own was a d) (sym (put_own root items item has)) (set_own own (Some (Bytes item.bytes)) c d set))
alone root items item a b c d has left added set path false same =
    let own : List ℕ = root ++ item.path in
    let differ = apart_if own path same in
    subst (λ (was : Option (List ℕ)). IsLeft root path was a d) (sym (put_apart root path items item differ))
    (folder_left root path (bytes_put root items path) a c d (folder_left root path (bytes_put root items path) a b c (left path) (added path))
    (inl (set_apart own path (Some (Bytes item.bytes)) c d set differ)))

leaves_file : (root : List ℕ) (items : List Item) (item : Item) (a b d : Option Nodes) → has_bytes item.kind ≡ true
    → LeavesFiles root items a b → PutsBelow root item.path item.bytes b d → LeavesFiles root (items ++ item ∷ []) a d
leaves_file root items item None None None has left (c, added, put) = tt
leaves_file root items item None None (Some d) has left (None, added, put) = absurd put.1
leaves_file root items item None None (Some d) has left (Some c, added, put) = absurd added
leaves_file root items item None (Some b) d has left put = absurd left
leaves_file root items item (Some a) None d has left put = absurd left
leaves_file root items item (Some a) (Some b) d has left (None, added, put) = absurd added
leaves_file root items item (Some a) (Some b) None has left (Some c, added, put) = absurd put.1
leaves_file root items item (Some a) (Some b) (Some d) has left (Some c, added, put) =
    λ path. alone root items item a b c d has left added put.1 path (bytes_eq (root ++ item.path) path) refl

-- folders are made, and no file with bytes
leaves_folders : (root : List ℕ) (items : List Item) (item : Item) (a b c : Option Nodes) → has_bytes item.kind ≡ false
    → LeavesFiles root items a b → AddsFolders root b c → LeavesFiles root (items ++ item ∷ []) a c
leaves_folders root items item None None None none left added = tt
leaves_folders root items item None None (Some c) none left added = absurd added
leaves_folders root items item None (Some b) c none left added = absurd left
leaves_folders root items item (Some a) None c none left added = absurd left
leaves_folders root items item (Some a) (Some b) None none left added = absurd added
leaves_folders root items item (Some a) (Some b) (Some c) none left added = λ path.
    subst (λ (was : Option (List ℕ)). IsLeft root path was a c) (sym (put_none root path items item none))
    (folder_left root path (bytes_put root items path) a b c (left path) (added path))

leaves_by : (root : List ℕ) (items : List Item) (item : Item) (a b c : Option Nodes) (has : Bool) → has_bytes item.kind ≡ has
    → LeavesFiles root items a b → PutsItem root item b c → (has_bytes item.kind ≡ false → AddsFolders root b c)
    → LeavesFiles root (items ++ item ∷ []) a c
leaves_by root items item a b c true has left put folders = leaves_file root items item a b c has left (put has)
leaves_by root items item a b c false has left put folders = leaves_folders root items item a b c has left (folders has)

-- an item is put alone
pub leaves_item : (root : List ℕ) (items : List Item) (item : Item) (a b c : Option Nodes) → LeavesFiles root items a b
    → PutsItem root item b c → (has_bytes item.kind ≡ false → AddsFolders root b c) → LeavesFiles root (items ++ item ∷ []) a c
leaves_item root items item a b c left put folders = leaves_by root items item a b c (has_bytes item.kind) refl left put folders

pub leaves_all : (root : List ℕ) (items : List Item) (item : Item) (a b c : Option Nodes) → LeavesAll root items a b → PutsItem root item b c
    → (has_bytes item.kind ≡ false → AddsFolders root b c) → MakesFolder root item c → LeavesAll root (items ++ item ∷ []) a c
leaves_all root items item a b c left put folders folder = record {
  files = leaves_item root items item a b c left.files put folders;
  folders = folders_more root items item b c left.folders (stay_item root item b c put folders) folder;
}

-- both are left
pub files_of_all : {A E : Type 0} (result : Result A E) (root : List ℕ) (items : List Item) (a b : Option Nodes) → OnOk result (LeavesAll root items a b)
    → OnOk result (LeavesFiles root items a b)
files_of_all (Ok x) root items a b left = left.files
files_of_all (Err e) root items a b left = tt

pub folders_of_all : {A E : Type 0} (result : Result A E) (root : List ℕ) (items : List Item) (a b : Option Nodes) → OnOk result (LeavesAll root items a b)
    → OnOk result (MakesFolders root items b)
folders_of_all (Ok x) root items a b left = left.folders
folders_of_all (Err e) root items a b left = tt
