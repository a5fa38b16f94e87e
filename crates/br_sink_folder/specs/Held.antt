-- What a delivery of several files leaves below its folder, also while some of the files are held
-- open.
use Rattle.std.specs.Prelude.{◌≡◌, ℕ, ◌<◌, ◌≤◌, ◌⊎◌, Bool, ◌&&◌, if◌then◌else◌, List, [], ◌∷◌, ◌++◌, length, map, take, option_map, fold, slice_get, slice_index_or}
use Rattle.std.specs.Prelude.{bytes_eq, true, Option, Some, None, Result, Ok, OnErr, OnOk, ⊤}
use Rattle.std.specs.List.{AllByRecursion}
use Rattle.std.specs.Io.KnownBytes.{Appends}
use Rattle.br_model.specs.File.{Item, has_bytes}
use Rattle.br_data.specs.BodyWritten.{AppendsFront}
use Rattle.br_fs.specs.Making.{Nodes, Bytes, Opened, IsFinished, IsFree, MakesFile, node_at}
use Rattle.br_sink_folder.specs.Below.{AddsFolders, IsNewFolder}
use Rattle.br_sink_folder.specs.Removed.{files_of}
use Rattle.br_sink_folder.specs.Way.{MakesFolders}
use Rattle.br_sink_folder.specs.declared.window.Made.{Made}

-- a file with bytes is put at this path
abbrev pub is_put_at : List ℕ → List ℕ → Item → Bool
is_put_at root path item = bytes_eq (root ++ item.path) path && has_bytes item.kind

-- the bytes of a path after one more item was put
abbrev pub bytes_after : List ℕ → List ℕ → Option (List ℕ) → Item → Option (List ℕ)
bytes_after root path was item = if is_put_at root path item then Some item.bytes else was

-- the bytes of a path after these items were put, one after another, if a file was put there
abbrev pub bytes_put : List ℕ → List Item → List ℕ → Option (List ℕ)
bytes_put root items path = fold (bytes_after root path) None items

-- what a path has if these bytes were put there; if none were: what it had, or a new folder
abbrev pub IsLeft : List ℕ → List ℕ → Option (List ℕ) → Nodes → Nodes → Type 0
IsLeft root path (Some bytes) earlier later = node_at later path ≡ Some (Bytes bytes)
IsLeft root path None earlier later = (node_at later path ≡ node_at earlier path) ⊎ IsNewFolder root path earlier later

-- If the nodes are known, each path at which a file was put has the bytes of the last one. All
-- other paths are unchanged, except for new folders.
abbrev pub LeavesFiles : List ℕ → List Item → Option Nodes → Option Nodes → Type 0
LeavesFiles root items None None = ⊤
LeavesFiles root items (Some earlier) (Some later) = (path : List ℕ) → IsLeft root path (bytes_put root items path) earlier later
LeavesFiles root items None (Some later) = ⊥
LeavesFiles root items (Some earlier) None = ⊥

-- each file is left so, and each folder is there
pub record LeavesAll (root : List ℕ) (items : List Item) (earlier later : Option Nodes) : Type 0 where
  pub files : LeavesFiles root items earlier later
  pub folders : MakesFolders root items later

-- the files that are held open
abbrev pub items_of : {W : Type 0} → List (Made W) → List Item
items_of made = map (λ (m : Made _). m.item.now) made

-- none of these files has the path
abbrev pub NoneAt : List ℕ → List ℕ → List Item → Type 0
NoneAt root path items = AllByRecursion (λ (item : Item). root ++ item.path ≡ path → ⊥) items

-- no two of these files have the same path
abbrev pub HaveOwnPaths : List ℕ → List Item → Type 0
HaveOwnPaths root [] = ⊤
HaveOwnPaths root (item ∷ items) = NoneAt root (root ++ item.path) items × HaveOwnPaths root items

-- each of them is the last of all items with its path
abbrev pub AreLast : List ℕ → List Item → List Item → Type 0
AreLast root items held = AllByRecursion (λ (item : Item). bytes_put root items (root ++ item.path) ≡ Some item.bytes) held

-- the file is open at its path, and these bytes were written to it
abbrev pub IsOpenWith : {W : Type 0} → (W → Option (List ℕ)) → List ℕ → List ℕ → Nodes → Made W → Type 0
IsOpenWith {W} contents root bytes nodes m =
    (file : W) × (n : ℕ) × (m.file ≡ Some file) × (contents file ≡ Some (n ∷ bytes))
    × (node_at nodes (root ++ m.item.now.path) ≡ Some (Opened n))

-- the file is new
abbrev pub IsNew : {W : Type 0} → (W → Option (List ℕ)) → List ℕ → Nodes → Made W → Type 0
IsNew contents root nodes m = IsOpenWith contents root [] nodes m

-- the file has its bytes, unless its result is a fault
abbrev pub IsWritten : {W : Type 0} → (W → Option (List ℕ)) → List ℕ → Nodes → Made W → Type 0
IsWritten contents root nodes m = m.answer ≡ Ok tt → IsOpenWith contents root m.item.now.bytes nodes m

-- the path of the item at a place
abbrev pub path_at : List Item → ℕ → Option (List ℕ)
path_at items place = option_map (λ (i : Item). i.path) (slice_get items place)

-- each of these places and paths is that of an item
abbrev pub ArePlaced : List Item → List (ℕ × List ℕ) → Type 0
ArePlaced items files = AllByRecursion (λ (file : ℕ × List ℕ). path_at items file.0 ≡ Some file.1) files

-- the places rise
abbrev pub Rise : List (ℕ × List ℕ) → Type 0
Rise [] = ⊤
Rise (file ∷ files) = AllByRecursion (λ (later : ℕ × List ℕ). file.0 < later.0) files × Rise files

-- none of these files from a place on has the path
abbrev pub NoneFrom : List ℕ → List ℕ → ℕ → List (ℕ × List ℕ) → Type 0
NoneFrom root path place files = AllByRecursion (λ (file : ℕ × List ℕ). place ≤ file.0 → root ++ file.1 ≡ path → ⊥) files

-- the place is that of one of these files
abbrev pub IsPlaceOf : ℕ → List (ℕ × List ℕ) → Type 0
IsPlaceOf place [] = ⊥
IsPlaceOf place (file ∷ files) = (file.0 ≡ place) ⊎ IsPlaceOf place files

-- From the place of one of these files on, they are all items with bytes: at other paths these items
-- put nothing from there on.
abbrev pub AreAllFrom : List ℕ → List Item → List (ℕ × List ℕ) → Type 0
AreAllFrom root items files =
    (place : ℕ) (path : List ℕ) → IsPlaceOf place files → NoneFrom root path place files
    → bytes_put root items path ≡ bytes_put root (take place items) path

-- These items were put, except for the files that are held open.
pub record Holds {W : Type 0} (P : Nodes → Made W → Type 0) (root : List ℕ) (items : List Item)
    (held : List (Made W)) (earlier later : Nodes) : Type 0 where
  pub rest : (path : List ℕ) → NoneAt root path (items_of held) → IsLeft root path (bytes_put root items path) earlier later
  pub apart : HaveOwnPaths root (items_of held)
  pub last : AreLast root items (items_of held)
  pub placed : ArePlaced items (files_of held)
  pub rise : Rise (files_of held)
  pub every : AreAllFrom root items (files_of held)
  pub each : AllByRecursion (P later) held
  pub folders : MakesFolders root items (Some later)

-- If the nodes are known, this holds of them.
abbrev pub HoldsOver : {W : Type 0} → (Nodes → Made W → Type 0) → List ℕ → List Item → List (Made W) → Option Nodes → Option Nodes
    → Type 0
HoldsOver P root items held None None = ⊤
HoldsOver P root items held (Some earlier) (Some later) = Holds P root items held earlier later
HoldsOver P root items held None (Some later) = ⊥
HoldsOver P root items held (Some earlier) None = ⊥

-- if items were put, except for the new files that are held open, they still are, except for those
-- that are held open now
abbrev pub HoldsStill : {W A E : Type 0} → (W → Option (List ℕ)) → List ℕ → List (Made W) → List (Made W) → Option Nodes → Option Nodes
    → Result A E → Type 0
HoldsStill contents root held left before after result =
    (items : List Item) (nodes : Option Nodes) → HoldsOver (IsNew contents root) root items held nodes before
    → OnOk result (HoldsOver (IsNew contents root) root items left nodes after)

-- and so is one more item, which has the next place
abbrev pub HoldsMore : {W A E : Type 0} → (W → Option (List ℕ)) → List ℕ → Item → ℕ → List (Made W) → List (Made W) → Option Nodes → Option Nodes
    → Result A E → Type 0
HoldsMore contents root item place held left before after result =
    (items : List Item) (nodes : Option Nodes) → place ≡ length items → HoldsOver (IsNew contents root) root items held nodes before
    → OnOk result (HoldsOver (IsNew contents root) root (items ++ item ∷ []) left nodes after)

-- and so is one more file with bytes
abbrev pub HoldsFile : {W A E : Type 0} → (W → Option (List ℕ)) → List ℕ → Item → ℕ → List (Made W) → List (Made W) → Option Nodes → Option Nodes
    → Result A E → Type 0
HoldsFile contents root item place held left before after result =
    (items : List Item) (nodes : Option Nodes) → has_bytes item.kind ≡ true → place ≡ length items → HoldsOver (IsNew contents root) root items held nodes before
    → OnOk result (HoldsOver (IsNew contents root) root (items ++ item ∷ []) left nodes after)

-- if items were put, except for the files that are held open, and this holds of each of these, all
-- are left
abbrev pub LeavesHeld : {W A E : Type 0} → (Nodes → Made W → Type 0) → List ℕ → List (Made W) → Option Nodes → Option Nodes
    → Result A E → Type 0
LeavesHeld P root held before after result =
    (items : List Item) (nodes : Option Nodes) → HoldsOver P root items held nodes before → OnOk result (LeavesAll root items nodes after)

-- and so is one more item
abbrev pub LeavesMore : {W A E : Type 0} → (Nodes → Made W → Type 0) → List ℕ → Item → List (Made W) → Option Nodes → Option Nodes
    → Result A E → Type 0
LeavesMore P root item held before after result =
    (items : List Item) (nodes : Option Nodes) → HoldsOver P root items held nodes before
    → OnOk result (LeavesAll root (items ++ item ∷ []) nodes after)

-- folders were made on the way of a file, and then the file; nothing was there before
abbrev pub MakesOne : {W : Type 0} → (W → Option (List ℕ)) → List ℕ → Made W → Option Nodes → Option Nodes → Type 0
MakesOne {W} contents root m earlier later =
    (file : W) × (middle : Option Nodes) × (m.file ≡ Some file) × AddsFolders root earlier middle
    × IsFree middle (root ++ m.item.now.path) × MakesFile (root ++ m.item.now.path) (contents file) middle later

-- the bytes were appended to the file, if there is one
abbrev pub AppendsSome : {W : Type 0} → (W → Option (List ℕ)) → Option W → Option W → List ℕ → Type 0
AppendsSome contents None later bytes = ⊤
AppendsSome contents (Some old) None bytes = ⊥
AppendsSome contents (Some old) (Some new) bytes = Appends (contents old) (contents new) bytes

-- a first part of the bytes, perhaps none, was appended to the file, if there is one
abbrev pub AppendsFrontSome : {W : Type 0} → (W → Option (List ℕ)) → Option W → Option W → List ℕ → Type 0
AppendsFrontSome contents None later bytes = ⊤
AppendsFrontSome contents (Some old) None bytes = ⊥
AppendsFrontSome contents (Some old) (Some new) bytes = AppendsFront (contents old) (contents new) bytes

-- the file has its bytes now, or a first part of them if its result is a fault
pub record WritesOne {W : Type 0} (contents : W → Option (List ℕ)) (old new : Made W) : Type 0 where
  pub item : new.item.now ≡ old.item.now
  pub place : new.place ≡ old.place
  pub bytes : new.answer ≡ Ok tt → AppendsSome contents old.file new.file old.item.now.bytes
  pub front : OnErr new.answer (AppendsFrontSome contents old.file new.file old.item.now.bytes)

-- each of them, place by place
abbrev pub WritesEach : {W : Type 0} → (W → Option (List ℕ)) → List (Made W) → List (Made W) → Type 0
WritesEach {W} contents old new =
    (i : ℕ) (d : Made W) → i < length old → WritesOne contents (slice_index_or old i d) (slice_index_or new i d)

-- the file is finished at its path, if there is one
abbrev pub FinishesSome : {W : Type 0} → (W → Option (List ℕ)) → List ℕ → Option W → Option Nodes → Option Nodes → Type 0
FinishesSome contents path None earlier later = ⊤
FinishesSome contents path (Some file) earlier later = IsFinished path (contents file) earlier later

-- if the kept result is no fault, none was kept before, and the file is finished
abbrev pub FinishesOne : {W : Type 0} → (W → Option (List ℕ)) → List ℕ → Made W → Made W → Option Nodes → Option Nodes → Type 0
FinishesOne contents root old new earlier later =
    new.answer ≡ Ok tt → (old.answer ≡ Ok tt) × FinishesSome contents (root ++ old.item.now.path) old.file earlier later

-- no result is a fault
abbrev pub AreAnswered : {W : Type 0} → List (Made W) → Type 0
AreAnswered made = AllByRecursion (λ (m : Made _). m.answer ≡ Ok tt) made

-- the results of the files at this path are no faults
abbrev pub AnsweredAt : {W : Type 0} → List ℕ → List ℕ → List (Made W) → Type 0
AnsweredAt root path made = AllByRecursion (λ (m : Made _). root ++ m.item.now.path ≡ path → m.answer ≡ Ok tt) made

-- If the nodes are known, each path is as these items leave it, unless the result of a file there is
-- a fault.
abbrev pub LeavesAnswered : {W : Type 0} → List ℕ → List Item → List (Made W) → Option Nodes → Option Nodes → Type 0
LeavesAnswered root items made None None = ⊤
LeavesAnswered root items made (Some earlier) (Some later) =
    (path : List ℕ) → AnsweredAt root path made → IsLeft root path (bytes_put root items path) earlier later
LeavesAnswered root items made None (Some later) = ⊥
LeavesAnswered root items made (Some earlier) None = ⊥

-- each path is left so, and each folder is there if no result is a fault
pub record LeavesWritten {W : Type 0} (root : List ℕ) (items : List Item) (made : List (Made W))
    (earlier later : Option Nodes) : Type 0 where
  pub files : LeavesAnswered root items made earlier later
  pub folders : AreAnswered made → MakesFolders root items later

-- if items were put, except for the written files that are held open, all are left, except for those
-- whose result is a fault
abbrev pub FinishesHeld : {W : Type 0} → (W → Option (List ℕ)) → List ℕ → List (Made W) → List (Made W) → Option Nodes → Option Nodes → Type 0
FinishesHeld contents root old new before after =
    (items : List Item) (nodes : Option Nodes) → HoldsOver (IsWritten contents root) root items old nodes before
    → LeavesWritten root items new nodes after
