-- What a delivery leaves below its folder if it stops.
use Rattle.std.specs.Prelude.{◌≡◌, ℕ, true, ◌<◌, ◌⊎◌, List, [], ◌∷◌, ◌++◌, length, take, drop, Option, Some, None, Result, Ok, IfErr, ⊤}
use Rattle.std.specs.List.{AllByRecursion}
use Rattle.br_model.specs.Delivery.{Stop}
use Rattle.br_model.specs.File.{Item, has_bytes}
use Rattle.br_fs.specs.Making.{Nodes, node_at}
use Rattle.br_sink_folder.specs.Below.{IsNewFolder}
use Rattle.br_sink_folder.specs.Held.{HoldsOver, IsLeft, IsNew, IsPlaceOf, NoneAt, NoneFrom, bytes_put}
use Rattle.br_sink_folder.specs.Removed.{IsRemoved, files_of}
use Rattle.br_sink_folder.specs.Window.{AreBelow}
use Rattle.br_sink_folder.specs.declared.window.Made.{Made}

-- If the nodes are known, each path that no item from this number on has is as the items before leave
-- it.
abbrev pub LeavesBefore : List ℕ → List Item → ℕ → Option Nodes → Option Nodes → Type 0
LeavesBefore root items done None None = ⊤
LeavesBefore root items done (Some earlier) (Some later) =
    (path : List ℕ) → NoneAt root path (drop done items) → IsLeft root path (bytes_put root (take done items) path) earlier later
LeavesBefore root items done None (Some later) = ⊥
LeavesBefore root items done (Some earlier) None = ⊥

-- a stop leaves the items before it so
abbrev pub LeavesAtStop : List ℕ → List Item → Option Nodes → Option Nodes → Stop → Type 0
LeavesAtStop root items earlier later stop = LeavesBefore root items stop.done earlier later

-- If the nodes are known, each path is as these items leave it, or no file is there, or the removal of
-- what is there was refused.
abbrev pub LeavesOnly : (List ℕ → Type 0) → List ℕ → List Item → Option Nodes → Option Nodes → Type 0
LeavesOnly refused root items None None = ⊤
LeavesOnly refused root items (Some earlier) (Some later) =
    (path : List ℕ) → IsLeft root path (bytes_put root items path) earlier later ⊎ IsRemoved refused (Some later) path
LeavesOnly refused root items None (Some later) = ⊥
LeavesOnly refused root items (Some earlier) None = ⊥

-- after a stop the items before it are left so, and no others
abbrev pub IsLeftAfter : (List ℕ → Type 0) → List ℕ → List Item → Option Nodes → Option Nodes → Stop → Type 0
IsLeftAfter refused root items earlier later stop = LeavesOnly refused root (take stop.done items) earlier later

-- a stop leaves the items before it, and no others
pub record LeavesStopped (refused : List ℕ → Type 0) (root : List ℕ) (items : List Item)
    (earlier later : Option Nodes) (stop : Stop) : Type 0 where
  pub before : LeavesAtStop root items earlier later stop
  pub after : IsLeftAfter refused root items earlier later stop

-- if items were put, except for the files that are held open, and this holds of each of these, a stop
-- leaves those before it
abbrev pub StopsHeld : {W A : Type 0} → (List ℕ → Type 0) → (Nodes → Made W → Type 0) → List ℕ → List (Made W) → Option Nodes → Option Nodes
    → Result A Stop → Type 0
StopsHeld refused P root held before after result =
    (items : List Item) (nodes : Option Nodes) → HoldsOver P root items held nodes before
    → IfErr result (LeavesStopped refused root items nodes after)

-- and so does one at these or at one more item, which has the next place
abbrev pub StopsMore : {W A : Type 0} → (List ℕ → Type 0) → (W → Option (List ℕ)) → List ℕ → Item → ℕ → List (Made W) → Option Nodes
    → Option Nodes → Result A Stop → Type 0
StopsMore refused contents root item place held before after result =
    (items : List Item) (nodes : Option Nodes) → place ≡ length items → AreBelow place held
    → HoldsOver (IsNew contents root) root items held nodes before
    → IfErr result (LeavesStopped refused root (items ++ item ∷ []) nodes after)

-- and at one more file with bytes
abbrev pub StopsFile : {W A : Type 0} → (List ℕ → Type 0) → (W → Option (List ℕ)) → List ℕ → Item → ℕ → List (Made W) → Option Nodes
    → Option Nodes → Result A Stop → Type 0
StopsFile refused contents root item place held before after result =
    has_bytes item.kind ≡ true → StopsMore refused contents root item place held before after result

-- it stops at one of these files
abbrev pub StopsAtOne : {W : Type 0} → List (Made W) → Stop → Type 0
StopsAtOne made stop = IsPlaceOf stop.done (files_of made)

-- the files before a stop have no fault
abbrev pub AnsweredBefore : {W : Type 0} → List (Made W) → Stop → Type 0
AnsweredBefore made stop = AllByRecursion (λ (m : Made _). m.place < stop.done → m.answer ≡ Ok tt) made

-- If the nodes are known, nothing is changed except for new folders and for the paths of these files
-- from a place on.
abbrev pub KeepsBefore : List ℕ → ℕ → List (ℕ × List ℕ) → Option Nodes → Option Nodes → Type 0
KeepsBefore root place files None None = ⊤
KeepsBefore root place files (Some earlier) (Some later) =
    (path : List ℕ) → NoneFrom root path place files
    → (node_at later path ≡ node_at earlier path) ⊎ IsNewFolder root path earlier later
KeepsBefore root place files None (Some later) = ⊥
KeepsBefore root place files (Some earlier) None = ⊥
