-- Folders that are put, and stay.
use Rattle.std.proofs.Common.{◌≡◌, ℕ, ◌<◌, ◌≤◌, ◌+◌, ◌-◌, ◌⊎◌, Bool, true, false, cond, not, Option, Some, None, Result, Ok, Err, OnOk, List, [], ◌∷◌, ◌++◌, length, take, inl, inr, refl, ap, sym, subst, ◌∙◌, arith, length-append, ⊎_elim}
use Rattle.std.specs.Prelude.{◌&&◌, ◌==◌, option_map, slice_index, bytes_eq}
use Rattle.std.proofs.lemmas.Bool.{cases_lt, eqb-true}
use Rattle.std.proofs.lemmas.List.{append_assoc, get_or-append-add, get_or_append_left}
use Rattle.std.proofs.lemmas.Slice.Eq.{bytes_eq-Decides}
use Rattle.std.proofs.Math.Seq.{get_or-append_seam, take-append_seam}
use Rattle.br_model.specs.File.{Item, has_bytes}
use Rattle.br_model.specs.Name.{is_directory}
use Rattle.br_fs.specs.Making.{Node, Nodes, AreSet, Bytes, Else, IsBelow, IsFileOrFree, IsFolderNow, IsKindAt, Opened, kind_of, node_at}
use Rattle.br_fs.specs.declared.kind.Kind.TheVariants.{File, Folder}
use Rattle.br_sink_folder.specs.Below.{AddsFolders, IsNewFolder, PutsBelow, PutsNew}
use Rattle.br_sink_folder.specs.FolderSink.{PutsItem}
use Rattle.br_sink_folder.specs.Resuming.{PutsLike}
use Rattle.br_sink_folder.specs.Way.{HasWay, HasWayTo, MakesFolder, MakesFolders, ends_name, folder_path, slashed}

-- the path of a folder

slash_first : (c : ℕ) (rest : List ℕ) (is : Bool) → (c == 47) ≡ is → (more : List ℕ) × (slashed (c ∷ rest) ≡ 47 ∷ more)
slash_first c rest true is =
    let same : c ≡ 47 = eqb-true c 47 is in
    (rest, ap (λ (t : Bool). cond t (c ∷ rest) (47 ∷ c ∷ rest)) is ∙ ap (λ (b : ℕ). b ∷ rest) same)
slash_first c rest false is = (c ∷ rest, ap (λ (t : Bool). cond t (c ∷ rest) (47 ∷ c ∷ rest)) is)

slashed_is : (path : List ℕ) → (rest : List ℕ) × (slashed path ≡ 47 ∷ rest)
slashed_is [] = ([], refl)
slashed_is (c ∷ rest) = slash_first c rest (c == 47) refl

pub folder_is_below : (root path whole : List ℕ) → whole ≡ root ++ folder_path path → IsBelow root whole
folder_is_below root path whole is =
    let s = slashed_is path in
    (s.0 ++ 47 ∷ [], is ∙ ap (λ (p : List ℕ). root ++ (p ++ 47 ∷ [])) s.1)

pub folder_joined : (root front path : List ℕ) → front ++ path ≡ slashed path → ((root ++ front) ++ path) ++ 47 ∷ [] ≡ root ++ folder_path path
folder_joined root front path is =
    ap (λ (p : List ℕ). p ++ 47 ∷ []) (append_assoc root front path ∙ ap (λ (p : List ℕ). root ++ p) is) ∙ append_assoc root (slashed path) (47 ∷ [])

-- a folder that was made

pub folder_now : (path : List ℕ) (earlier later : Option Nodes) → IsFolderNow path earlier later → IsKindAt later path Folder
folder_now path earlier later (inl (was, same)) = subst (λ (nodes : Option Nodes). IsKindAt nodes path Folder) (sym same) was
folder_now path None None (inr (free, set)) = tt
folder_now path None (Some l) (inr (free, set)) = absurd set
folder_now path (Some e) None (inr (free, set)) = absurd set
folder_now path (Some e) (Some l) (inr (free, set)) =
    ap (option_map kind_of) (set path ∙ ap (λ (t : Bool). cond t (Some (Else Folder)) (node_at e path)) ((bytes_eq-Decides path path).1 refl))

-- folders stay

abbrev pub FoldersStay : Option Nodes → Option Nodes → Type 0
FoldersStay earlier later = (path : List ℕ) → IsKindAt earlier path Folder → IsKindAt later path Folder

pub stay_same : (a b : Option Nodes) → b ≡ a → FoldersStay a b
stay_same a b same = λ path is. subst (λ (nodes : Option Nodes). IsKindAt nodes path Folder) (sym same) is

stay_at : (path : List ℕ) (a b : Nodes) → option_map kind_of (node_at a path) ≡ Some Folder → node_at b path ≡ node_at a path
    → option_map kind_of (node_at b path) ≡ Some Folder
stay_at path a b is same = ap (option_map kind_of) same ∙ is

added_stay : (root path : List ℕ) (a b : Nodes) → option_map kind_of (node_at a path) ≡ Some Folder
    → (node_at b path ≡ node_at a path) ⊎ IsNewFolder root path a b → option_map kind_of (node_at b path) ≡ Some Folder
added_stay root path a b is (inl same) = stay_at path a b is same
added_stay root path a b is (inr (below, free, folder)) = ap (option_map kind_of) folder

pub stay_added : (root : List ℕ) (a b : Option Nodes) → AddsFolders root a b → FoldersStay a b
stay_added root None None added = λ path is. tt
stay_added root None (Some b) added = absurd added
stay_added root (Some a) None added = absurd added
stay_added root (Some a) (Some b) added = λ path is. added_stay root path a b is (added path)

-- the path has a file, or nothing, and is set
set_stay : (path other : List ℕ) (left : Option Node) (a b : Nodes) → (option_map kind_of (node_at a path) ≡ Some Folder → ⊥) → AreSet path left a b
    → option_map kind_of (node_at a other) ≡ Some Folder → (same : Bool) → bytes_eq path other ≡ same → option_map kind_of (node_at b other) ≡ Some Folder
set_stay path other left a b none set is true same =
    let own : path ≡ other = (bytes_eq-Decides path other).0 same in
    absurd (none (ap (λ (p : List ℕ). option_map kind_of (node_at a p)) own ∙ is))
set_stay path other left a b none set is false same =
    stay_at other a b is (set other ∙ ap (λ (t : Bool). cond t left (node_at a other)) same)

pub free_no_folder : (left : Option Node) → left ≡ None → option_map kind_of left ≡ Some Folder → ⊥
free_no_folder left free is = let never : None ≡ Some Folder = sym (ap (option_map kind_of) free) ∙ is in absurd cc

file_no_folder : (left : Option Node) → option_map kind_of left ≡ Some File → option_map kind_of left ≡ Some Folder → ⊥
file_no_folder left file is = let never : Some File ≡ Some Folder = sym file ∙ is in absurd cc

pub opened_no_folder : (left : Option Node) (n : ℕ) → left ≡ Some (Opened n) → option_map kind_of left ≡ Some Folder → ⊥
opened_no_folder left n opened is = file_no_folder left (ap (option_map kind_of) opened) is

pub stay_set : (path : List ℕ) (node : Option Node) (a b : Nodes) → (option_map kind_of (node_at a path) ≡ Some Folder → ⊥) → AreSet path node a b
    → FoldersStay (Some a) (Some b)
stay_set path node a b none set = λ other is. set_stay path other node a b none set is (bytes_eq path other) refl

put_none_there : (path : List ℕ) (a : Nodes) → IsFileOrFree (Some a) path → option_map kind_of (node_at a path) ≡ Some Folder → ⊥
put_none_there path a (inl file) is = file_no_folder (node_at a path) file is
put_none_there path a (inr free) is = free_no_folder (node_at a path) free is

stay_put : (path bytes : List ℕ) (a b : Option Nodes) → PutsNew path bytes a b → FoldersStay a b
stay_put path bytes None None put = λ other is. tt
stay_put path bytes None (Some b) put = absurd put.1
stay_put path bytes (Some a) None put = absurd put.1
stay_put path bytes (Some a) (Some b) put = stay_set path (Some (Bytes bytes)) a b (put_none_there path a put.0) put.1

stay_below : (root path bytes : List ℕ) (a b : Option Nodes) → PutsBelow root path bytes a b → FoldersStay a b
stay_below root path bytes a b (middle, added, put) = λ other is. stay_put (root ++ path) bytes middle b put other (stay_added root a middle added other is)

stay_by : (root : List ℕ) (item : Item) (a b : Option Nodes) (has : Bool) → has_bytes item.kind ≡ has → PutsItem root item a b
    → (has_bytes item.kind ≡ false → AddsFolders root a b) → FoldersStay a b
stay_by root item a b true has put folders = stay_below root item.path item.bytes a b (put has)
stay_by root item a b false has put folders = stay_added root a b (folders has)

-- an item is put
pub stay_item : (root : List ℕ) (item : Item) (a b : Option Nodes) → PutsItem root item a b → (has_bytes item.kind ≡ false → AddsFolders root a b)
    → FoldersStay a b
stay_item root item a b put folders = stay_by root item a b (has_bytes item.kind) refl put folders

pub stay_like : (root : List ℕ) (item : Item) (a b : Option Nodes) → PutsLike root item a b → (has_bytes item.kind ≡ false → AddsFolders root a b)
    → FoldersStay a b
stay_like root item a b (other, like, put) folders = stay_item root other a b put (λ none. folders (ap has_bytes (sym like.kind) ∙ none))

way_stays : (root path : List ℕ) (a b : Option Nodes) → FoldersStay a b → HasWay root path a → HasWay root path b
way_stays root path a b stay way = λ name below some ends. stay (root ++ name) (way name below some ends)

pub folders_stay : (root : List ℕ) (items : List Item) (a b : Option Nodes) → FoldersStay a b → MakesFolders root items a → MakesFolders root items b
folders_stay root [] a b stay made = tt
folders_stay root (item ∷ items) a b stay made = ((λ folder. way_stays root (root ++ folder_path item.path) a b stay (made.0 folder)), folders_stay root items a b stay made.1)

-- one more item
pub folders_more : (root : List ℕ) (items : List Item) (item : Item) (a b : Option Nodes) → MakesFolders root items a → FoldersStay a b
    → MakesFolder root item b → MakesFolders root (items ++ item ∷ []) b
folders_more root [] item a b made stay now = (now, tt)
folders_more root (x ∷ items) item a b made stay now =
    ((λ folder. way_stays root (root ++ folder_path x.path) a b stay (made.0 folder)), folders_more root items item a b made.1 stay now)

-- nodes that are not known
pub none_told : (root : List ℕ) (items : List Item) → MakesFolders root items None
none_told root [] = tt
none_told root (item ∷ items) = ((λ folder name below some ends. tt), none_told root items)

-- a file is no folder
pub no_folder : (root : List ℕ) (item : Item) (nodes : Option Nodes) → has_bytes item.kind ≡ true → MakesFolder root item nodes
no_folder root item nodes has = λ folder. let never : false ≡ true = ap has_bytes (sym folder) ∙ has in absurd cc

pub no_folder_put : {A E : Type 0} (result : Result A E) (root : List ℕ) (item : Item) (nodes : Option Nodes) → has_bytes item.kind ≡ true
    → OnOk result (MakesFolder root item nodes)
no_folder_put (Ok x) root item nodes has = no_folder root item nodes has
no_folder_put (Err e) root item nodes has = tt

-- the way of a path

pub front_now : {A E : Type 0} (result : Result A E) (path front : List ℕ) (at : ℕ) (nodes : Option Nodes) → front ≡ take at path
    → OnOk result (IsKindAt nodes front Folder) → OnOk result (ends_name path at ≡ true → IsKindAt nodes (take at path) Folder)
front_now (Ok x) path front at nodes is folder = λ ends. subst (λ (p : List ℕ). IsKindAt nodes p Folder) is folder
front_now (Err e) path front at nodes is folder = tt

-- no place was looked at
pub way_begins : (root path : List ℕ) (nodes : Option Nodes) → HasWayTo root path (length root + 1) nodes
way_begins root path nodes = λ k long low ends. absurd (omega (arith, long, low))

-- one more place was looked at
way_at : (path : List ℕ) (at k : ℕ) (nodes : Option Nodes) → k ≡ at → ends_name path k ≡ true
    → (ends_name path at ≡ true → IsKindAt nodes (take at path) Folder) → IsKindAt nodes (take k path) Folder
way_at path at k nodes is ends now =
    subst (λ (n : ℕ). IsKindAt nodes (take n path) Folder) (sym is) (now (subst (λ (n : ℕ). ends_name path n ≡ true) is ends))

pub way_more : (root path : List ℕ) (at : ℕ) (a b : Option Nodes) → HasWayTo root path at a → AddsFolders root a b
    → (ends_name path at ≡ true → IsKindAt b (take at path) Folder) → HasWayTo root path (at + 1) b
way_more root path at a b way added now = λ k long low ends.
    ⊎_elim (λ (before : k < at). stay_added root a b added (take k path) (way k long before ends))
    (λ (past : at ≤ k). way_at path at k b (omega (arith, past, low)) ends now) (cases_lt k at)

-- no place is left
last_byte : (root name : List ℕ) (n : ℕ) → 0 < length name → n ≡ length (root ++ name)
    → slice_index (root ++ name) (n - 1) ≡ slice_index name (length name - 1)
last_byte root name n some is =
    let place : n - 1 ≡ length root + (length name - 1) = omega (arith, some, is, length-append root name) in
    ap (λ (k : ℕ). slice_index (root ++ name) k) place ∙ get_or-append-add root name (length name - 1) 0

name_ends : (root name path rest : List ℕ) (n : ℕ) → 0 < length name → is_directory name ≡ false → path ≡ (root ++ name) ++ 47 ∷ rest
    → n ≡ length (root ++ name) → ends_name path n ≡ true
name_ends root name path rest n some no_slash is long =
    let front : List ℕ = root ++ name in
    let place : slice_index path n ≡ 47 =
    ap (λ (p : List ℕ). slice_index p n) is ∙ ap (λ (k : ℕ). slice_index (front ++ 47 ∷ rest) k) long ∙ get_or-append_seam front 47 rest 0 in
    let low : n - 1 < length front = omega (arith, some, long, length-append root name) in
    let before : slice_index path (n - 1) ≡ slice_index name (length name - 1) =
    ap (λ (p : List ℕ). slice_index p (n - 1)) is ∙ get_or_append_left front (47 ∷ rest) 0 (n - 1) low ∙ last_byte root name n some long in
    ap (λ (b : ℕ). b == 47 && not (slice_index path (n - 1) == 47)) place ∙ ap (λ (b : ℕ). not (b == 47)) before ∙ ap not no_slash

pub way_done : (root path : List ℕ) (at : ℕ) (nodes : Option Nodes) → HasWayTo root path at nodes → length path ≤ at → HasWay root path nodes
way_done root path at nodes way past = λ name below some no_slash.
    let rest : List ℕ = below.0 in
    let is = below.1 in
    let front : List ℕ = root ++ name in
    let n : ℕ = length front in
    let joined = length-append root name in
    let whole : length path ≡ n + (length rest + 1) = ap length is ∙ length-append front (47 ∷ rest) ∙ omega arith in
    let folder = way n (omega (arith, joined, some)) (omega (arith, whole, past)) (name_ends root name path rest n some no_slash is refl) in
    subst (λ (p : List ℕ). IsKindAt nodes p Folder) (ap (λ (p : List ℕ). take n p) is ∙ take-append_seam front (47 ∷ rest)) folder

-- the folders of an item
pub way_of_folder : {A E : Type 0} (result : Result A E) (root path whole : List ℕ) (item : Item) (nodes : Option Nodes)
    → whole ≡ root ++ folder_path path → path ≡ item.path → OnOk result (HasWay root whole nodes) → OnOk result (MakesFolder root item nodes)
way_of_folder (Ok x) root path whole item nodes is same way = λ folder.
    subst (λ (p : List ℕ). HasWay root p nodes) (is ∙ ap (λ (p : List ℕ). root ++ folder_path p) same) way
way_of_folder (Err e) root path whole item nodes is same way = tt
