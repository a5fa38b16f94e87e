-- Files that are put, or are there already.
use Rattle.std.proofs.Common.{◌≡◌, ℕ, suc, ◌+◌, ◌⊎◌, Bool, true, false, cond, option_map, Option, Some, None, Result, Ok, Err, IfErr, IfOk, OnErr, OnOk, List, [], ◌∷◌, ◌++◌, length, take, inl, inr, refl, ap, sym, subst, ◌∙◌, arith, append_assoc, length-append}
use Rattle.std.specs.Prelude.{◌&&◌, bytes_eq}
use Rattle.std.specs.List.{AllByRecursion}
use Rattle.std.proofs.Math.Seq.{take-length}
use Rattle.std.proofs.lemmas.List.{take-append-le}
use Rattle.std.proofs.lemmas.Slice.Eq.{bytes_eq-Decides}
use Rattle.md5.specs.Md5.{md5}
use Rattle.br_model.specs.Delivery.{Stop}
use Rattle.br_model.specs.File.{Item, has_bytes}
use Rattle.br_fs.specs.Making.{Nodes, AreSet, Bytes, kind_of, node_at}
use Rattle.br_fs.specs.Alike.{IsAlike}
use Rattle.br_sink_folder.specs.Below.{AddsFolders, IsNewFolder, KeepsOutside}
use Rattle.br_sink_folder.specs.FolderSink.{InFolder, PutsItem}
use Rattle.br_sink_folder.specs.Held.{LeavesFiles, is_put_at}
use Rattle.br_sink_folder.specs.Removed.{ChangesOne, GivesUp}
use Rattle.br_sink_folder.specs.Stopped.{IsLeftAfter, LeavesAtStop}
use Rattle.br_sink_folder.specs.There.{IsMissing, IsThere}
use Rattle.br_sink_folder.proofs.BelowLaws.{adds_more, outside_added, outside_more}
use Rattle.br_sink_folder.proofs.HeldLaws.{all_end, all_front, leaves_item, leaves_nothing}
use Rattle.br_sink_folder.proofs.RemovalLaws.{changes_added, changes_more}
use Rattle.br_sink_folder.proofs.StopLaws.{before_more, only_alone, stops_alone}
use Rattle.br_sink.specs.FileParts.{AreAlike, with_bytes}
use Rattle.br_sink_folder.specs.Resuming.{AreLike, IsLike, IsLikeAfter, KeepsWhole, LeavesLike, LeavesLikeAtStop, PutsLike}

-- a file is like itself
itself : (item : Item) → IsLike item item
itself item = record { kind = refl; path = refl; count = refl; digest = refl }

all_themselves : (items : List Item) → AreLike items items
all_themselves [] = tt
all_themselves (item ∷ items) = (itself item, all_themselves items)

pub puts_same : (root : List ℕ) (item : Item) (a b : Option Nodes) → PutsItem root item a b → PutsLike root item a b
puts_same root item a b put = (item, itself item, put)

pub leaves_same : (root : List ℕ) (items : List Item) (a b : Option Nodes) → LeavesFiles root items a b → LeavesLike root items a b
leaves_same root items a b left = (items, all_themselves items, left)

-- folders were made first

pub adds_both : (root : List ℕ) (a b c : Option Nodes) → AddsFolders root a b → AddsFolders root b c → AddsFolders root a c
adds_both root a b c f g = adds_more root a b c f g

pub outside_both : (root : List ℕ) (a b c : Option Nodes) → KeepsOutside root a b → KeepsOutside root b c → KeepsOutside root a c
outside_both root a b c f g = outside_more root a b c f g

pub puts_after : (root : List ℕ) (item : Item) (a b c : Option Nodes) → AddsFolders root a b → PutsItem root item b c → PutsLike root item a c
puts_after root item a b c added put =
    (item, itself item, λ has. let below = put has in (below.0, adds_more root a b below.0 added below.1, below.2))

pub outside_only : (root : List ℕ) (a b : Option Nodes) → AddsFolders root a b → KeepsOutside root a b
outside_only root a b added = outside_added root a b added

pub outside_after : (root : List ℕ) (a b c : Option Nodes) → AddsFolders root a b → KeepsOutside root b c → KeepsOutside root a c
outside_after root a b c added kept = outside_more root a b c (outside_added root a b added) kept

pub put_after : {A E : Type 0} (result : Result A E) (root of : List ℕ) (item : Item) (a b c : Option Nodes) → of ≡ root
    → AddsFolders root a b → OnOk result (PutsItem of item b c) → OnOk result (PutsLike root item a c)
put_after (Ok x) root of item a b c is added put = puts_after root item a b c added (subst (λ (r : List ℕ). PutsItem r item b c) is put)
put_after (Err e) root of item a b c is added put = tt

pub changes_only : (root path : List ℕ) (a b : Option Nodes) → AddsFolders root a b → ChangesOne root path a b
changes_only root path a b added = changes_added root path a b added

pub changes_after : (root of own : List ℕ) (a b c : Option Nodes) → of ≡ root → AddsFolders root a b → ChangesOne of (of ++ own) b c
    → ChangesOne root (root ++ own) a c
changes_after root of own a b c is added change =
    changes_more root (root ++ own) a b c (changes_added root (root ++ own) a b added) (subst (λ (r : List ℕ). ChangesOne r (r ++ own) b c) is change)

-- a file that was there is not missing

still_there : (root path bytes : List ℕ) (a b : Nodes) → node_at a path ≡ Some (Bytes bytes)
    → (node_at b path ≡ node_at a path) ⊎ IsNewFolder root path a b → node_at b path ≡ Some (Bytes bytes)
still_there root path bytes a b is (inl same) = same ∙ is
still_there root path bytes a b is (inr (below, free, folder)) = let never : None ≡ Some (Bytes bytes) = sym free ∙ is in absurd cc

pub stays_there : (root : List ℕ) (item : Item) (a b c : Option Nodes) → AddsFolders root a b → IsMissing root item b → KeepsOutside root b c
    → IsThere root item a → AddsFolders root a c
stays_there root item None None None added missing kept there = tt
stays_there root item None None (Some c) added missing kept there = absurd kept
stays_there root item None (Some b) c added missing kept there = absurd added
stays_there root item (Some a) None c added missing kept there = absurd added
stays_there root item (Some a) (Some b) c added missing kept (bytes, is, alike) =
    absurd (missing bytes (still_there root (root ++ item.path) bytes a b is (added (root ++ item.path))) alike)

-- a file is there already

same_at : (path : List ℕ) (bytes : List ℕ) (b : Nodes) (other : List ℕ) → node_at b path ≡ Some (Bytes bytes) → (is : Bool)
    → bytes_eq path other ≡ is → node_at b other ≡ cond is (Some (Bytes bytes)) (node_at b other)
same_at path bytes b other there true is = ap (λ (p : List ℕ). node_at b p) (sym ((bytes_eq-Decides path other).0 is)) ∙ there
same_at path bytes b other there false is = refl

same_set : (path bytes : List ℕ) (b : Nodes) → node_at b path ≡ Some (Bytes bytes) → AreSet path (Some (Bytes bytes)) b b
same_set path bytes b there = λ other.
    same_at path bytes b other there (bytes_eq path other) refl
    ∙ ap (λ (is : Bool). cond is (Some (Bytes bytes)) (node_at b other)) refl

like_there : (bytes : List ℕ) (item : Item) → IsAlike (length item.bytes) (md5 item.bytes) bytes → IsLike (with_bytes item bytes) item
like_there bytes item alike = record { kind = refl; path = refl; count = alike.long; digest = alike.same }

pub puts_there : (root : List ℕ) (item : Item) (a b : Option Nodes) → AddsFolders root a b
    → IsThere root item b → PutsLike root item a b
puts_there root item None None added there = (item, itself item, λ has. (None, tt, (inl tt, tt)))
puts_there root item None (Some b) added there = absurd added
puts_there root item (Some a) None added there = absurd added
puts_there root item (Some a) (Some b) added (bytes, is, alike) =
    (with_bytes item bytes, like_there bytes item alike, λ has. (Some b, added, (inl (ap (option_map kind_of) is), same_set (root ++ item.path) bytes b is)))

-- its bytes were read again

like_read : (bytes : List ℕ) (item : Item) → AreAlike bytes item.bytes → IsLike (with_bytes item bytes) item
like_read bytes item alike = record { kind = refl; path = refl; count = alike.0; digest = alike.1 }

pub puts_parts : {E : Type 0} (result : Result (List ℕ) E) (root : List ℕ) (item : Item) (a b : Option Nodes)
    → IfOk result (λ bytes. AreAlike bytes item.bytes) → IfOk result (λ bytes. PutsItem root (with_bytes item bytes) a b)
    → OnOk result (PutsLike root item a b)
puts_parts (Ok bytes) root item a b alike put = (with_bytes item bytes, like_read bytes item alike, put)
puts_parts (Err e) root item a b alike put = tt

parts_after : (root bytes : List ℕ) (item : Item) (a b c : Option Nodes) → AddsFolders root a b → AreAlike bytes item.bytes
    → PutsItem root (with_bytes item bytes) b c → PutsLike root item a c
parts_after root bytes item a b c added alike put = (
  with_bytes item bytes,
  like_read bytes item alike,
  λ has. let below = put has in (below.0, adds_more root a b below.0 added below.1, below.2),
)

pub put_parts_after : {E : Type 0} (result : Result (List ℕ) E) (root of : List ℕ) (item : Item) (a b c : Option Nodes) → of ≡ root
    → AddsFolders root a b → IfOk result (λ bytes. AreAlike bytes item.bytes)
    → IfOk result (λ bytes. PutsItem of (with_bytes item bytes) b c) → OnOk result (PutsLike root item a c)
put_parts_after (Ok bytes) root of item a b c is added alike put =
    parts_after root bytes item a b c added alike (subst (λ (r : List ℕ). PutsItem r (with_bytes item bytes) b c) is put)
put_parts_after (Err e) root of item a b c is added alike put = tt

-- one more

like_more : (others items : List Item) (other item : Item) → AreLike others items → IsLike other item → AreLike (others ++ other ∷ []) (items ++ item ∷ [])
like_more [] [] other item like is = (is, tt)
like_more [] (x ∷ items) other item like is = absurd like
like_more (o ∷ others) [] other item like is = absurd like
like_more (o ∷ others) (x ∷ items) other item like is = (like.0, like_more others items other item like.1 is)

pub leaves_none : (root : List ℕ) (nodes : Option Nodes) → LeavesLike root [] nodes nodes
leaves_none root nodes = ([], tt, leaves_nothing root nodes)

pub leaves_more : (root : List ℕ) (items : List Item) (item : Item) (a b c : Option Nodes) → LeavesLike root items a b → PutsLike root item b c
    → (has_bytes item.kind ≡ false → AddsFolders root b c) → LeavesLike root (items ++ item ∷ []) a c
leaves_more root items item a b c (others, like, left) (other, is, put) folders = (
  others ++ other ∷ [],
  like_more others items other item like is,
  leaves_item root others other a b c left put (λ none. folders (ap has_bytes (sym is.kind) ∙ none)),
)

-- a stop

pub stops_same : {A : Type 0} (result : Result A Stop) (root : List ℕ) (items : List Item) (a b : Option Nodes)
    → IfErr result (LeavesAtStop root items a b) → IfErr result (LeavesLikeAtStop root items a b)
stops_same (Ok x) root items a b left = tt
stops_same (Err stop) root items a b left = (items, all_themselves items, left)

like_long : (others items : List Item) → AreLike others items → length others ≡ length items
like_long [] [] like = refl
like_long [] (x ∷ items) like = absurd like
like_long (o ∷ others) [] like = absurd like
like_long (o ∷ others) (x ∷ items) like = ap suc (like_long others items like.1)

like_rest : (others items rest : List Item) → AreLike others items → AreLike (others ++ rest) (items ++ rest)
like_rest [] [] rest like = all_themselves rest
like_rest [] (x ∷ items) rest like = absurd like
like_rest (o ∷ others) [] rest like = absurd like
like_rest (o ∷ others) (x ∷ items) rest like = (like.0, like_rest others items rest like.1)

pub stops_like : (root : List ℕ) (all before rest : List Item) (item : Item) (stop : Stop) (a b c : Option Nodes) → all ≡ before ++ item ∷ rest
    → stop.done ≡ length before → LeavesLike root before a b → ChangesOne root (root ++ item.path) b c → LeavesLikeAtStop root all a c stop
stops_like root all before rest item stop a b c is at (others, like, left) change =
    let done : stop.done ≡ length others = at ∙ sym (like_long others before like) in
    let one = stops_alone root others item stop.done a b c done left change in
    let longer : length (others ++ item ∷ []) ≡ length others + 1 = length-append others (item ∷ []) in
    let joined : (others ++ item ∷ []) ++ rest ≡ others ++ item ∷ rest = append_assoc others (item ∷ []) rest in (
      others ++ item ∷ rest,
      subst (AreLike (others ++ item ∷ rest)) (sym is) (like_rest others before (item ∷ rest) like),
      subst (λ (l : List Item). LeavesAtStop root l a c stop) joined
          (before_more root (others ++ item ∷ []) rest stop.done a c (omega (arith, done, longer)) one),
    )

-- no others are left

pub after_same : {A : Type 0} (result : Result A Stop) (refused : List ℕ → Type 0) (items : List Item) (old new : InFolder)
    → IfErr result (IsLeftAfter refused old.path items old.nodes new.nodes) → IfErr result (IsLikeAfter refused items old new)
after_same (Ok x) refused items old new left = tt
after_same (Err stop) refused items old new left = (take stop.done items, all_themselves (take stop.done items), left)

pub after_like : (refused : List ℕ → Type 0) (all before rest : List Item) (item : Item) (stop : Stop) (old new : InFolder) (middle : Option Nodes)
    → all ≡ before ++ item ∷ rest → stop.done ≡ length before → LeavesLike old.path before old.nodes middle
    → ChangesOne old.path (old.path ++ item.path) middle new.nodes → GivesUp refused old.path item.path middle new.nodes
    → IsLikeAfter refused all old new stop
after_like refused all before rest item stop old new middle is at (others, like, left) change gives =
    let front : take stop.done all ≡ before =
    ap (λ (l : List Item). take stop.done l) is ∙ take-append-le stop.done before (item ∷ rest) (omega (arith, at))
    ∙ ap (λ (n : ℕ). take n before) at ∙ take-length before in
    (others, subst (AreLike others) (sym front) like, only_alone refused old.path others item old.nodes middle new.nodes left change gives)

-- folders were made first

gives_more : (refused : List ℕ → Type 0) (root own : List ℕ) (a b c : Option Nodes) → AddsFolders root a b → GivesUp refused root own b c
    → GivesUp refused root own a c
gives_more refused root own a b c added (inl more) = inl (adds_more root a b c added more)
gives_more refused root own a b c added (inr (middle, more, file, removed)) = inr (middle, adds_more root a b middle added more, file, removed)

pub gives_up_after : {A E : Type 0} (result : Result A E) (refused : List ℕ → Type 0) (root of own : List ℕ) (a b c : Option Nodes) → of ≡ root
    → AddsFolders root a b → OnErr result (GivesUp refused of own b c) → OnErr result (GivesUp refused root own a c)
gives_up_after (Ok x) refused root of own a b c is added gives = tt
gives_up_after (Err e) refused root of own a b c is added gives =
    gives_more refused root own a b c added (subst (λ (r : List ℕ). GivesUp refused r own b c) is gives)

-- nothing but folders was made
pub gives_only : (refused : List ℕ → Type 0) (root own : List ℕ) (a b : Option Nodes) → AddsFolders root a b → GivesUp refused root own a b
gives_only refused root own a b added = inl added

-- files that are whole stay so

pub keeps_nothing : (root : List ℕ) (nodes : Option Nodes) → KeepsWhole root [] nodes nodes
keeps_nothing root None = tt
keeps_nothing root (Some a) = λ path bytes is alike. is

whole_one : (root : List ℕ) (item : Item) (b c : Nodes) (path bytes : List ℕ)
    → (has_bytes item.kind ≡ true → IsThere root item (Some b) → AddsFolders root (Some b) (Some c))
    → (has_bytes item.kind ≡ false → AddsFolders root (Some b) (Some c)) → ChangesOne root (root ++ item.path) (Some b) (Some c)
    → node_at b path ≡ Some (Bytes bytes) → (is_put_at root path item ≡ true → IsAlike (length item.bytes) (md5 item.bytes) bytes)
    → (same has : Bool) → bytes_eq (root ++ item.path) path ≡ same → has_bytes item.kind ≡ has → node_at c path ≡ Some (Bytes bytes)
whole_one root item b c path bytes stays folders change is alike false has apart has_is = still_there root path bytes b c is (change path apart)
whole_one root item b c path bytes stays folders change is alike true false own_is none = still_there root path bytes b c is (folders none path)
whole_one root item b c path bytes stays folders change is alike true true own_is has_is =
    let own : root ++ item.path ≡ path = (bytes_eq-Decides (root ++ item.path) path).0 own_is in
    let put : is_put_at root path item ≡ true = ap (λ (t : Bool). t && has_bytes item.kind) own_is ∙ has_is in
    let there : IsThere root item (Some b) = (bytes, ap (node_at b) own ∙ is, alike put) in
    still_there root path bytes b c is (stays has_is there path)

pub keeps_more : (root : List ℕ) (items : List Item) (item : Item) (a b c : Option Nodes) → KeepsWhole root items a b
    → (has_bytes item.kind ≡ true → IsThere root item b → AddsFolders root b c)
    → (has_bytes item.kind ≡ false → AddsFolders root b c) → ChangesOne root (root ++ item.path) b c → KeepsWhole root (items ++ item ∷ []) a c
keeps_more root items item None None None kept stays folders change = tt
keeps_more root items item None None (Some c) kept stays folders change = absurd change
keeps_more root items item None (Some b) c kept stays folders change = absurd kept
keeps_more root items item (Some a) None c kept stays folders change = absurd kept
keeps_more root items item (Some a) (Some b) None kept stays folders change = absurd change
keeps_more root items item (Some a) (Some b) (Some c) kept stays folders change = λ path bytes is alike.
    let P : Item → Type 0 = λ i. is_put_at root path i ≡ true → IsAlike (length i.bytes) (md5 i.bytes) bytes in
    whole_one root item b c path bytes stays folders change (kept path bytes is (all_front P items item alike)) (all_end P items item alike)
    (bytes_eq (root ++ item.path) path) (has_bytes item.kind) refl refl

pub keeps_rest : (root : List ℕ) (items rest : List Item) (a b : Option Nodes) → KeepsWhole root items a b → KeepsWhole root (items ++ rest) a b
keeps_rest root items rest None None kept = tt
keeps_rest root items rest None (Some b) kept = absurd kept
keeps_rest root items rest (Some a) None kept = absurd kept
keeps_rest root items rest (Some a) (Some b) kept = λ path bytes is alike. kept path bytes is (front (λ (i : Item). is_put_at root path i ≡ true → IsAlike (length i.bytes) (md5 i.bytes) bytes) items alike)
  where
    front : (P : Item → Type 0) (xs : List Item) → AllByRecursion P (xs ++ rest) → AllByRecursion P xs
    front P [] all = tt
    front P (x ∷ xs) all = (all.0, front P xs all.1)
