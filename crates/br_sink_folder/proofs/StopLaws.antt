-- What a delivery leaves that stops.
use Rattle.std.proofs.Common.{◌≡◌, ℕ, zero, suc, ◌<◌, ◌≤◌, ◌+◌, ◌⊎◌, Bool, true, false, cond, Option, Some, None, Result, Ok, Err, IfErr, List, [], ◌∷◌, ◌++◌, length, take, drop, get_or, inl, inr, refl, ap, sym, subst, ◌∙◌, ⊎_elim, arith}
use Rattle.std.specs.Prelude.{◌&&◌, bytes_eq, fold}
use Rattle.std.specs.List.{AllByRecursion}
use Rattle.std.proofs.Math.Seq.{take-length}
use Rattle.std.proofs.lemmas.Slice.Eq.{bytes_eq-Decides}
use Rattle.std.proofs.lemmas.Bool.{cases_lt}
use Rattle.std.proofs.lemmas.List.{append_assoc, length-append, drop-append-le, drop_more, map-append, take-append-drop, take-append-le, take_more}
use Rattle.std.proofs.lemmas.List.Sums.{fold-append}
use Rattle.br_model.specs.Delivery.{Stop}
use Rattle.br_model.specs.File.{Item, has_bytes}
use Rattle.br_fs.specs.Making.{Nodes, node_at}
use Rattle.br_sink.specs.Delivery.{IsStopBelow}
use Rattle.br_sink_folder.specs.Held.{AnsweredAt, AreAllFrom, AreAnswered, ArePlaced, HoldsOver, IsLeft, IsPlaceOf, IsWritten, LeavesAnswered, LeavesFiles, NoneAt, NoneFrom, Rise, bytes_after, bytes_put, path_at}
use Rattle.br_sink_folder.specs.Removed.{AreRemoved, ChangesOne, GivesUp, IsRemoved, files_of}
use Rattle.br_sink_folder.specs.Stopped.{AnsweredBefore, IsLeftAfter, KeepsBefore, LeavesAtStop, LeavesBefore, LeavesOnly, LeavesStopped}
use Rattle.br_sink_folder.specs.declared.window.Made.{Made}
use Rattle.br_sink_folder.proofs.BelowLaws.{adds_both, differs}
use Rattle.br_sink_folder.proofs.HeldLaws.{all_end, all_front, apart_if, folder_left}

module _ (root path : List ℕ) where
  -- items that have other paths

  none_put : (was : Option (List ℕ)) (items : List Item) → NoneAt root path items → fold (bytes_after root path) was items ≡ was
  none_put was [] none = refl
  none_put was (item ∷ items) none =
      let own : List ℕ = root ++ item.path in
      let same : bytes_after root path was item ≡ was =
      ap (λ (t : Bool). cond (t && has_bytes item.kind) (Some item.bytes) was) (differs own path none.0 (bytes_eq own path) refl) in
      ap (λ (w : Option (List ℕ)). fold (bytes_after root path) w items) same ∙ none_put was items none.1

  front_put : (items : List Item) (done : ℕ) → NoneAt root path (drop done items) → bytes_put root items path ≡ bytes_put root (take done items) path
  front_put items done none =
      ap (λ (l : List Item). bytes_put root l path) (sym (take-append-drop done items))
      ∙ fold-append (bytes_after root path) None (take done items) (drop done items)
      ∙ none_put (bytes_put root (take done items) path) (drop done items) none

  -- a place from this one on has another path

  apart_there : (items : List Item) (n : ℕ) (own : List ℕ) → NoneAt root path items → path_at items n ≡ Some own → root ++ own ≡ path → ⊥
  apart_there [] n own none at_it is = absurd cc
  apart_there (item ∷ items) zero own none at_it is =
      let same : item.path ≡ own = cc in none.0 (ap (λ (p : List ℕ). root ++ p) same ∙ is)
  apart_there (item ∷ items) (suc n) own none at_it is = apart_there items n own none.1 at_it is

  apart_from : (items : List Item) (done n : ℕ) (own : List ℕ) → NoneAt root path (drop done items) → path_at items n ≡ Some own → done ≤ n
      → root ++ own ≡ path → ⊥
  apart_from [] done n own none at_it late is = absurd cc
  apart_from (item ∷ items) zero n own none at_it late is = apart_there (item ∷ items) n own none at_it is
  apart_from (item ∷ items) (suc done) zero own none at_it late is = absurd (omega (arith, late))
  apart_from (item ∷ items) (suc done) (suc n) own none at_it late is = apart_from items done n own none at_it (omega (arith, late)) is

  all_apart : (items : List Item) (done : ℕ) (files : List (ℕ × List ℕ)) → NoneAt root path (drop done items) → ArePlaced items files
      → AllByRecursion (λ (file : ℕ × List ℕ). done ≤ file.0 → root ++ file.1 ≡ path → ⊥) files
  all_apart items done [] none placed = tt
  all_apart items done (file ∷ files) none placed =
      ((λ late is. apart_from items done file.0 file.1 none placed.0 late is), all_apart items done files none placed.1)

  all_answered : {W : Type 0} (made : List (Made W)) (done : ℕ) → AllByRecursion (λ (m : Made W). m.place < done → m.answer ≡ Ok tt) made
      → AllByRecursion (λ (file : ℕ × List ℕ). done ≤ file.0 → root ++ file.1 ≡ path → ⊥) (files_of made) → AnsweredAt root path made
  all_answered [] done before apart = tt
  all_answered (m ∷ made) done before apart = (
    (λ is. ⊎_elim (λ (low : m.place < done). before.0 low) (λ (late : done ≤ m.place). absurd (apart.0 late is)) (cases_lt m.place done)),
    all_answered made done before.1 apart.1,
  )

-- what is left before a stop of a window

stop_before : {W : Type 0} (root : List ℕ) (items : List Item) (made : List (Made W)) (stop : Stop) (a c d : Nodes)
    → ArePlaced items (files_of made) → AnsweredBefore made stop → LeavesAnswered root items made (Some a) (Some c)
    → KeepsBefore root stop.done (files_of made) (Some c) (Some d) → LeavesAtStop root items (Some a) (Some d) stop
stop_before root items made stop a c d placed before left kept = λ path none.
    let apart = all_apart root path items stop.done (files_of made) none placed in
    let put = bytes_put root items path in
    let answered = all_answered root path made stop.done before apart in
    subst (λ (was : Option (List ℕ)). IsLeft root path was a d) (front_put root path items stop.done none)
    (folder_left root path put a c d (left path answered) (kept path apart))

-- a file from a place on has the path, or none has

at_path : (refused : List ℕ → Type 0) (root path own : List ℕ) (nodes : Option Nodes) (same : Bool) → bytes_eq (root ++ own) path ≡ same
    → IsRemoved refused nodes (root ++ own) → IsRemoved refused nodes path ⊎ (root ++ own ≡ path → ⊥)
at_path refused root path own nodes true same removed =
    inl (subst (IsRemoved refused nodes) ((bytes_eq-Decides (root ++ own) path).0 same) removed)
at_path refused root path own nodes false same removed = inr (apart_if (root ++ own) path same)

from_one : (refused : List ℕ → Type 0) (root path own : List ℕ) (place at : ℕ) (nodes : Option Nodes) → (place ≤ at → IsRemoved refused nodes (root ++ own))
    → IsRemoved refused nodes path ⊎ (place ≤ at → root ++ own ≡ path → ⊥)
from_one refused root path own place at nodes removed =
    ⊎_elim (λ (low : at < place). inr (λ late is. absurd (omega (arith, low, late))))
    (λ (late : place ≤ at).
    ⊎_elim (λ (gone : IsRemoved refused nodes path). inl gone) (λ (apart : root ++ own ≡ path → ⊥). inr (λ past is. apart is))
    (at_path refused root path own nodes (bytes_eq (root ++ own) path) refl (removed late)))
    (cases_lt at place)

from_some : (refused : List ℕ → Type 0) (root path : List ℕ) (place : ℕ) (files : List (ℕ × List ℕ)) (nodes : Option Nodes)
    → AreRemoved refused root place files nodes → IsRemoved refused nodes path ⊎ NoneFrom root path place files
from_some refused root path place [] nodes removed = inr tt
from_some refused root path place (file ∷ files) nodes removed =
    ⊎_elim (λ (gone : IsRemoved refused nodes path). inl gone)
    (λ (first : place ≤ file.0 → root ++ file.1 ≡ path → ⊥).
    ⊎_elim (λ (gone : IsRemoved refused nodes path). inl gone) (λ (more : NoneFrom root path place files). inr (first, more))
    (from_some refused root path place files nodes removed.1))
    (from_one refused root path file.1 place file.0 nodes removed.0)

-- nothing but that is left

stop_only : {W : Type 0} (refused : List ℕ → Type 0) (root : List ℕ) (items : List Item) (made : List (Made W)) (stop : Stop) (a c d : Nodes)
    → IsPlaceOf stop.done (files_of made) → AreAllFrom root items (files_of made) → AnsweredBefore made stop
    → LeavesAnswered root items made (Some a) (Some c) → KeepsBefore root stop.done (files_of made) (Some c) (Some d)
    → AreRemoved refused root stop.done (files_of made) (Some d) → LeavesOnly refused root (take stop.done items) (Some a) (Some d)
stop_only refused root items made stop a c d at every before left kept removed = λ path.
    ⊎_elim (λ (gone : IsRemoved refused (Some d) path). inr gone)
    (λ (apart : NoneFrom root path stop.done (files_of made)).
    let put = bytes_put root items path in
    let answered = all_answered root path made stop.done before apart in
    inl (subst (λ (was : Option (List ℕ)). IsLeft root path was a d) (every stop.done path at apart)
    (folder_left root path put a c d (left path answered) (kept path apart))))
    (from_some refused root path stop.done (files_of made) (Some d) removed)

-- the files of a window are closed, and those from the stop on removed
pub close_stops : {W : Type 0} (refused : List ℕ → Type 0) (contents : W → Option (List ℕ)) (root : List ℕ) (items : List Item)
    (old new : List (Made W)) (stop : Stop) (a b c d : Option Nodes) → files_of new ≡ files_of old
    → HoldsOver (IsWritten contents root) root items old a b → IsPlaceOf stop.done (files_of new)
    → (Rise (files_of new) → AnsweredBefore new stop) → LeavesAnswered root items new a c
    → KeepsBefore root stop.done (files_of new) c d → AreRemoved refused root stop.done (files_of new) d
    → LeavesStopped refused root items a d stop
close_stops refused contents root items old new stop None b None None files held at first left kept removed = record { before = tt; after = tt }
close_stops refused contents root items old new stop None b None (Some d) files held at first left kept removed = absurd kept
close_stops refused contents root items old new stop None b (Some c) d files held at first left kept removed = absurd left
close_stops refused contents root items old new stop (Some a) b None d files held at first left kept removed = absurd left
close_stops refused contents root items old new stop (Some a) b (Some c) None files held at first left kept removed = absurd kept
close_stops refused contents root items old new stop (Some a) None (Some c) (Some d) files held at first left kept removed = absurd held
close_stops refused contents root items old new stop (Some a) (Some b) (Some c) (Some d) files held at first left kept removed =
    let before = first (subst Rise (sym files) held.rise) in
    record {
      before = stop_before root items new stop a c d (subst (ArePlaced items) (sym files) held.placed) before left kept;
      after = stop_only refused root items new stop a c d at (subst (AreAllFrom root items) (sym files) held.every) before left kept removed;
    }

-- more items follow

pub before_more : (root : List ℕ) (items more : List Item) (done : ℕ) (a b : Option Nodes) → done ≤ length items → LeavesBefore root items done a b
    → LeavesBefore root (items ++ more) done a b
before_more root items more done None None low left = tt
before_more root items more done None (Some b) low left = absurd left
before_more root items more done (Some a) None low left = absurd left
before_more root items more done (Some a) (Some b) low left = λ path none.
    let away = subst (NoneAt root path) (drop-append-le done items more low) none in
    subst (λ (l : List Item). IsLeft root path (bytes_put root l path) a b) (sym (take-append-le done items more low))
    (left path (none_front path (drop done items) more away))
  where
    none_front : (path : List ℕ) (xs ys : List Item) → NoneAt root path (xs ++ ys) → NoneAt root path xs
    none_front path [] ys none = tt
    none_front path (x ∷ xs) ys none = (none.0, none_front path xs ys none.1)

only_before : (refused : List ℕ → Type 0) (root : List ℕ) (items more : List Item) (done : ℕ) (a b : Option Nodes) → done ≤ length items
    → LeavesOnly refused root (take done items) a b → LeavesOnly refused root (take done (items ++ more)) a b
only_before refused root items more done a b low left =
    subst (λ (l : List Item). LeavesOnly refused root l a b) (sym (take-append-le done items more low)) left

stopped_more : (refused : List ℕ → Type 0) (root : List ℕ) (items more : List Item) (stop : Stop) (a b : Option Nodes) → stop.done ≤ length items
    → LeavesStopped refused root items a b stop → LeavesStopped refused root (items ++ more) a b stop
stopped_more refused root items more stop a b low left = record {
  before = before_more root items more stop.done a b low left.before;
  after = only_before refused root items more stop.done a b low left.after;
}

-- a stop at one of the items, or at one of these and one more
pub stops_more : (refused : List ℕ → Type 0) (root : List ℕ) (items : List Item) (item : Item) (stop : Stop) (a b : Option Nodes) (n : ℕ) → n ≡ length items
    → IsStopBelow n stop → LeavesStopped refused root items a b stop → LeavesStopped refused root (items ++ item ∷ []) a b stop
stops_more refused root items item stop a b n is low left =
    let less = low.within in stopped_more refused root items (item ∷ []) stop a b (omega (arith, less, is)) left

pub stops_within : (refused : List ℕ → Type 0) (root : List ℕ) (all before rest : List Item) (item : Item) (stop : Stop) (a b : Option Nodes) (n : ℕ)
    → all ≡ before ++ item ∷ rest → n ≡ length before + 1 → IsStopBelow n stop → LeavesStopped refused root (before ++ item ∷ []) a b stop
    → LeavesStopped refused root all a b stop
stops_within refused root all before rest item stop a b n is next low left =
    let less = low.within in
    let longer : length (before ++ item ∷ []) ≡ length before + 1 = length-append before (item ∷ []) in
    let joined : (before ++ item ∷ []) ++ rest ≡ all = append_assoc before (item ∷ []) rest ∙ sym is in
    subst (λ (l : List Item). LeavesStopped refused root l a b stop) joined
    (stopped_more refused root (before ++ item ∷ []) rest stop a b (omega (arith, less, next, longer)) left)

-- both hold of a result

pub before_of : {A : Type 0} (result : Result A Stop) (refused : List ℕ → Type 0) (root : List ℕ) (items : List Item) (a b : Option Nodes)
    → IfErr result (LeavesStopped refused root items a b) → IfErr result (LeavesAtStop root items a b)
before_of (Ok x) refused root items a b left = tt
before_of (Err stop) refused root items a b left = left.before

pub after_of : {A : Type 0} (result : Result A Stop) (refused : List ℕ → Type 0) (root : List ℕ) (items : List Item) (a b : Option Nodes)
    → IfErr result (LeavesStopped refused root items a b) → IfErr result (IsLeftAfter refused root items a b)
after_of (Ok x) refused root items a b left = tt
after_of (Err stop) refused root items a b left = left.after

-- an item that is put alone stops the delivery

pub stops_alone : (root : List ℕ) (items : List Item) (item : Item) (done : ℕ) (a b c : Option Nodes) → done ≡ length items
    → LeavesFiles root items a b → ChangesOne root (root ++ item.path) b c → LeavesBefore root (items ++ item ∷ []) done a c
stops_alone root items item done None None None is left change = tt
stops_alone root items item done None None (Some c) is left change = absurd change
stops_alone root items item done None (Some b) c is left change = absurd left
stops_alone root items item done (Some a) None c is left change = absurd left
stops_alone root items item done (Some a) (Some b) None is left change = absurd change
stops_alone root items item done (Some a) (Some b) (Some c) is left change = λ path none.
    let own : List ℕ = root ++ item.path in
    let low : done ≤ length items = omega (arith, is) in
    let away : NoneAt root path (drop done items ++ item ∷ []) = subst (NoneAt root path) (drop-append-le done items (item ∷ []) low) none in
    let apart = all_end (λ (i : Item). root ++ i.path ≡ path → ⊥) (drop done items) item away in
    let all : take done items ≡ items = ap (λ (n : ℕ). take n items) is ∙ take-length items in
    subst (λ (l : List Item). IsLeft root path (bytes_put root l path) a c) (sym (take-append-le done items (item ∷ []) low ∙ all))
    (folder_left root path (bytes_put root items path) a b c (left path) (change path (differs own path apart (bytes_eq own path) refl)))

-- an item that is put alone leaves no file of its own

own_left : (refused : List ℕ → Type 0) (root : List ℕ) (items : List Item) (item : Item) (a b c : Nodes) → LeavesFiles root items (Some a) (Some b)
    → GivesUp refused root item.path (Some b) (Some c)
    → IsLeft root (root ++ item.path) (bytes_put root items (root ++ item.path)) a c ⊎ IsRemoved refused (Some c) (root ++ item.path)
own_left refused root items item a b c left (inl added) =
    let own : List ℕ = root ++ item.path in inl (folder_left root own (bytes_put root items own) a b c (left own) (added own))
own_left refused root items item a b c left (inr (middle, added, file, removed)) = inr removed

only_at : (refused : List ℕ → Type 0) (root : List ℕ) (items : List Item) (item : Item) (a b c : Nodes) → LeavesFiles root items (Some a) (Some b)
    → ChangesOne root (root ++ item.path) (Some b) (Some c) → GivesUp refused root item.path (Some b) (Some c) → (path : List ℕ) (same : Bool)
    → bytes_eq (root ++ item.path) path ≡ same → IsLeft root path (bytes_put root items path) a c ⊎ IsRemoved refused (Some c) path
only_at refused root items item a b c left change gives path true same =
    subst (λ (p : List ℕ). IsLeft root p (bytes_put root items p) a c ⊎ IsRemoved refused (Some c) p) ((bytes_eq-Decides (root ++ item.path) path).0 same)
    (own_left refused root items item a b c left gives)
only_at refused root items item a b c left change gives path false same =
    inl (folder_left root path (bytes_put root items path) a b c (left path) (change path same))

pub only_alone : (refused : List ℕ → Type 0) (root : List ℕ) (items : List Item) (item : Item) (a b c : Option Nodes) → LeavesFiles root items a b
    → ChangesOne root (root ++ item.path) b c → GivesUp refused root item.path b c → LeavesOnly refused root items a c
only_alone refused root items item None None None left change gives = tt
only_alone refused root items item None None (Some c) left change gives = absurd change
only_alone refused root items item None (Some b) c left change gives = absurd left
only_alone refused root items item (Some a) None c left change gives = absurd left
only_alone refused root items item (Some a) (Some b) None left change gives = absurd change
only_alone refused root items item (Some a) (Some b) (Some c) left change gives =
    λ path. only_at refused root items item a b c left change gives path (bytes_eq (root ++ item.path) path) refl

pub stops_here : (refused : List ℕ → Type 0) (root : List ℕ) (items : List Item) (item : Item) (stop : Stop) (a b c : Option Nodes)
    → stop.done ≡ length items → LeavesFiles root items a b → ChangesOne root (root ++ item.path) b c → GivesUp refused root item.path b c
    → LeavesStopped refused root (items ++ item ∷ []) a c stop
stops_here refused root items item stop a b c is left change gives =
    let low : stop.done ≤ length items = omega (arith, is) in
    let all : take stop.done items ≡ items = ap (λ (n : ℕ). take n items) is ∙ take-length items in
    record {
      before = stops_alone root items item stop.done a b c is left change;
      after =
          subst (λ (l : List Item). LeavesOnly refused root l a c) (sym (take-append-le stop.done items (item ∷ []) low ∙ all))
          (only_alone refused root items item a b c left change gives);
    }

-- the place of one file
pub place_of : {W : Type 0} (made : List (Made W)) (i : ℕ) (one : Made W) → i < length made → one ≡ get_or made i one
    → IsPlaceOf one.place (files_of made)
place_of [] i one low is = absurd (omega (arith, low))
place_of (m ∷ made) zero one low is = inl (ap (λ (o : Made _). o.place) (sym is))
place_of (m ∷ made) (suc i) one low is = inr (place_of made i one (omega (arith, low)) is)

-- the first file that has a fault

later_than : {W : Type 0} (place : ℕ) (made : List (Made W)) → AllByRecursion (λ (file : ℕ × List ℕ). place < file.0) (files_of made)
    → AllByRecursion (λ (m : Made W). m.place < place → m.answer ≡ Ok tt) made
later_than place [] late = tt
later_than place (m ∷ made) late = ((λ low. let later = late.0 in absurd (omega (arith, low, later))), later_than place made late.1)

pub first_fault : {W : Type 0} (done : List (Made W)) (one : Made W) (left : List (Made W)) → Rise (files_of (done ++ one ∷ left)) → AreAnswered done
    → AllByRecursion (λ (m : Made W). m.place < one.place → m.answer ≡ Ok tt) (done ++ one ∷ left)
first_fault [] one left rise answered = ((λ low. absurd (omega (arith, low))), later_than one.place left rise.0)
first_fault (m ∷ done) one left rise answered = ((λ low. answered.0), first_fault done one left rise.1 answered.1)

-- it is at this place, and the delivery stops there
pub fault_at : {W : Type 0} (made : List (Made W)) (i : ℕ) (one : Made W) (stop : Stop) → i < length made → one ≡ get_or made i one
    → stop.done ≡ one.place → Rise (files_of made) → AreAnswered (take i made) → AnsweredBefore made stop
fault_at {W} made i one stop low is at rise answered =
    let left : drop i made ≡ one ∷ drop (i + 1) made = drop_more made i one low ∙ ap (λ (o : Made W). o ∷ drop (i + 1) made) (sym is) in
    let all : take i made ++ one ∷ drop (i + 1) made ≡ made = ap (λ (l : List (Made W)). take i made ++ l) (sym left) ∙ take-append-drop i made in
    let first =
    first_fault (take i made) one (drop (i + 1) made) (subst (λ (l : List (Made W)). Rise (files_of l)) (sym all) rise) answered in
    subst (λ (n : ℕ). AllByRecursion (λ (m : Made W). m.place < n → m.answer ≡ Ok tt) made) (sym at)
    (subst (λ (l : List (Made W)). AllByRecursion (λ (m : Made W). m.place < one.place → m.answer ≡ Ok tt) l) all first)

-- files that are removed

module _ (root : List ℕ) (place : ℕ) where
  pub keeps_none : (a b : Option Nodes) → b ≡ a → KeepsBefore root place [] a b
  keeps_none None None same = tt
  keeps_none None (Some b) same = absurd cc
  keeps_none (Some a) None same = absurd cc
  keeps_none (Some a) (Some b) same = let is : b ≡ a = cc in λ path apart. inl (ap (λ (nodes : Nodes). node_at nodes path) is)

  keeps_more : (files : List (ℕ × List ℕ)) (file : ℕ × List ℕ) (a b c : Option Nodes) → KeepsBefore root place files a b
      → KeepsBefore root place (file ∷ []) b c → KeepsBefore root place (files ++ file ∷ []) a c
  keeps_more files file None None None f g = tt
  keeps_more files file None None (Some c) f g = absurd g
  keeps_more files file None (Some b) c f g = absurd f
  keeps_more files file (Some a) None c f g = absurd f
  keeps_more files file (Some a) (Some b) None f g = absurd g
  keeps_more files file (Some a) (Some b) (Some c) f g = λ path apart.
      let P : ℕ × List ℕ → Type 0 = λ it. place ≤ it.0 → root ++ it.1 ≡ path → ⊥ in
      adds_both root path a b c (f path (all_front P files file apart)) (g path (all_end P files file apart, tt))

  pub removes_one : (own : List ℕ) (at : ℕ) (a b : Option Nodes) → place ≤ at → ChangesOne root (root ++ own) a b
      → KeepsBefore root place ((at, own) ∷ []) a b
  removes_one own at None None late change = tt
  removes_one own at None (Some b) late change = absurd change
  removes_one own at (Some a) None late change = absurd change
  removes_one own at (Some a) (Some b) late change = λ path apart.
      change path (differs (root ++ own) path (apart.0 late) (bytes_eq (root ++ own) path) refl)

  pub removes_none : (own : List ℕ) (at : ℕ) (a b : Option Nodes) → b ≡ a → KeepsBefore root place ((at, own) ∷ []) a b
  removes_none own at None None same = tt
  removes_none own at None (Some b) same = absurd cc
  removes_none own at (Some a) None same = absurd cc
  removes_none own at (Some a) (Some b) same = let is : b ≡ a = cc in λ path apart. inl (ap (λ (nodes : Nodes). node_at nodes path) is)

  -- one more was looked at
  pub looked_at : {W : Type 0} (made : List (Made W)) (i : ℕ) (one : Made W) (a b c : Option Nodes) → i < length made → one ≡ get_or made i one
      → KeepsBefore root place (files_of (take i made)) a b → KeepsBefore root place ((one.place, one.item.now.path) ∷ []) b c
      → KeepsBefore root place (files_of (take (i + 1) made)) a c
  looked_at made i one a b c low is f g =
      let more : take (i + 1) made ≡ take i made ++ one ∷ [] =
      take_more made i one low ∙ ap (λ (o : Made _). take i made ++ o ∷ []) (sym is) in
      let file : ℕ × List ℕ = (one.place, one.item.now.path) in
      let all : files_of (take (i + 1) made) ≡ files_of (take i made) ++ file ∷ [] =
      ap (λ (l : List (Made _)). files_of l) more ∙ map-append (λ (m : Made _). (m.place, m.item.now.path)) (take i made) (one ∷ []) in
      subst (λ (l : List (ℕ × List ℕ)). KeepsBefore root place l a c) (sym all) (keeps_more (files_of (take i made)) file a b c f g)
