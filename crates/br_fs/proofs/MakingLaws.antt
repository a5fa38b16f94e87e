-- What is at the paths after a change.
use Rattle.std.proofs.Common.{◌≡◌, ℕ, Bool, true, false, cond, Option, Some, None, Result, Ok, Err, OnOk, OnErr, option_map, List, [], ◌∷◌, ◌++◌, inl, inr, take, drop, refl, ap, sym, ◌∙◌}
use Rattle.std.specs.Prelude.{bytes_eq}
use Rattle.std.specs.List.{find}
use Rattle.std.proofs.lemmas.Slice.Eq.{bytes_eq-Decides}
use Rattle.std.specs.Io.KnownBytes.{Appends}
use Rattle.br_fs.specs.Making.{Node, Nodes, Bytes, Opened, Else, AreSet, IsFileOrFree, IsFolderNow, IsFinished, IsFree, IsKindAt, IsOpenedAs, KeepsOthers, LeavesOpened, MakesFile, PutsFile, Sets, first_node, kind_of, node_at}
use Rattle.br_fs.specs.MemMaker.{node_of, nodes_of}
use Rattle.br_fs.specs.declared.mem_maker.Left.{Left}
use Rattle.br_fs.specs.declared.kind.Kind.TheVariants.{File, Folder}

first_of : (b : Bool) (path : List ℕ) (left : Option Node) (found : Option (List ℕ × Option Node))
    → first_node (cond b (Some (path, left)) found) ≡ cond b left (first_node found)
first_of true path left found = refl
first_of false path left found = refl

-- a change put first counts at its path, and nowhere else
pub sets_first : (path : List ℕ) (node : Option Node) (earlier later : Nodes) → later ≡ (path, node) ∷ earlier
    → AreSet path node earlier later
sets_first path node earlier later is other =
    ap (λ (nodes : Nodes). node_at nodes other) is
    ∙ first_of (bytes_eq path other) path node (find (λ (e : List ℕ × Option Node). bytes_eq e.0 other) earlier)

pub sets_own : (path own : List ℕ) (node : Option Node) (earlier later : Nodes) → later ≡ (own, node) ∷ earlier
    → own ≡ path → AreSet path node earlier later
sets_own path own node earlier later is same = sets_first path node earlier later (rw same at is)

-- what the first change at a path left
abbrev pub left_by : Option (List ℕ × Left) → Option Node
left_by None = None
left_by (Some change) = node_of change.1

first_kept : (b : Bool) (change : List ℕ × Left) (found : Option (List ℕ × Left)) (nodes : Option (List ℕ × Option Node))
    → first_node nodes ≡ left_by found
    → first_node (cond b (Some (change.0, node_of change.1)) nodes) ≡ left_by (cond b (Some change) found)
first_kept true change found nodes more = refl
first_kept false change found nodes more = more

node_kept : (changes : List (List ℕ × Left)) (path : List ℕ) → node_at (nodes_of changes) path ≡ left_by (find (λ c. bytes_eq c.0 path) changes)
node_kept [] path = refl
node_kept (c ∷ cs) path = first_kept (bytes_eq c.0 path) c _ _ (node_kept cs path)

pub found_change : (changes : List (List ℕ × Left)) (path : List ℕ) (found : Option (List ℕ × Left)) → found ≡ find (λ c. bytes_eq c.0 path) changes
    → node_at (nodes_of changes) path ≡ left_by found
found_change changes path found is = node_kept changes path ∙ ap left_by (sym is)

-- what is set at one path is not changed at any other
pub set_keeps : (path : List ℕ) (left : Option Node) (earlier later : Option Nodes) → Sets path left earlier later
    → KeepsOthers path earlier later
set_keeps path left None None set = tt
set_keeps path left None (Some l) set = absurd set
set_keeps path left (Some e) None set = absurd set
set_keeps path left (Some e) (Some l) set = λ other apart. set other ∙ ap (λ (b : Bool). cond b left (node_at e other)) apart

pub same_keeps : (path : List ℕ) (earlier later : Option Nodes) → later ≡ earlier → KeepsOthers path earlier later
same_keeps path None None same = tt
same_keeps path None (Some l) same = absurd cc
same_keeps path (Some e) None same = absurd cc
same_keeps path (Some e) (Some l) same =
    let is : l ≡ e = cc in λ other apart. ap (λ (nodes : Nodes). node_at nodes other) is

-- a change that was put first
pub put_first : (change : List ℕ × Left) (earlier later : List (List ℕ × Left)) → later ≡ take 0 earlier ++ change ∷ drop 0 earlier
    → nodes_of later ≡ (change.0, node_of change.1) ∷ nodes_of earlier
put_first change earlier later is = ap (λ (changes : List (List ℕ × Left)). nodes_of changes) is

-- what was there already, or was made
pub folder_was : (path : List ℕ) (earlier later : Option Nodes) → later ≡ earlier → IsKindAt later path Folder
    → IsFolderNow path earlier later
folder_was path earlier later same found = inl (rw same at found, same)

pub folder_made : {A E : Type 0} (result : Result A E) (path : List ℕ) (first second third : Option Nodes)
    → second ≡ first → IsFree second path → OnOk result (Sets path (Some (Else Folder)) second third) → OnOk result (IsFolderNow path first third)
folder_made (Ok x) path first second third same free made = inr (rw same at free, rw same at made)
folder_made (Err e) path first second third same free made = tt

-- what is cleared was a file, or nothing
pub file_was : {A E : Type 0} (result : Result A E) (path : List ℕ) (earlier later : Option Nodes)
    → later ≡ earlier → IsKindAt later path File → OnOk result (IsFileOrFree earlier path)
file_was (Ok x) path earlier later same found = inl (rw same at found)
file_was (Err e) path earlier later same found = tt

pub free_was : (path : List ℕ) (earlier later : Option Nodes) → later ≡ earlier → IsFree later path
    → IsFileOrFree earlier path
free_was path earlier later same free = inr (rw same at free)

-- if nothing is found, nothing is
pub no_kind : (node : Option Node) → None ≡ option_map kind_of node → node ≡ None
no_kind None none = refl
no_kind (Some node) none = absurd cc

-- nothing is changed where nothing was
same_none : (path : List ℕ) (nodes : Nodes) → node_at nodes path ≡ None → AreSet path None nodes nodes
same_none path nodes free other =
    elim (bytes_eq path other) as (λ b. bytes_eq path other ≡ b → node_at nodes other ≡ cond b None (node_at nodes other)) [
      | true ↦ λ is. ap (λ (p : List ℕ). node_at nodes p) (sym ((bytes_eq-Decides path other).0 is)) ∙ free
      | false ↦ λ is. refl
    ] refl

pub none_removed : (path : List ℕ) (earlier later : Option Nodes) → later ≡ earlier → IsFree later path
    → Sets path None earlier later
none_removed path None None same free = tt
none_removed path None (Some later) same free = absurd cc
none_removed path (Some earlier) None same free = absurd cc
none_removed path (Some earlier) (Some later) same free =
    let e : later ≡ earlier = cc in rw e (same_none path earlier (rw e at free))

-- what is at the path itself
own_node : (path : List ℕ) (node : Option Node) (earlier later : Nodes) → AreSet path node earlier later
    → node_at later path ≡ node
own_node path node earlier later set =
    set path ∙ ap (λ (b : Bool). cond b node (node_at earlier path)) ((bytes_eq-Decides path path).1 refl)

-- a file that was made and then written is still the one at its path
pub opened_still : (path bytes : List ℕ) (before after : Option (List ℕ)) (earlier later : Option Nodes)
    → MakesFile path before earlier later → Appends before after bytes → IsOpenedAs later path after
opened_still path bytes before after earlier None made more = tt
opened_still path bytes before after None (Some l) made more = absurd made
opened_still path bytes before None (Some e) (Some l) made more = let never : ⊥ = rw made.1 at more in absurd never
opened_still path bytes before (Some xs) (Some e) (Some l) made more =
    let is : xs ≡ made.0 ∷ bytes = rw made.1 at more in
    (made.0, bytes, ap (λ (l : List ℕ). Some l) is, own_node path (Some (Opened made.0)) e l made.2)

-- of two changes at one path the second counts
set_again : (path : List ℕ) (one two : Option Node) (first second third : Nodes) → AreSet path one first second
    → AreSet path two second third → AreSet path two first third
set_again path one two first second third a b other =
    b other
    ∙ elim (bytes_eq path other) as (λ t. node_at second other ≡ cond t one (node_at first other)
    → cond t two (node_at second other) ≡ cond t two (node_at first other))
    [ true ↦ λ e. refl | false ↦ λ e. e ] (a other)

pub set_over : (path : List ℕ) (one two : Option Node) (first second third : Option Nodes) → Sets path one first second
    → Sets path two second third → Sets path two first third
set_over path one two None None None a b = tt
set_over path one two None None (Some m) a b = absurd b
set_over path one two None (Some l) third a b = absurd a
set_over path one two (Some e) None third a b = absurd a
set_over path one two (Some e) (Some l) None a b = absurd b
set_over path one two (Some e) (Some l) (Some m) a b = set_again path one two e l m a b

rest_of : List ℕ → List ℕ
rest_of [] = []
rest_of (x ∷ xs) = xs

inside : (xs ys : List ℕ) → Some xs ≡ Some ys → xs ≡ ys
inside xs ys h = cc

-- a file that was made, written and finished has just these bytes
pub put_whole : (path bytes : List ℕ) (before after : Option (List ℕ)) (first second third : Option Nodes)
    → MakesFile path before first second → Appends before after bytes → PutsFile path after second third
    → Sets path (Some (Bytes bytes)) first third
unfolding rest_of
put_whole path bytes before after None None None made more put = tt
put_whole path bytes before after None None (Some m) made more put = absurd put
put_whole path bytes before after None (Some l) third made more put = absurd made
put_whole path bytes before after (Some e) None third made more put = absurd made
put_whole path bytes before after (Some e) (Some l) None made more put = absurd put
put_whole path bytes before None (Some e) (Some l) (Some m) made more put = let never : ⊥ = rw made.1 at more in absurd never
put_whole path bytes before (Some xs) (Some e) (Some l) (Some m) made more put =
    let is : xs ≡ made.0 ∷ bytes = rw made.1 at more in
    let same : put.1 ≡ bytes = sym (ap rest_of (inside xs (put.0 ∷ put.1) put.2)) ∙ ap rest_of is in
    set_again path (Some (Opened made.0)) (Some (Bytes bytes)) e l m made.2 (rw same at put.3)

-- a file that was made, and not finished
pub left_opened : (path : List ℕ) (contents : Option (List ℕ)) (first second third : Option Nodes)
    → MakesFile path contents first second → third ≡ second → LeavesOpened path first third
left_opened path contents None None third made same = inr (0, rw same tt)
left_opened path contents None (Some l) third made same = absurd made
left_opened path contents (Some e) None third made same = absurd made
left_opened path contents (Some e) (Some l) third made same = inr (made.0, rw same made.2)

pub put_done : {A E : Type 0} (result : Result A E) (path bytes : List ℕ) (before after : Option (List ℕ))
    (first second third : Option Nodes) → MakesFile path before first second → Appends before after bytes
    → OnOk result (IsFinished path after second third) → OnOk result (Sets path (Some (Bytes bytes)) first third)
put_done (Ok x) path bytes before after first second third made more put =
    put_whole path bytes before after first second third made more
    (put (opened_still path bytes before after first second made more))
put_done (Err e) path bytes before after first second third made more put = tt

pub put_left : {A E : Type 0} (result : Result A E) (path : List ℕ) (contents : Option (List ℕ))
    (first second third : Option Nodes) → MakesFile path contents first second
    → OnErr result (third ≡ second) → OnErr result (LeavesOpened path first third)
put_left (Ok x) path contents first second third made same = tt
put_left (Err e) path contents first second third made same = left_opened path contents first second third made same
