-- Files that are like others.
use Rattle.std.proofs.Common.{◌≡◌, ℕ, ◌+◌, List, ◌++◌, length, take, drop, Option, Some, None, ap, sym, subst, ◌∙◌, refl, take_all, take-add, arith}
use Rattle.md5.specs.Md5.{md5}
use Rattle.br_fs.specs.Tree.{Tree, file_bytes}
use Rattle.br_fs.specs.Calls.{HasFile, IsFound}
use Rattle.br_fs.specs.Read.{IsWhole}
use Rattle.br_fs.specs.Making.{Node, Nodes, Bytes, Else, Opened, node_at}
use Rattle.br_fs.specs.MemMaker.{bytes_in}
use Rattle.br_fs.specs.declared.kind.Kind.{Kind}
use Rattle.br_fs.specs.declared.kind.Kind.TheVariants.{File, Folder, Link, Other}
use Rattle.br_fs.specs.Alike.{HasAlike, HasFront, IsAlike, IsAlikeAt, LacksAlike, LacksAlikeAt}

-- one file has one text
one_text : (tree : Tree) (path a b : List ℕ) → file_bytes tree path ≡ Some a → file_bytes tree path ≡ Some b → b ≡ a
one_text tree path a b is other = let same : Some b ≡ Some a = sym other ∙ is in cc

-- more of it is read
front_on : (told : Option Tree) (path buffer : List ℕ) (at wanted : ℕ) (P Q : List ℕ → Type 0) → IsWhole told path at wanted buffer
    → ((m : List ℕ) → P m → Q (m ++ buffer)) → HasFront told path at P → HasFront told path (at + wanted) Q
front_on None path buffer at wanted P Q whole more front = tt
front_on (Some tree) path buffer at wanted P Q (bytes, is, (part, small)) more (text, also, front) =
    let same : text ≡ bytes = one_text tree path bytes text is also in
    let on : take (at + wanted) text ≡ take at text ++ buffer =
    take-add at wanted text ∙ ap (λ (rest : List ℕ). take at text ++ rest) (ap (λ (t : List ℕ). take wanted (drop at t)) same ∙ sym part) in
    (text, also, subst Q (sym on) (more (take at text) front))

pub front_more : (a b : Option Tree) (path buffer : List ℕ) (at wanted : ℕ) (P Q : List ℕ → Type 0) → b ≡ a → IsWhole b path at wanted buffer
    → ((m : List ℕ) → P m → Q (m ++ buffer)) → HasFront a path at P → HasFront b path (at + wanted) Q
front_more a b path buffer at wanted P Q same whole more front =
    front_on b path buffer at wanted P Q whole more (subst (λ (t : Option Tree). HasFront t path at P) (sym same) front)

-- what is said of the front is said of other words
pub front_is : (a b : Option Tree) (path : List ℕ) (count : ℕ) (P Q : List ℕ → Type 0) → b ≡ a → ((m : List ℕ) → P m → Q m)
    → HasFront a path count P → HasFront b path count Q
front_is None None path count P Q same so front = tt
front_is None (Some b) path count P Q same so front = absurd cc
front_is (Some a) None path count P Q same so front = absurd cc
front_is (Some a) (Some b) path count P Q same so (bytes, is, front) =
    let trees : b ≡ a = cc in (bytes, ap (λ (t : Tree). file_bytes t path) trees ∙ is, so (take count bytes) front)

-- the whole file was digested, and it has the digest

whole_front : (count : ℕ) (bytes : List ℕ) → length bytes ≡ count → take count bytes ≡ bytes
whole_front count bytes long = take_all count bytes (omega (arith, long))

alike_now : (told : Option Tree) (path : List ℕ) (count : ℕ) (digest wanted : List ℕ) → HasFile told path (λ bytes. length bytes ≡ count)
    → HasFront told path count (λ front. digest ≡ md5 front) → digest ≡ wanted → HasAlike told path count wanted
alike_now None path count digest wanted file front is = tt
alike_now (Some tree) path count digest wanted (bytes, has, long) (text, also, front) is =
    let same : text ≡ bytes = one_text tree path bytes text has also in
    let all : take count text ≡ bytes = ap (λ (t : List ℕ). take count t) same ∙ whole_front count bytes long in
    (bytes, has, record { long = long; same = ap md5 (sym all) ∙ sym front ∙ is })

pub alike_front : (a b c : Option Tree) (path of : List ℕ) (count : ℕ) (digest wanted : List ℕ) → HasFile a path (λ bytes. length bytes ≡ count)
    → b ≡ a → of ≡ path → HasFront c of count (λ front. digest ≡ md5 front) → c ≡ b → digest ≡ wanted → HasAlike c path count wanted
alike_front a b c path of count digest wanted file opened at front read is =
    alike_now c path count digest wanted (subst (λ (t : Option Tree). HasFile t path (λ bytes. length bytes ≡ count)) (sym (read ∙ opened)) file)
    (subst (λ (p : List ℕ). HasFront c p count (λ front. digest ≡ md5 front)) at front) is

lacks_now : (told : Option Tree) (path : List ℕ) (count : ℕ) (digest wanted : List ℕ) → HasFile told path (λ bytes. length bytes ≡ count)
    → HasFront told path count (λ front. digest ≡ md5 front) → (digest ≡ wanted → ⊥) → LacksAlike told path count wanted
lacks_now None path count digest wanted file front is = tt
lacks_now (Some tree) path count digest wanted (bytes, has, long) (text, also, front) differs = λ other there alike.
    let same : text ≡ other = one_text tree path other text there also in
    let all : take count text ≡ other = ap (λ (t : List ℕ). take count t) same ∙ whole_front count other alike.long in
    differs (front ∙ ap md5 all ∙ alike.same)

pub lacks_front : (a b c : Option Tree) (path of : List ℕ) (count : ℕ) (digest wanted : List ℕ) → HasFile a path (λ bytes. length bytes ≡ count)
    → b ≡ a → of ≡ path → HasFront c of count (λ front. digest ≡ md5 front) → c ≡ b → (digest ≡ wanted → ⊥) → LacksAlike c path count wanted
lacks_front a b c path of count digest wanted file opened at front read differs =
    lacks_now c path count digest wanted (subst (λ (t : Option Tree). HasFile t path (λ bytes. length bytes ≡ count)) (sym (read ∙ opened)) file)
    (subst (λ (p : List ℕ). HasFront c p count (λ front. digest ≡ md5 front)) at front) differs

-- what was found at the path

pub found_file : (told : Option Tree) (path : List ℕ) (kind : Kind) (n count : ℕ) → IsFound told path kind n → kind ≡ File → n ≡ count
    → HasFile told path (λ bytes. length bytes ≡ count)
found_file None path kind n count found is long = tt
found_file (Some tree) path kind n count found is long =
    let file : IsFound (Some tree) path File n = subst (λ (k : Kind). IsFound (Some tree) path k n) is found in
    (file.0, file.1, sym file.2 ∙ long)

pub lacks_count : (told : Option Tree) (path digest : List ℕ) (kind : Kind) (n count : ℕ) → IsFound told path kind n → kind ≡ File
    → (n ≡ count → ⊥) → LacksAlike told path count digest
lacks_count None path digest kind n count found is differs = tt
lacks_count (Some tree) path digest kind n count found is differs = λ bytes there alike.
    let file : IsFound (Some tree) path File n = subst (λ (k : Kind). IsFound (Some tree) path k n) is found in
    differs (file.2 ∙ ap length (one_text tree path bytes file.0 there file.1) ∙ alike.long)

no_file : (tree : Tree) (path bytes : List ℕ) → file_bytes tree path ≡ None → file_bytes tree path ≡ Some bytes → ⊥
no_file tree path bytes none there = let never : None ≡ Some bytes = sym none ∙ there in absurd cc

pub lacks_other : (told : Option Tree) (path digest : List ℕ) (kind : Kind) (n count : ℕ) → IsFound told path kind n → (kind ≡ File → ⊥)
    → LacksAlike told path count digest
lacks_other None path digest kind n count found other = tt
lacks_other (Some tree) path digest File n count found other = absurd (other refl)
lacks_other (Some tree) path digest Folder n count found other = λ bytes there alike. no_file tree path bytes found.0 there
lacks_other (Some tree) path digest Link n count found other = λ bytes there alike. no_file tree path bytes found.0 there
lacks_other (Some tree) path digest Other n count found other = λ bytes there alike. no_file tree path bytes found.0 there

-- what a maker over memory has

bytes_there : (node : Option Node) (bytes : List ℕ) → bytes_in node ≡ Some bytes → node ≡ Some (Bytes bytes)
bytes_there None bytes is = absurd cc
bytes_there (Some (Bytes b)) bytes is = let same : b ≡ bytes = cc in ap (λ (t : List ℕ). Some (Bytes t)) same
bytes_there (Some (Opened n)) bytes is = absurd cc
bytes_there (Some (Else kind)) bytes is = absurd cc

pub alike_in : (nodes : Nodes) (path bytes digest : List ℕ) (count : ℕ) → Some bytes ≡ bytes_in (node_at nodes path)
    → IsAlike count digest bytes → IsAlikeAt (Some nodes) path count digest
alike_in nodes path bytes digest count is alike = (bytes, bytes_there (node_at nodes path) bytes (sym is), alike)

pub lacks_in : (nodes : Nodes) (path bytes digest : List ℕ) (count : ℕ) → Some bytes ≡ bytes_in (node_at nodes path)
    → (IsAlike count digest bytes → ⊥) → LacksAlikeAt (Some nodes) path count digest
lacks_in nodes path bytes digest count is differs = λ other there alike.
    let same : Some bytes ≡ Some other = is ∙ ap bytes_in there in
    let one : other ≡ bytes = cc in differs (subst (IsAlike count digest) one alike)

pub lacks_none : (nodes : Nodes) (path digest : List ℕ) (count : ℕ) → None ≡ bytes_in (node_at nodes path)
    → LacksAlikeAt (Some nodes) path count digest
lacks_none nodes path digest count is = λ other there alike. let never : None ≡ Some other = is ∙ ap bytes_in there in absurd cc
