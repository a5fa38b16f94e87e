-- Whether a folder is empty.
use Rattle.std.proofs.Common.{arith, ◌≡◌, ℕ, ◌<◌, ◌||◌, ◌&&◌, Bool, true, false, not, cond, Option, Some, None, option_map, List, [], ◌∷◌, ◌++◌, length, take, drop, refl, ap, sym, ◌∙◌}
use Rattle.std.specs.Prelude.{bytes_eq, is_some}
use Rattle.std.specs.List.{find, list_any}
use Rattle.std.proofs.lemmas.Bool.{and_from, and_parts, eqb-true, true≢false}
use Rattle.std.proofs.lemmas.List.{drop_all, drop_at, take_at, take-append-drop}
use Rattle.std.proofs.lemmas.Slice.Eq.{bytes_eq-Decides}
use Rattle.br_fs.specs.Making.{Node, Nodes, HasNoneBelow, HasSomeBelow, IsBelow, IsEmptyAt, IsEmptyIn, IsNoFolder, kind_of, node_at}
use Rattle.br_fs.specs.MemMaker.{begins_with_slash, is_below, is_filled, is_filled_at, nodes_of}
use Rattle.br_fs.specs.declared.mem_maker.Left.{Left}
use Rattle.br_fs.specs.declared.kind.Kind.{Kind}
use Rattle.br_fs.specs.declared.kind.Kind.TheVariants.{Folder}
use Rattle.br_fs.proofs.MakingLaws.{found_change}

-- a path that is computed to be below the folder is, and no other

begins : (bytes : List ℕ) → begins_with_slash bytes ≡ true → (rest : List ℕ) × (bytes ≡ 47 ∷ rest)
begins [] e = absurd cc
begins (b ∷ bs) e = (bs, ap (λ (x : ℕ). x ∷ bs) (eqb-true b 47 e))

below_is : (folder path : List ℕ) → is_below folder path ≡ true → IsBelow folder path
below_is folder path e =
    let parts = and_parts _ _ e in
    let slash = begins (drop (length folder) path) parts.0 in
    let front = (bytes_eq-Decides (take (length folder) path) folder).0 parts.1 in (
      slash.0,
      sym (take-append-drop (length folder) path) ∙ ap (λ (l : List ℕ). l ++ drop (length folder) path) front
          ∙ ap (λ (l : List ℕ). folder ++ l) slash.1,
    )

pub below_true : (folder path : List ℕ) → IsBelow folder path → is_below folder path ≡ true
below_true folder path (rest, is) =
    ap (λ (p : List ℕ). is_below folder p) is
    ∙ and_from _ _ (ap begins_with_slash (drop_at folder (47 ∷ rest) (length folder) refl))
    ((bytes_eq-Decides _ folder).1 (take_at folder (47 ∷ rest) (length folder) refl))

pub short_is_not_below : (folder path : List ℕ) → length path < length folder → is_below folder path ≡ false
short_is_not_below folder path short =
    ap (λ (l : List ℕ). begins_with_slash l && bytes_eq (take (length folder) path) folder) (drop_all (length folder) path (omega (arith, short)))

-- a test of paths that no change passes, but this path: no change is at it

apart : (test : List ℕ → Bool) (one other : List ℕ) → test one ≡ false → test other ≡ true → bytes_eq one other ≡ false
apart test one other first second =
    elim (bytes_eq one other) as (λ b. bytes_eq one other ≡ b → b ≡ false) [
      | true ↦ λ is. absurd (true≢false (sym second ∙ sym (ap test ((bytes_eq-Decides one other).0 is)) ∙ first))
      | false ↦ λ is. refl
    ] refl

none_passes : (b c : Bool) → (b || c) ≡ false → (b ≡ false) × (c ≡ false)
none_passes true c e = absurd cc
none_passes false c e = (refl, e)

none_found : (test : List ℕ → Bool) (changes : List (List ℕ × Left)) (path : List ℕ) → list_any (λ (c : List ℕ × Left). test c.0) changes ≡ false
    → test path ≡ true → find (λ (c : List ℕ × Left). bytes_eq c.0 path) changes ≡ None
none_found test [] path none is = refl
none_found test (c ∷ cs) path none is =
    let parts = none_passes (test c.0) (list_any (λ (c : List ℕ × Left). test c.0) cs) none in
    ap (λ (b : Bool). cond b (Some c) (find (λ (c : List ℕ × Left). bytes_eq c.0 path) cs)) (apart test c.0 path parts.0 is)
    ∙ none_found test cs path parts.1 is

some_found : (test : List ℕ → Bool) (changes : List (List ℕ × Left)) → list_any (λ (c : List ℕ × Left). test c.0) changes ≡ true
    → (path : List ℕ) × (test path ≡ true)
some_found test [] some = absurd cc
some_found test (c ∷ cs) some =
    elim (test c.0) as (λ b. test c.0 ≡ b → (path : List ℕ) × (test path ≡ true)) [
      | true ↦ λ is. (c.0, is)
      | false ↦ λ is. some_found test cs (sym (ap (λ (b : Bool). b || list_any (λ (c : List ℕ × Left). test c.0) cs) is) ∙ some)
    ] refl

-- what is found where something is

no_kind_none : (node : Option Node) → is_some (option_map kind_of node) ≡ false → node ≡ None
no_kind_none None e = refl
no_kind_none (Some node) e = absurd cc

some_kind : (node : Option Node) → is_some (option_map kind_of node) ≡ true → node ≡ None → ⊥
some_kind None e none = absurd cc
some_kind (Some node) e none = absurd cc

none_below : (folder : List ℕ) (changes : List (List ℕ × Left)) → is_filled folder changes ≡ false → HasNoneBelow (nodes_of changes) folder
none_below folder changes none path below =
    elim (is_some (option_map kind_of (node_at (nodes_of changes) path)))
    as (λ b. is_some (option_map kind_of (node_at (nodes_of changes) path)) ≡ b → node_at (nodes_of changes) path ≡ None) [
      | true ↦ λ is. found_change changes path None
          (sym (none_found (is_filled_at folder (nodes_of changes)) changes path none (and_from _ _ (below_true folder path below) is)))
      | false ↦ λ is. no_kind_none (node_at (nodes_of changes) path) is
    ] refl

some_below : (folder : List ℕ) (changes : List (List ℕ × Left)) → is_filled folder changes ≡ true → HasSomeBelow (nodes_of changes) folder
some_below folder changes some =
    let found = some_found (is_filled_at folder (nodes_of changes)) changes some in
    let parts = and_parts _ _ found.1 in
    (found.0, below_is folder found.0 parts.0, some_kind (node_at (nodes_of changes) found.0) parts.1)

empty_in : (folder : List ℕ) (changes : List (List ℕ × Left)) (b : Bool) → is_filled folder changes ≡ b → IsEmptyIn (nodes_of changes) folder (not b)
empty_in folder changes true is = some_below folder changes is
empty_in folder changes false is = none_below folder changes is

pub empty_is : (folder : List ℕ) (changes : List (List ℕ × Left)) (b : Bool) → Some Folder ≡ option_map kind_of (node_at (nodes_of changes) folder)
    → b ≡ is_filled folder changes → IsEmptyAt (Some (nodes_of changes)) folder (not b)
empty_is folder changes b kind is = (sym kind, empty_in folder changes b (sym is))

-- why there is no answer

pub not_steady : (calls : Option ℕ) (nodes : Nodes) (path : List ℕ) → Some 0 ≡ calls → calls ≡ None → IsNoFolder (Some nodes) path
not_steady calls nodes path failing steady = absurd cc

pub nothing_there : (nodes : Nodes) (path : List ℕ) → None ≡ option_map kind_of (node_at nodes path) → IsNoFolder (Some nodes) path
nothing_there nodes path none = λ is. absurd cc

pub no_folder_there : (nodes : Nodes) (path : List ℕ) (kind : Kind) → Some kind ≡ option_map kind_of (node_at nodes path) → (kind ≡ Folder → ⊥)
    → IsNoFolder (Some nodes) path
no_folder_there nodes path kind found other = λ is. let same : kind ≡ Folder = cc in other same
