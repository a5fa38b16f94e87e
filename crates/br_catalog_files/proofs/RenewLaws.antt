-- The tables of version 2 in place of those of version 1.
use Rattle.std.proofs.Common.{◌≡◌, ◌≢◌, ℕ, ℤ, not, zero, suc, ◌+◌, List, [], ◌∷◌, map, take, slice_get, Some, Less, Ordering, refl, sym, ap, ap₂, subst, ◌∙◌, arith}
use Rattle.std.specs.List.{AllByRecursion}
use Rattle.std.specs.Ordering.{match_ordering}
use Rattle.sqlite.specs.declared.types.Value.{Value}
use Rattle.sqlite.specs.Order.{Row, column, value_cmp}
use Rattle.sqlite_trees.specs.Objects.{SetsObject, catalog_tree}
use Rattle.sqlite_rules.specs.Lists.{Has}
use Rattle.sqlite_rules.proofs.ListLemmas.{has_filtered}
use Rattle.sqlite_trees.specs.Tree.{IsTable, Trees, has_rowid, put_row, rowid, with_tree, without_rowid}
use Rattle.sqlite_trees.specs.View.{View, SetsTree}
use Rattle.sqlite_trees.specs.declared.store.Shape.{Shape}
use Rattle.sqlite_exec.proofs.WriteLemmas.{with_itself_view, with_twice}
use Rattle.br_catalog_files.specs.OldFiles.{moved_row}
use Rattle.br_catalog_files.specs.Renewed.{HasFiles, IsAltered, relisted}
use Rattle.br_catalog_files.proofs.TreeLaws.{at_same}

-- ---- the list of objects

-- a row of the list has its name among the first five columns
third : (r : Row) → column (take 5 r) 2 ≡ column r 2
third [] = refl
third (a ∷ []) = refl
third (a ∷ b ∷ []) = refl
third (a ∷ b ∷ c ∷ r) = refl

pub unnamed_in : (name : Value) (rows : List Row) → AllByRecursion (λ r. column r 2 ≢ name) (map (take 5) rows) → AllByRecursion (λ r. column r 2 ≢ name) rows
unnamed_in name [] h = tt
unnamed_in name (r ∷ rows) h = (λ same. h.0 (third r ∙ same), unnamed_in name rows h.1)

-- a tree that was dropped or made
pub set_altered : (old new : View) (tree : ℕ) (shape : Shape) (reals : ℕ) (edit : List Row → List Row) → SetsObject old new tree shape reals edit → IsAltered old new (relisted old.trees tree (edit (old.trees catalog_tree)))
set_altered old new tree shape reals edit sets =
    sets.is ∙ ap₂ (λ (s : ℕ → Shape) (r : ℕ → ℕ). record old { trees = relisted old.trees tree (edit (old.trees catalog_tree)); shape = s; reals = r; cursors = new.cursors })
    (sym (ap (λ (v : View). v.shape) sets.is)) (sym (ap (λ (v : View). v.reals) sets.is))

-- the list of objects after that
pub objects_now : (old new : View) (tree : ℕ) (shape : Shape) (reals : ℕ) (edit : List Row → List Row) → SetsObject old new tree shape reals edit → new.trees catalog_tree ≡ edit (old.trees catalog_tree)
objects_now old new tree shape reals edit sets =
    ap (λ (v : View). v.trees catalog_tree) sets.is ∙ at_same (with_tree old.trees tree []) catalog_tree (edit (old.trees catalog_tree))

-- a row that is left was there before
pub was_listed : (before objects : List Row) (id : ℤ) (r : Row) → objects ≡ without_rowid id before → Has objects r → Has before r
was_listed before objects id r same has = (has_filtered (λ r. not (has_rowid id r)) before r (subst (λ (rows : List Row). Has rows r) same has)).0

pub altered_then : (u v w : View) (trees : Trees) (more : Trees → Trees) → IsAltered u v trees → IsAltered v w (more v.trees) → IsAltered u w (more trees)
altered_then u v w trees more one two =
    two ∙ ap (λ (x : View). record x { trees = more v.trees; shape = w.shape; reals = w.reals; cursors = w.cursors }) one
    ∙ ap (λ (t : Trees). record u { trees = more t; shape = w.shape; reals = w.reals; cursors = w.cursors }) (ap (λ (v : View). v.trees) one)

-- ---- rows that are inserted one after another

all_at : (P : Row → Type 0) (rows : List Row) (at : ℕ) (row : Row) → AllByRecursion P rows → slice_get rows at ≡ Some row → P row
all_at P [] at row all has = absurd cc
all_at P (r ∷ rows) zero row all has = let same : r ≡ row = cc in subst P same all.0
all_at P (r ∷ rows) (suc at) row all has = all_at P rows at row all.1 has

-- the row at a place comes after those before it
put_at : (rows : List Row) (at : ℕ) (row : Row) → IsTable rows → slice_get rows at ≡ Some row → put_row row (take at rows) ≡ take (suc at) rows
put_at [] at row up has = absurd cc
put_at (r ∷ rows) zero row up has = let same : r ≡ row = cc in ap (λ (x : Row). x ∷ []) (sym same)
put_at (r ∷ rows) (suc at) row up has =
    let below : value_cmp (rowid r) (rowid row) ≡ Less = all_at (λ b. value_cmp (rowid r) (rowid b) ≡ Less) rows at row up.0 has in
    ap (λ (o : Ordering). match_ordering o (r ∷ put_row row (take at rows)) (row ∷ take at rows) (row ∷ r ∷ take at rows)) below ∙ ap (λ (l : List Row). r ∷ l) (put_at rows at row up.1 has)

pub all_moved : (P : Value → Type 0) (names rows : List Row) → AllByRecursion (λ r. P (rowid r)) rows → AllByRecursion (λ r. P (rowid r)) (map (moved_row names) rows)
all_moved P names [] all = tt
all_moved P names (r ∷ rows) all = (all.0, all_moved P names rows all.1)

pub table_moved : (names rows : List Row) → IsTable rows → IsTable (map (moved_row names) rows)
table_moved names [] up = tt
table_moved names (r ∷ rows) up = (all_moved (λ v. value_cmp (rowid r) v ≡ Less) names rows up.0, table_moved names rows up.1)

-- no row is there at first
pub no_files : (tree : ℕ) (v : View) (rows : List Row) → v.trees tree ≡ [] → HasFiles tree v v (take 0 rows)
no_files tree v rows none = record { files = none; is = with_itself_view v v tree refl }

pub next_file : (tree : ℕ) (start now new : View) (names rows : List Row) (at : ℕ) (row : Row) → IsTable rows → slice_get (map (moved_row names) rows) at ≡ Some row → SetsTree now new tree (put_row row)
    → HasFiles tree start now (take at (map (moved_row names) rows)) → HasFiles tree start new (take (at + 1) (map (moved_row names) rows))
next_file tree start now new names rows at row up has sets so =
    let twice = with_twice start now new tree (put_row row) so.is sets in
    let one : suc at ≡ at + 1 = omega arith in
    record {
      files = twice.0 ∙ ap (put_row row) so.files ∙ put_at (map (moved_row names) rows) at row (table_moved names rows up) has ∙ ap (λ (k : ℕ). take k (map (moved_row names) rows)) one;
      is = twice.1;
    }
