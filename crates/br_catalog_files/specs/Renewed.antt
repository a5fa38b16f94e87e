-- The parts of version 2 that are written.
use Rattle.std.specs.Prelude.{◌≡◌, ◌⊎◌, ◌+◌, ℕ, pos, List, [], false}
use Rattle.sqlite.specs.declared.types.Value.TheVariants.{Int}
use Rattle.sqlite.specs.Order.{Row}
use Rattle.sqlite.specs.Tree.{Trees}
use Rattle.sqlite_rules.specs.Lists.{Has}
use Rattle.sqlite_trees.specs.Objects.{SetsObject, catalog_tree}
use Rattle.sqlite_trees.specs.declared.store.Shape.{Shape}
use Rattle.sqlite_trees.specs.Tree.{put_row, rowid, with_tree}
use Rattle.sqlite_trees.specs.View.{View}
use Rattle.br_catalog_tables.specs.declared.old_schema.OldLayout.{OldLayout}

-- the trees after one was emptied, and its row was removed from the list of objects or added
abbrev pub relisted : Trees → ℕ → List Row → Trees
relisted trees tree objects = with_tree (with_tree trees tree []) catalog_tree objects

-- only trees and their rows in the list of objects may differ
abbrev pub IsAltered : View → View → Trees → Type 0
IsAltered old new trees = new ≡ record old { trees = trees; shape = new.shape; reals = new.reals; cursors = new.cursors }

-- the table of files was made in this tree
abbrev pub MakesFile : ℕ → View → View → Type 0
MakesFile tree old new =
    (row : Row) × (shape : Shape) × (reals : ℕ) × SetsObject old new tree shape reals (put_row row) × (rowid row ≡ Int (pos (tree + 1)))

-- each row of the list of objects was there before, but for that of this tree
abbrev pub ListsNoOther : ℕ → List Row → List Row → Type 0
ListsNoOther tree before objects = (r : Row) → Has objects r → Has before r ⊎ (rowid r ≡ Int (pos (tree + 1)))

-- the trees after the tables of files and names were dropped, and the table of files was made again
abbrev pub replaced : OldLayout → Trees → List Row → List Row → List Row → List Row → Trees
replaced l trees a b c d = relisted (relisted (relisted (relisted trees l.file a) l.filename_index b) l.filename c) l.file d

pub record Replaces (l : OldLayout) (old new : View) : Type 0 where
  pub sound : old.is_broken ≡ false
  pub a : List Row
  pub b : List Row
  pub c : List Row
  pub d : List Row
  pub is : IsAltered old new (replaced l old.trees a b c d)
  pub lists : ListsNoOther l.file (old.trees catalog_tree) d

-- the table in this tree has these rows, and everything else is unchanged
pub record HasFiles (tree : ℕ) (old new : View) (rows : List Row) : Type 0 where
  pub files : new.trees tree ≡ rows
  pub is : new ≡ record old { trees = with_tree old.trees tree (new.trees tree); cursors = new.cursors }
