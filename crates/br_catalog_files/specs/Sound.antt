-- The trees of version 2 obey its schema if those of version 1 obeyed theirs.
use Rattle.std.specs.Prelude.{◌≡◌, ℕ, ℤ, List, [], ◌∷◌}
use Rattle.sqlite.specs.declared.types.Value.TheVariants.{Blob, Int, Null, Text}
use Rattle.sqlite.specs.Order.{Row, column}
use Rattle.sqlite.specs.Tree.{Trees}
use Rattle.sqlite_trees.specs.Tree.{with_tree}
use Rattle.br_catalog_tables.specs.declared.old_schema.OldLayout.{OldLayout}
use Rattle.br_catalog_files.specs.Renewed.{replaced}

-- a row of File of version 2 and the row of version 1 from which it is made: both have the numbers
-- of one job and one path
pub record IsMovedRow (old new : Row) : Type 0 where
  pub id : ℤ
  pub index : ℤ
  pub job : ℤ
  pub path : ℤ
  pub name : List ℕ
  pub lstat : List ℕ
  pub digest : List ℕ
  pub of_job : column old 3 ≡ Int job
  pub of_path : column old 4 ≡ Int path
  pub is : new ≡ Int id ∷ Null ∷ Int index ∷ Int job ∷ Int path ∷ Blob name ∷ Text lstat ∷ Text digest ∷ []

abbrev pub AreMovedRows : List Row → List Row → Type 0
AreMovedRows [] [] = Unit {0}
AreMovedRows [] (n ∷ news) = ⊥
AreMovedRows (o ∷ olds) [] = ⊥
AreMovedRows (o ∷ olds) (n ∷ news) = IsMovedRow o n × AreMovedRows olds news

-- the trees of version 2, with these lists of objects in between
abbrev pub moved_trees : OldLayout → Trees → List Row → List Row → List Row → List Row → List Row → List Row → Trees
moved_trees l trees a b c d files versions = with_tree (with_tree (replaced l trees a b c d) l.file files) l.version versions
