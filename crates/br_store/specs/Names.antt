-- The tables of names, in which each name has a number.
use Rattle.std.specs.Prelude.{ℕ, ℤ, List, [], ◌∷◌, codes}
use Rattle.sqlite.specs.declared.types.Value.{Value}
use Rattle.sqlite.specs.declared.types.Value.TheVariants.{Null, Int, Text, Blob}
use Rattle.sqlite.specs.Order.{Row}
use Rattle.br_store.specs.declared.name_numbers.Dictionary.{Dictionary}
use Rattle.br_store.specs.declared.name_numbers.Dictionary.TheVariants.{Client, FileSet, Media, Path}
use Rattle.br_catalog_tables.specs.TreePlaces.{Layout}

-- the tree that holds the table
abbrev pub tree_of : Layout → Dictionary → ℕ
tree_of l Client = l.client
tree_of l FileSet = l.fileset
tree_of l Media = l.media
tree_of l Path = l.path

-- the value of a name in its table: a text, or a blob for the front of a path
abbrev pub word : Dictionary → List ℕ → Value
word Client name = Text name
word FileSet name = Text name
word Media name = Text name
word Path name = Blob name

-- the row that gives a name its number
abbrev pub name_row : Dictionary → ℤ → List ℕ → Row
name_row Client id name = Int id ∷ Null ∷ Text name ∷ []
name_row FileSet id name = Int id ∷ Null ∷ Text name ∷ []
name_row Media id name = Int id ∷ Null ∷ Text name ∷ Text (codes "File") ∷ []
name_row Path id name = Int id ∷ Null ∷ Blob name ∷ []

-- the query for the number of a name
abbrev pub select_text : Dictionary → List ℕ
select_text Client = codes "SELECT ClientId FROM Client WHERE Name = ?1"
select_text FileSet = codes "SELECT FileSetId FROM FileSet WHERE FileSet = ?1"
select_text Media = codes "SELECT MediaId FROM Media WHERE VolumeName = ?1"
select_text Path = codes "SELECT PathId FROM Path WHERE Path = ?1"

-- the statement that adds a name
abbrev pub insert_text : Dictionary → List ℕ
insert_text Client = codes "INSERT INTO Client (Name) VALUES (?1)"
insert_text FileSet = codes "INSERT INTO FileSet (FileSet) VALUES (?1)"
insert_text Media = codes "INSERT INTO Media (VolumeName, MediaType) VALUES (?1, 'File')"
insert_text Path = codes "INSERT INTO Path (Path) VALUES (?1)"
