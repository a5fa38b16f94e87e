-- The rows of File as they are kept in memory.
use Rattle.std.specs.Prelude.{◌≡◌, ℕ, pos, List, [], ◌∷◌, map, true, Ok}
use Rattle.sqlite.specs.declared.types.Value.{Value}
use Rattle.sqlite.specs.declared.types.Value.TheVariants.{Int, Null, Text}
use Rattle.sqlite.specs.Order.{Row, column}
use Rattle.br_model.specs.Job.{FileRow, is_file_row}
use Rattle.br_catalog_rows.specs.Decode.{read_file}
use Rattle.br_catalog_tables.specs.TreePlaces.{file_md5, file_filename, file_index, file_job, file_lstat, file_path, row_number}
use Rattle.br_store.specs.Held.{name_at, file_cells}
use Rattle.br_catalog_files.specs.declared.old_files.FileNumbers.{FileNumbers}
use Rattle.br_catalog_files.specs.declared.old_files.OldFile.{OldFile}
use Rattle.br_catalog_files.specs.declared.old_files.OldFiles.{OldFiles}

-- the numbers of a row of File
abbrev pub numbers_of : Row → Row
numbers_of row = column row row_number ∷ column row file_index ∷ column row file_job ∷ column row file_path ∷ column row file_filename ∷ []

abbrev pub number_cells : FileNumbers → Row
number_cells n = Int n.id ∷ Int (pos n.index) ∷ Int (pos n.job) ∷ Int n.path ∷ Int n.name ∷ []

-- the numbers that `stat` returned for a file, in a row of File
abbrev pub lstat_of : Row → Value
lstat_of row = column row file_lstat

-- the digest in a row of File
abbrev pub digest_of : Row → Value
digest_of row = column row file_md5

-- these are the values of the rows of File
pub record AreFiles (files : OldFiles) (rows : List Row) : Type 0 where
  pub numbers : map numbers_of rows ≡ map number_cells files.numbers.items
  pub lstats : map lstat_of rows ≡ files.lstats
  pub digests : map digest_of rows ≡ files.digests

-- the values of a row of File, which have the types of their columns
pub record IsOldFile (file : OldFile) (row : Row) : Type 0 where
  pub numbers : numbers_of row ≡ number_cells file.numbers
  pub lstat : column row file_lstat ≡ Text file.lstat.now
  pub digest : column row file_md5 ≡ Text file.digest.now

-- such a row is that of a file which a history can have
abbrev pub IsWholeFile : OldFile → List ℕ → List ℕ → Type 0
IsWholeFile old front rest =
    (file : FileRow) × (read_file (file_cells old.numbers.job old.numbers.index front rest old.lstat.now old.digest.now) ≡ Ok file)
    × (is_file_row file ≡ true) × (file.index ≡ old.numbers.index)

-- the row of version 2, with the name of the file in place of its number
abbrev pub moved_row : List Row → Row → Row
moved_row names row =
    column row row_number ∷ Null ∷ column row file_index ∷ column row file_job ∷ column row file_path ∷ name_at names (column row file_filename)
    ∷ column row file_lstat ∷ column row file_md5 ∷ []

-- a row of File of version 1, with the two parts of its path in place of their numbers
abbrev pub shown_row : List Row → List Row → Row → Row
shown_row paths names row =
    column row file_job ∷ column row file_index ∷ name_at paths (column row file_path) ∷ name_at names (column row file_filename)
    ∷ column row file_lstat ∷ column row file_md5 ∷ []
