-- What the catalogue in a file tells, if its disk has returned what was written to it.
use Rattle.std.specs.Prelude.{◌≡◌, ℕ, List, [], ◌++◌, Option, Some, None, Ok, IsTrue, codes}
use Rattle.sqlite.specs.Effect.{Database}
use Rattle.sqlite.specs.Held.{Held}
use Rattle.sqlite_trees.specs.declared.store.Store.{Ghosts}
use Rattle.sqlite_disk.specs.declared.Disk as disk
use Rattle.sqlite_disk.specs.declared.Files.{Files}
use Rattle.sqlite_store.specs.declared.store.FileStore.{FileStore}
use Rattle.sqlite_wal.specs.Reads.{AreClean}
use Rattle.br_model.specs.Job.{JobRows}
use Rattle.br_catalog_rows.specs.Load.{read_needed}
use Rattle.br_catalog_rows.specs.Rows.{Rows}
use Rattle.br_catalog_rows.specs.WrongRows.{TellsWrong}
use Rattle.br_catalog_rows.specs.WrongText.{wrong_text}
use Rattle.br_catalog_rows.specs.declared.wrong_rows.WrongRows.{WrongRows}
use Rattle.br_store.specs.Calls.{IsDurable, WhileClean}
use Rattle.br_store.specs.Held.{rows_in, versions_in}
use Rattle.br_store.specs.LookFolded.{IsFolded}
use Rattle.br_store.specs.Made.{Finds, version_refusal}

-- The catalogue is open and of version 2. All that it shows is committed, and a crash leaves just its
-- rows.
pub record IsOpened {S : Type 0} (g : Ghosts S) (held : Held S) : Type 0 where
  pub is_open : WhileClean g held (λ is. IsTrue is.is_open)
  pub current : WhileClean g held (λ is. version_refusal (versions_in is.now.trees) ≡ None)
  pub settled : WhileClean g held (λ is. is.now ≡ is.committed)
  pub durable : WhileClean g held IsDurable

-- the claim holds of the rows that an opening of a database finds
abbrev pub OfFoundRows : Database → (Rows → Type 0) → Type 0
OfFoundRows before claim = (found : Database) × Finds before found × claim (rows_in found.trees)

-- these jobs are loaded from such rows, with the files of those alone whose files are needed
abbrev pub LoadsNeeded : Database → (List JobRows → List ℕ) → List JobRows → Type 0
LoadsNeeded before needed history = OfFoundRows before (λ (rows : Rows). read_needed needed rows ≡ Ok history)

-- the line that says what is wrong; nothing if nothing is
abbrev pub wrong_line : Option WrongRows → List ℕ
wrong_line None = []
wrong_line (Some w) = wrong_text w ++ codes "\n"

-- the line says what is wrong with the rows
abbrev pub SaysWrong : Rows → List ℕ → Type 0
SaysWrong rows line = (told : Option WrongRows) × TellsWrong rows told × (line ≡ wrong_line told)

module _ {D : Type 0} {g : disk.Ghosts D} where
  -- If both files read as they were written, the log is empty, and the database file alone holds all
  -- that was committed, now and after a crash.
  abbrev pub IsClosed : Held (FileStore D g) → Type 0
  IsClosed held = (files : Files D) × (AreClean g files.log files.db → IsFolded g held files)
