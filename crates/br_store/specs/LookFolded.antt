-- The contents of the two files once the log is in the database file.
use Rattle.std.specs.Prelude.{◌≡◌, List, ℕ, []}
use Rattle.sqlite_disk.specs.declared.Disk.{Ghosts}
use Rattle.sqlite_disk.specs.declared.Files.{Files}
use Rattle.sqlite_store.specs.declared.store.FileStore.{FileStore}
use Rattle.sqlite.specs.Held.{Held}
use Rattle.sqlite.specs.Files.{HoldsDatabase, file_state}
use Rattle.br_store.specs.Look.{alone}

-- the database file alone holds these trees, now and after any crash, and the log is empty
pub record IsFolded {D : Type 0} (g : Ghosts D) (c : Held (FileStore D g)) (files : Files D) : Type 0 where
  pub emptied : g.seen files.log ≡ []
  pub seen : ∥ HoldsDatabase (alone (g.seen files.db)) (file_state c).committed.trees ∥₁
  pub left : (bytes : List ℕ) → g.may_leave files.db bytes → ∥ HoldsDatabase (alone bytes) (file_state c).committed.trees ∥₁
