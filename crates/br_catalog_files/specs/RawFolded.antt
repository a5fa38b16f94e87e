-- The contents of the two files once the log is in the database file.
use Rattle.std.specs.Prelude.{◌≡◌, List, ℕ, [], IsTrue}
use Rattle.sqlite_disk.specs.declared.Disk.{Ghosts}
use Rattle.sqlite_disk.specs.declared.Files.{Files}
use Rattle.sqlite_wal.specs.Recovery.{Image}
use Rattle.sqlite_wal.specs.Files.{outcomes}
use Rattle.sqlite_trees.specs.View.{IsClean}
use Rattle.sqlite_store.specs.declared.store.FileStore.{FileStore}
use Rattle.sqlite_store.specs.FileStore.{view}
use Rattle.sqlite.specs.Closing.{HoldsAlone}
use Rattle.sqlite.specs.Files.{HoldsDatabase, image_of}
use Rattle.br_store.specs.Look.{alone}

-- the last commit is in the database file, as it reads now and after a crash
pub record IsCopied {D : Type 0} {g : Ghosts D} (it : FileStore D g) (files : Files D) : Type 0 where
  pub was_clean : IsClean (view it)
  pub was_open : IsTrue (view it).is_open
  pub seen : HoldsAlone (image_of g files) (view it).committed
  pub left : (image : Image) → outcomes g files.log files.db image → HoldsAlone image (view it).committed

-- the database file alone holds what was committed, as it reads now and whatever a crash leaves of it, and the log is empty
pub record IsFolded {D : Type 0} {g : Ghosts D} (it : FileStore D g) (files : Files D) : Type 0 where
  pub emptied : g.seen files.log ≡ []
  pub seen : ∥ HoldsDatabase (alone (g.seen files.db)) (view it).committed ∥₁
  pub left : (bytes : List ℕ) → g.may_leave files.db bytes → ∥ HoldsDatabase (alone bytes) (view it).committed ∥₁
