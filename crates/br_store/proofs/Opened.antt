-- Connections over files and in memory that were just opened.
use Rattle.std.proofs.Common.{IsTrue, ap}
use Rattle.std.proofs.Math.Logic.{∥∥₁_elim}
use Rattle.sqlite_disk.specs.declared.Disk.{Ghosts}
use Rattle.sqlite_wal.proofs.StateLemmas.{clean_of}
use Rattle.sqlite_trees.specs.View.{View, IsOrdered}
use Rattle.sqlite_trees.specs.Props.{IsOrdered-prop}
use Rattle.sqlite_trees.specs.Objects.{catalog_tree, IsListed}
use Rattle.sqlite_store.specs.declared.store.FileStore.{FileStore}
use Rattle.sqlite_store.specs.FileStore.{state as state_of, view}
use Rattle.sqlite_store.specs.Listed.{catalog_rows, is_listed}
use Rattle.sqlite_store.proofs.ListingLemmas.{all_ordered}
use Rattle.sqlite.specs.Effect.{Database}
use Rattle.sqlite.specs.Files.{IsOpened, file_state, over_files}
use Rattle.sqlite.specs.Held.{Held, IsNew}
use Rattle.sqlite.specs.State.{HasCleanDisk}
use Rattle.br_store.specs.Calls.{IsJustOpened}
use Rattle.br_store.proofs.Opens.{rising_in}

module _ {D : Type 0} {g : Ghosts D} where
  -- what the store committed last, as what it shows
  abbrev committed_in : FileStore D g → View
  committed_in it = let v = view it in record v { trees = v.committed; shape = v.committed_shape; reals = v.committed_reals }

  ordered : (it : FileStore D g) → IsTrue (view it).is_open → IsOrdered (view it).committed_shape (view it).committed
  ordered it up = rw (clean_of (state_of it) up) (∥∥₁_elim (it.stored up) (IsOrdered-prop _ _) (λ stored. all_ordered stored.ours.file.db _))

  listed : (it : FileStore D g) → IsTrue (view it).is_open → IsListed ((view it).committed catalog_tree) (view it).committed_shape (view it).committed_reals
  listed it up = rw (clean_of (state_of it) up, catalog_rows (state_of it).page_size _ _) (is_listed _)

  -- the clauses of the kit's opening of files give the premise of `Store::open`
  pub just_opened : (c : Held (FileStore D g)) → IsNew c → (HasCleanDisk (file_state c) → IsOpened c) → IsJustOpened over_files c
  just_opened c new opened = record {
    idle = new.autocommit;
    opens = λ clean. (opened clean).0;
    rising = λ clean.
        let is = opened clean in
        let up = is.0.is_open in
        rising_in (committed_in c.store) (file_state c).now (ap (λ (db : Database). db.trees) is.0.clean) (is.1 up).0 (listed c.store up) (ordered c.store up);
  }
