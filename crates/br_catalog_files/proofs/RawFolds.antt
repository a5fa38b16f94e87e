-- What a fold leaves once the log is emptied.
use Rattle.std.proofs.Common.{◌≡◌, [], sym, subst}
use Rattle.sqlite_disk.specs.declared.Disk.{Ghosts}
use Rattle.sqlite_disk.specs.declared.Files.{Files}
use Rattle.sqlite_store.specs.declared.store.FileStore.{FileStore}
use Rattle.sqlite_store.specs.FileStore.{view}
use Rattle.sqlite.specs.Files.{HoldsDatabase}
use Rattle.br_catalog_files.specs.RawFolded.{IsCopied, IsFolded}
use Rattle.br_store.specs.Look.{alone}

module _ {D : Type 0} {g : Ghosts D} (stays : (file : D) → g.may_leave file (g.seen file)) where
  pub with_empty_log : (it : FileStore D g) (old new : Files D) → IsCopied it old → g.seen new.log ≡ [] → new.db ≡ old.db → IsFolded it new
  with_empty_log it old new copied emptied same = record {
    emptied = emptied;
    seen = subst (λ db. ∥ HoldsDatabase (alone (g.seen db)) (view it).committed ∥₁) (sym same) copied.seen.alone;
    left = λ bytes may.
        (copied.left (record { log = g.seen old.log; db = bytes }) (stays old.log, subst (λ db. g.may_leave db bytes) same may)).alone;
  }
