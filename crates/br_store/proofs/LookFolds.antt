-- What a close leaves once the log is emptied.
use Rattle.std.proofs.Common.{◌≡◌, Bool, true, false, ◌&&◌, IsTrue, [], Result, Ok, Err, IfOk, refl, sym, subst}
use Rattle.sqlite_disk.specs.declared.Disk.{Ghosts}
use Rattle.sqlite_disk.specs.declared.Files.{Files}
use Rattle.sqlite_wal.specs.Reads.{AreClean}
use Rattle.sqlite_store.specs.declared.store.FileStore.{FileStore}
use Rattle.sqlite.specs.Held.{Held}
use Rattle.sqlite.specs.Files.{HoldsDatabase, file_state}
use Rattle.sqlite.specs.Closing.{IsCopied}
use Rattle.br_store.specs.Look.{alone}
use Rattle.br_store.specs.LookFolded.{IsFolded}

-- the log was clean if it is now, and the other file is the same
pub clean_before : (now before db : Bool) → (IsTrue now → IsTrue before) → IsTrue (now && db) → IsTrue (before && db)
clean_before true true db falls clean = clean
clean_before true false db falls clean = let never : IsTrue false = falls refl in absurd cc
clean_before false before db falls clean = absurd cc

module _ {D : Type 0} {g : Ghosts D} (stays : (file : D) → g.may_leave file (g.seen file)) where
  with_empty_log : (c : Held (FileStore D g)) (old new : Files D) → IsCopied c old → g.seen new.log ≡ [] → new.db ≡ old.db → IsFolded g c new
  with_empty_log c old new copied emptied same = record {
    emptied = emptied;
    seen = subst (λ db. ∥ HoldsDatabase (alone (g.seen db)) (file_state c).committed.trees ∥₁) (sym same) copied.seen.alone;
    left = λ bytes may.
        (copied.left (record { log = g.seen old.log; db = bytes }) (stays old.log, subst (λ db. g.may_leave db bytes) same may)).alone;
  }

  pub folded : {E : Type 0} (c : Held (FileStore D g)) (old : Files D) (result : Result (Files D) E)
      → (AreClean g old.log old.db → IsCopied c old)
      → IfOk result (λ new. g.seen new.log ≡ [])
      → IfOk result (λ new. IsTrue (g.is_clean new.log) → IsTrue (g.is_clean old.log))
      → IfOk result (λ new. new.db ≡ old.db)
      → IfOk result (λ new. AreClean g new.log new.db → IsFolded g c new)
  folded c old (Err e) copied emptied falls same = tt
  folded c old (Ok new) copied emptied falls same = λ clean.
      let before : AreClean g old.log new.db = clean_before (g.is_clean new.log) (g.is_clean old.log) (g.is_clean new.db) falls clean in
      with_empty_log c old new (copied (subst (λ db. AreClean g old.log db) same before)) emptied same
