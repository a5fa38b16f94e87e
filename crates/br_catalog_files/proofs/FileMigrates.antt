-- A migration that is put into the database file.
use Rattle.std.proofs.Common.{◌≡◌, ◌≤◌, ℕ, IsTrue, sym, subst, arith}
use Rattle.sqlite.specs.Effect.{IsDatabase}
use Rattle.sqlite.specs.Files.{HoldsDatabase}
use Rattle.sqlite.specs.Held.{AreDatabases}
use Rattle.sqlite.specs.Schema.{Schema}
use Rattle.sqlite.specs.Tree.{Trees}
use Rattle.sqlite_catalog.specs.Listing.{IsSound}
use Rattle.sqlite_catalog.proofs.ReadLemmas.{lists_once}
use Rattle.sqlite_disk.specs.declared.Disk.{Ghosts}
use Rattle.sqlite_disk.specs.declared.Files.{Files}
use Rattle.sqlite_store.specs.declared.store.FileStore.{FileStore}
use Rattle.sqlite_store.specs.FileStore.{recovers, view}
use Rattle.sqlite_trees.specs.Objects.{catalog_tree}
use Rattle.sqlite_trees.specs.View.{IsClean, doubt}
use Rattle.br_store.specs.Look.{alone}
use Rattle.br_catalog_files.specs.Claims.{CountsJobs}
use Rattle.br_catalog_files.specs.FileMigration.{IsMigratedTo}
use Rattle.br_catalog_files.specs.Moved.{HasMigrated, database}
use Rattle.br_catalog_files.specs.RawFolded.{IsFolded}

module _ {D : Type 0} {g : Ghosts D} where
  pub migrated_to : (it last : FileStore D g) (files : Files D) (jobs : ℕ) → doubt (view it).is_clean ≤ doubt (view last).is_clean → HasMigrated (view it) (view last)
      → CountsJobs (view it).trees (view last).trees jobs → IsTrue (view last).is_numbered → ((db : Trees) → recovers last db → db ≡ (view last).trees) → IsClean (view last)
      → (IsTrue (view last).is_numbered → AreDatabases (recovers last) → IsFolded last files) → IsMigratedTo it files jobs
  migrated_to it last files jobs falls has counts numbered durable clean folds =
      let old = (view it).trees in
      let moved = has.catalogue in
      let same : counts.0 ≡ moved.0 = lists_once (old catalog_tree) counts.0 moved.0 counts.2.listed moved.2.listed in
      record {
        was_clean = omega (arith, falls, clean);
        schema = moved.0;
        layout = moved.1;
        listed = moved.2;
        hold = λ sound.
            let made = moved.3 sound in
            let all : AreDatabases (recovers last) = λ db may. (made.0, subst (IsSound made.0) (sym (durable db may)) made.1.tables.sound) in
            let folded = folds numbered all in
            record {
              catalogue = database made.0 (view last).trees;
              migrated = made.1;
              kept = counts.3 (subst (λ (s : Schema). IsDatabase (database s old)) (sym same) sound);
              emptied = folded.emptied;
              seen = subst (λ (t : Trees). ∥ HoldsDatabase (alone (g.seen files.db)) t ∥₁) (sym has.settled) folded.seen;
              left = λ bytes may. subst (λ (t : Trees). ∥ HoldsDatabase (alone bytes) t ∥₁) (sym has.settled) (folded.left bytes may);
            };
      }
