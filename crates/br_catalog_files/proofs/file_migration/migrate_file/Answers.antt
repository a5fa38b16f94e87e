use Rattle.sqlite_trees.specs.View.{IsClean}
use Rattle.sqlite_store.specs.FileStore.{view}
use Rattle.br_catalog_files.proofs.FileMigrates.{migrated_to}
use Rattle.br_catalog_files.proofs.file_migration.migrate_file.Goals as goal

pub returns-in_ok-files-in-Ok : goal.returns-in_ok-files-in-Ok
returns-in_ok-files-in-Ok g c = record {
  migrated = λ kept.
      let last = c.migrate.new.store in
      let files = c.in_ok-files-in-Ok in
      let clean : IsClean (view last) = files.ensures.clean kept in
      let did = c.in-Ok.ensures in
      migrated_to c.args.store last files.files c.in-Ok.jobs c.migrate.ensures.crash.clean (did.migrated clean) (did.jobs clean)
      (c.migrate.ensures.numbered clean) (did.durable clean) clean (files.ensures.folded kept);
}
