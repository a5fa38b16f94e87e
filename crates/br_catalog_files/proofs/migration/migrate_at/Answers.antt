use Rattle.br_catalog_files.proofs.migration.migrate_at.Goals as goal

pub returns-in-Ok : goal.returns-in-Ok
returns-in-Ok g c = record {
  migrated = record { store = c.in_ok-store.store; opened = c.in_ok-store.ensures.opened; files = c.in-Ok.files; migrated = c.in-Ok.ensures.migrated };
}
