use Rattle.sqlite.specs.Held.{state}
use Rattle.br_store.proofs.Opens.{of_tables}
use Rattle.br_store.proofs.queries.catalogue_rows.Goals as goal

pub versions-requires : goal.versions-requires
versions-requires g c clean = of_tables (state g.S.Store c.args.conn.now).now (c.requires clean)
