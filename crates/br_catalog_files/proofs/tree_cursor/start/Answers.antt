use Rattle.br_catalog_files.proofs.CursorLaws.{placed_first}
use Rattle.br_catalog_files.proofs.tree_cursor.start.Goals as goal

pub returns-in-Ok-clause-starts : goal.returns-in-Ok-clause-starts
returns-in-Ok-clause-starts g c clean =
    placed_first (g.S.Store.view c.args.store.now) (g.S.Store.view c.seek.new.self) c.args.tree c.args.row.now c.requires (c.in-Ok.ensures.ok clean) (c.in-Ok.ensures.sound clean)
