use Rattle.std.proofs.Common.{ap, sym, ◌∙◌}
use Rattle.sqlite.specs.Effect.{Database}
use Rattle.br_store.specs.Held.{rows_in}
use Rattle.br_store.proofs.store.Store.open.Goals as goal

pub returns-in-Ok-clause-crash : goal.returns-in-Ok-clause-crash
returns-in-Ok-clause-crash g c clean trees may =
    let up = c.in-Ok.ensures.open clean in
    ap rows_in (g.met.S.Store.settled c.make_or_check.new.conn.store trees up may) ∙ ap (λ (db : Database). rows_in db.trees) (sym (c.in-Ok.ensures.settled clean))
