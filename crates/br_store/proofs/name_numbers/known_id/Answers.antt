use Rattle.std.proofs.lemmas.Result.{IfOk-weaker}
use Rattle.sqlite.specs.Held.{state}
use Rattle.br_store.proofs.Selects.{first_is_name}
use Rattle.br_store.proofs.name_numbers.known_id.Goals as goal

pub returns-clause-found : goal.returns-clause-found
returns-clause-found g c clean tables =
    IfOk-weaker c.first_id.result _ _ (λ o is. (
      c.in_ok-rows.ensures.same clean tables,
      first_is_name (state g.S.Store c.args.tx.now.conn.now).now.trees c.args.dictionary c.args.name.now c.in_ok-rows.rows.items (c.in_ok-rows.ensures.found clean tables) o is,
    )) (rw c.deref.ensures.value at c.first_id.ensures)
