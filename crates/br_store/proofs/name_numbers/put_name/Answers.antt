use Rattle.sqlite.specs.Held.{state}
use Rattle.std.proofs.Common.{refl}
use Rattle.br_store.specs.Held.{layout_in}
use Rattle.br_store.proofs.Words.{bound_word}
use Rattle.br_store.proofs.Inserts.{puts_name}
use Rattle.br_store.proofs.Writes.{wrote_name}
use Rattle.br_store.proofs.name_numbers.put_name.Goals as goal

pub returns-clause-added : goal.returns-clause-added
returns-clause-added g c clean inside tables =
    let d = c.args.dictionary in
    let name = c.args.name.now in
    let old = state g.S.Store c.args.tx.now.conn.now in
    let new = state g.S.Store c.execute.new.self.conn.now in
    let ran = rw (c.insert_of.ensures, c.word_of.ensures, bound_word d name) at (c.in_ok-execute.ensures.runs clean inside) in
    let put = puts_name old.now.schema (layout_in old.now.trees) tables.own tables.schema d old new name c.in_ok-execute.field-0 refl ran.0 in
    wrote_name d name old new tables ran.1 put.0 put.1
