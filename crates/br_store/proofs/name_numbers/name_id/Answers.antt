use Rattle.std.proofs.Common.{arith, ◌∙◌}
use Rattle.sqlite.specs.Held.{state}
use Rattle.sqlite.specs.State.{HasCleanDisk}
use Rattle.br_store.specs.Held.{rows_in}
use Rattle.br_store.proofs.Writes.{wrote_none, wrote_then, wrote_as}
use Rattle.br_store.proofs.name_numbers.name_id.Goals as goal

pub returns-in-Some-clause-found : goal.returns-in-Some-clause-found
returns-in-Some-clause-found g c clean inside tables =
    let a = state g.S.Store c.args.tx.now.conn.now in
    let b = state g.S.Store c.known_id.new.tx.conn.now in
    let found = c.in_ok-id.ensures.found clean tables in
    let one = wrote_none a b inside tables found.0 in
    (one, one.names c.args.dictionary c.args.name.now c.in-Some.id (rw c.in-Some.is at found.1))

pub returns-in-Some-2-clause-found : goal.returns-in-Some-2-clause-found
returns-in-Some-2-clause-found g c clean inside tables =
    let a = state g.S.Store c.args.tx.now.conn.now in
    let b = state g.S.Store c.known_id.new.tx.conn.now in
    let p = state g.S.Store c.put_name.new.tx.conn.now in
    let z = state g.S.Store c.known_id-2.new.tx.conn.now in
    let clean_p : HasCleanDisk p = omega (arith, clean, c.known_id-2.ensures.survives.clean) in
    let clean_b : HasCleanDisk b = omega (arith, clean_p, c.put_name.ensures.survives.clean) in
    let one = wrote_none a b inside tables (c.in_ok-id.ensures.found clean_b tables).0 in
    let two = c.in_ok-put_name.ensures.added clean_p one.mode one.tables in
    let found = c.in_ok-id-2.ensures.found clean two.tables in
    let three = wrote_none p z two.mode two.tables found.0 in (
      wrote_as (rows_in p.now.trees) (rows_in a.now.trees) a z (two.has ∙ one.has)
          (wrote_then (rows_in b.now.trees) (rows_in p.now.trees) a p z (wrote_then (rows_in a.now.trees) (rows_in b.now.trees) a b p one two) three),
      three.names c.args.dictionary c.args.name.now c.in-Some-2.id (rw c.in-Some-2.is at found.1),
    )
