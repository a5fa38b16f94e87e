use Rattle.std.proofs.Common.{◌≡◌, length, rules, sym, ◌∙◌}
use Rattle.sqlite.specs.Held.{state}
use Rattle.br_store.specs.Held.{rows_in}
use Rattle.br_store.proofs.SomeFiles.{no_files}
use Rattle.br_store.proofs.queries.some_files.Goals as goal

pub returns-then-is_empty-clause-rows : goal.returns-then-is_empty-clause-rows
returns-then-is_empty-clause-rows g c clean =
    let none : length c.args.jobs.now ≡ 0 = search rules in
    c.new.ensures.items ∙ sym (no_files c.args.jobs.now (rows_in (state g.S.Store c.args.conn.now).now.trees).files none)
