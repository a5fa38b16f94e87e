use Rattle.std.proofs.Common.{◌≡◌, ◌≤◌, map, sym, ap, subst, length, arith, ◌∙◌}
use Rattle.std.proofs.lemmas.List.{length-map, take_all}
use Rattle.br_catalog_files.specs.OldFiles.{moved_row, number_cells, numbers_of}
use Rattle.br_catalog_files.specs.Renewed.{HasFiles}
use Rattle.br_catalog_files.proofs.RenewLaws.{next_file, no_files}
use Rattle.br_catalog_files.proofs.StepLaws.{clean_before, kept_none, kept_then}
use Rattle.br_catalog_files.proofs.new_tables.put_files.Goals as goal

pub loop-at-init : goal.loop-at-init
loop-at-init g c = (kept_none c.args.store.now, λ clean rows ns files names up_names up none. no_files c.args.tree (g.S.Store.view c.args.store.now) (map (moved_row ns) rows) none)

pub loop-at-preserved : goal.loop-at-preserved
loop-at-preserved g c = (
  kept_then c.loop-at.invariant.0 c.put_in.ensures.kept,
  λ clean rows ns files names up_names up none.
      let start = g.S.Store.view c.args.store.now in
      let now = g.S.Store.view c.loop-at.store in
      let new = g.S.Store.view c.put_in.new.store in
      let so = c.loop-at.invariant.1 (clean_before c.put_in.ensures.kept clean) rows ns files names up_names up none in
      next_file c.args.tree start now new ns rows c.loop-at.at c.moved_at.new.row up (c.in_ok-moved_at.ensures.moved rows ns files names up_names) (c.in_ok-put_in.ensures.put clean) so,
)

pub returns-clause-put : goal.returns-clause-put
returns-clause-put g c = λ clean rows ns files names up_names up none.
    let start = g.S.Store.view c.args.store.now in
    let now = g.S.Store.view c.loop-at.store in
    let items = c.args.files.now.numbers.items in
    let so = c.loop-at.invariant.1 clean rows ns files names up_names up none in
    let count : length rows ≡ length items = sym (length-map rows numbers_of) ∙ ap length files.numbers ∙ length-map items number_cells in
    let all : length (map (moved_row ns) rows) ≤ c.loop-at.at = omega (arith, length-map rows (moved_row ns), count, c.len-at-end.ensures, c.loop-at-test.false) in
    subst (HasFiles c.args.tree start now) (take_all c.loop-at.at (map (moved_row ns) rows) all) so
