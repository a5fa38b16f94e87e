use Rattle.std.proofs.Common.{inl, inr, pos, ◌+◌, ap, ◌∙◌}
use Rattle.std.proofs.lemmas.Result.{on_ok_weaker}
use Rattle.sqlite_trees.specs.Objects.{catalog_tree}
use Rattle.sqlite_trees.specs.Tree.{put_row, rowid, without_rowid}
use Rattle.sqlite_trees.specs.declared.store.Shape.TheVariants.{Absent}
use Rattle.br_catalog_files.specs.Renewed.{IsAltered, relisted}
use Rattle.br_catalog_files.proofs.CatalogLaws.{has_put}
use Rattle.br_catalog_files.proofs.RenewLaws.{altered_then, objects_now, set_altered, was_listed}
use Rattle.br_catalog_files.proofs.StepLaws.{clean_before}
use Rattle.br_catalog_files.proofs.new_tables.replace_tables.Goals as goal

pub returns-clause-replaced : goal.returns-clause-replaced
returns-clause-replaced g c clean =
    let l = c.args.layout.now in
    let v0 = g.S.Store.view c.args.store.now in
    let v1 = g.S.Store.view c.drop_tree.new.store in
    let v2 = g.S.Store.view c.drop_tree-2.new.store in
    let v3 = g.S.Store.view c.drop_tree-3.new.store in
    let v4 = g.S.Store.view c.make_file.new.store in
    let clean3 = clean_before c.make_file.ensures.kept clean in
    let clean2 = clean_before c.drop_tree-3.ensures.kept clean3 in
    let clean1 = clean_before c.drop_tree-2.ensures.kept clean2 in
    let one = c.in_ok-drop_tree.ensures.dropped clean1 in
    let two = c.in_ok-drop_tree-2.ensures.dropped clean2 in
    let three = c.in_ok-drop_tree-3.ensures.dropped clean3 in
    let a = without_rowid (pos (l.file + 1)) (v0.trees catalog_tree) in
    let b = without_rowid (pos (l.filename_index + 1)) (v1.trees catalog_tree) in
    let d = without_rowid (pos (l.filename + 1)) (v2.trees catalog_tree) in
    let t1 = relisted v0.trees l.file a in
    let t2 = relisted t1 l.filename_index b in
    let t3 = relisted t2 l.filename d in
    let to1 : IsAltered v0 v1 t1 = set_altered v0 v1 l.file Absent 0 (without_rowid (pos (l.file + 1))) one in
    let to2 : IsAltered v0 v2 t2 = altered_then v0 v1 v2 t1 (λ t. relisted t l.filename_index b) to1 (set_altered v1 v2 l.filename_index Absent 0 (without_rowid (pos (l.filename_index + 1))) two) in
    let to3 : IsAltered v0 v3 t3 = altered_then v0 v2 v3 t2 (λ t. relisted t l.filename d) to2 (set_altered v2 v3 l.filename Absent 0 (without_rowid (pos (l.filename + 1))) three) in
    let o1 = objects_now v0 v1 l.file Absent 0 (without_rowid (pos (l.file + 1))) one in
    let o2 = objects_now v1 v2 l.filename_index Absent 0 (without_rowid (pos (l.filename_index + 1))) two in
    let o3 = objects_now v2 v3 l.filename Absent 0 (without_rowid (pos (l.filename + 1))) three in
    on_ok_weaker c.make_file.result (λ made.
    let row = made.0 in
    record {
      sound = one.sound;
      a = a;
      b = b;
      c = d;
      d = put_row row (v3.trees catalog_tree);
      is = altered_then v0 v3 v4 t3 (λ t. relisted t l.file (put_row row (v3.trees catalog_tree))) to3 (set_altered v3 v4 l.file made.1 made.2 (put_row row) made.3);
      lists = λ r has. elim (has_put row (v3.trees catalog_tree) r has) [
        | inl e ↦ inr (ap rowid e ∙ made.4)
        | inr there ↦ inl (was_listed (v0.trees catalog_tree) (v1.trees catalog_tree) _ r o1 (was_listed (v1.trees catalog_tree) (v2.trees catalog_tree) _ r o2 (was_listed (v2.trees catalog_tree) (v3.trees catalog_tree) _ r o3 there)))
      ];
    }) (c.make_file.ensures.made clean)
