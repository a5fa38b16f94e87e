use Rattle.std.proofs.Common.{rules, ℤ, pos, SFits, w64, [], ◌∷◌, ap, subst, ◌∙◌}
use Rattle.std.proofs.lemmas.Int.{to_z-of_z}
use Rattle.sqlite.specs.declared.types.Value.TheVariants.{Int}
use Rattle.sqlite_trees.specs.Tree.{put_row}
use Rattle.sqlite_trees.specs.View.{View, SetsTree}
use Rattle.br_catalog_files.proofs.MigrateLaws.{written_of}
use Rattle.br_catalog_files.proofs.StepLaws.{clean_before}
use Rattle.br_catalog_files.proofs.migrating.write_new.Goals as goal

pub returns-clause-written : goal.returns-clause-written
returns-clause-written g c = λ clean was read.
    let tables = c.args.tables.now in
    let l = tables.layout in
    let v0 = g.S.Store.view c.args.store.now in
    let v1 = g.S.Store.view c.replace_tables.new.store in
    let v2 = g.S.Store.view c.put_files.new.store in
    let v3 = g.S.Store.view c.put_version.new.store in
    let clean2 = clean_before c.put_version.ensures.kept clean in
    let clean1 = clean_before c.put_files.ensures.kept clean2 in
    let fits : SFits w64 c.args.old.now.version = search rules in
    written_of tables.schema l v0 v1 v2 v3 c.args.old.now was read (c.in_ok-replace_tables.ensures.replaced clean1)
    (λ none. c.in_ok-put_files.ensures.put clean2 (v0.trees l.file) (v0.trees l.filename) read.files_are read.names_are read.sorted.names.0 read.sorted.files.0 none)
    (subst (λ (z : ℤ). SetsTree v2 v3 l.version (put_row (Int z ∷ Int (pos 2) ∷ []))) (to_z-of_z w64 c.args.old.now.version fits) (c.in_ok-put_version.ensures.put clean)) (c.in_ok-check_new.ensures.lists clean)

pub check_new-requires : goal.check_new-requires
check_new-requires g c = λ clean. let sets = c.in_ok-put_version.ensures.put clean in ap (λ (v : View). v.is_broken) sets.is ∙ sets.sound
