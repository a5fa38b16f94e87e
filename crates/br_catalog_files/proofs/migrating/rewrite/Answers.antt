use Rattle.std.proofs.Common.{sym, ap, subst, ◌∙◌}
use Rattle.sqlite_trees.specs.View.{View}
use Rattle.br_catalog_files.proofs.MigrateLaws.{moved_of, same_trees}
use Rattle.br_catalog_files.proofs.StepLaws.{clean_before, kept_then, stays_numbered}
use Rattle.br_catalog_files.proofs.migrating.rewrite.Goals as goal
use Rattle.std.proofs.lemmas.Result.{err_from_is_err_and}
use Rattle.br_catalog_files.specs.Refusals.{FormHistory}
use Rattle.br_catalog_files.proofs.RefusedLaws.{forms_in}

pub returns-clause-moved : goal.returns-clause-moved
returns-clause-moved g c = λ clean.
    let v0 = g.S.Store.view c.args.store.now in
    let v1 = g.S.Store.view c.find_old.new.store in
    let v2 = g.S.Store.view c.read_old.new.store in
    let v3 = g.S.Store.view c.write_new.new.store in
    let clean2 = clean_before c.write_new.ensures.kept clean in
    let clean1 = clean_before c.read_old.ensures.kept clean2 in
    moved_of c.in_ok-tables.tables v0 v1 v2 v3 c.in_ok-old.old (c.in_ok-tables.ensures.old clean1) (c.in_ok-tables.ensures.reads clean1)
    (c.in_ok-old.ensures.old clean2) (c.in_ok-old.ensures.reads clean2) (c.in_ok-write_new.ensures.written clean)

pub find_old-requires : goal.find_old-requires
find_old-requires g c = λ clean. (c.requires clean).sound

pub read_old-requires : goal.read_old-requires
read_old-requires g c = λ clean.
    let reads = c.in_ok-tables.ensures.reads clean in
    ap (λ (v : View). v.is_broken) reads.same ∙ reads.sound

pub write_new-requires : goal.write_new-requires
write_new-requires g c = record { numbered = stays_numbered c.read_old.ensures.kept (stays_numbered c.find_old.ensures.kept (λ clean. (c.requires clean).numbered)) }

pub returns-clause-kept : goal.returns-clause-kept
returns-clause-kept g c = kept_then c.find_old.ensures.kept (kept_then c.read_old.ensures.kept c.write_new.ensures.kept)

pub returns-in_err-write_new-clause-kept : goal.returns-in_err-write_new-clause-kept
returns-in_err-write_new-clause-kept g c = kept_then c.find_old.ensures.kept (kept_then c.read_old.ensures.kept c.write_new.ensures.kept)

pub returns-in_err-old-clause-kept : goal.returns-in_err-old-clause-kept
returns-in_err-old-clause-kept g c = kept_then c.find_old.ensures.kept c.read_old.ensures.kept

pub returns-in_err-tables-clause-other : goal.returns-in_err-tables-clause-other
returns-in_err-tables-clause-other g c = λ clean h.
    let p = err_from_is_err_and c.from_residual.result c.from_residual.ensures.1 in
    rw (p.1, p.2) (c.in_err-tables.ensures.other clean h)

pub returns-in_err-old-clause-other : goal.returns-in_err-old-clause-other
returns-in_err-old-clause-other g c = λ clean h.
    let v0 = g.S.Store.view c.args.store.now in
    let v1 = g.S.Store.view c.find_old.new.store in
    let tables = c.in_ok-tables.tables in
    let clean1 = clean_before c.read_old.ensures.kept clean in
    let forms = forms_in tables.schema tables.layout v0.trees (c.in_ok-tables.ensures.old clean1) h in
    let p = err_from_is_err_and c.from_residual-in_err-old.result c.from_residual-in_err-old.ensures.1 in
    rw (p.1, p.2) (c.in_err-old.ensures.other clean (subst (FormHistory tables.layout) (sym (same_trees v0 v1 (c.in_ok-tables.ensures.reads clean1))) forms))

pub returns-in_err-write_new-clause-other : goal.returns-in_err-write_new-clause-other
returns-in_err-write_new-clause-other g c = λ clean h.
    let p = err_from_is_err_and c.from_residual-in_err-write_new.result c.from_residual-in_err-write_new.ensures.1 in
    rw (p.1, p.2) c.in_err-write_new.ensures.other
