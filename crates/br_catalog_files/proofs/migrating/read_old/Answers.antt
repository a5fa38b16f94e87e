use Rattle.std.proofs.Common.{rules, ◌≡◌, ℤ, pos, SFits, w64, List, [], ◌∷◌, map, Ok, sym, ap, subst, ◌∙◌}
use Rattle.std.proofs.lemmas.Int.{to_z-of_z}
use Rattle.sqlite.specs.declared.types.Value.TheVariants.{Int}
use Rattle.sqlite.specs.Tree.{Trees}
use Rattle.br_model.specs.Job.{JobRows}
use Rattle.br_catalog_rows.specs.Load.{read_loaded}
use Rattle.br_catalog_files.specs.OldFiles.{AreFiles, moved_row, shown_row}
use Rattle.br_catalog_files.specs.OldNames.{AreNames}
use Rattle.br_catalog_files.specs.OldRead.{AreSorted, files_in, jobs_in, spans_in}
use Rattle.br_catalog_files.specs.Sound.{AreMovedRows}
use Rattle.br_catalog_files.specs.WholeMigration.{FormFiles}
use Rattle.br_catalog_files.proofs.MigrateLaws.{same_trees, sorted_in}
use Rattle.br_catalog_files.proofs.StepLaws.{clean_before, kept_then}
use Rattle.br_catalog_files.proofs.WholeLaws.{read_with_files}
use Rattle.br_catalog_files.proofs.migrating.read_old.Goals as goal
use Rattle.std.proofs.lemmas.Result.{err_from_is_err_and}
use Rattle.br_catalog_files.specs.Refusals.{CanTakeAll, FormHistory, HaveNumbers}
use Rattle.br_catalog_files.proofs.FormLaws.{files_taken}

pub returns-clause-old : goal.returns-clause-old
returns-clause-old g c = λ clean.
    let l = c.args.layout.now in
    let v0 = g.S.Store.view c.args.store.now in
    let v1 = g.S.Store.view c.read_version.new.store in
    let v2 = g.S.Store.view c.load_jobs.new.store in
    let v3 = g.S.Store.view c.read_names.new.store in
    let v4 = g.S.Store.view c.read_names-2.new.store in
    let clean4 = clean_before c.read_files.ensures.kept clean in
    let clean3 = clean_before c.read_names-2.ensures.kept clean4 in
    let clean2 = clean_before c.read_names.ensures.kept clean3 in
    let clean1 = clean_before c.load_jobs.ensures.kept clean2 in
    let clean0 = clean_before c.read_version.ensures.kept clean1 in
    let t1 : v1.trees ≡ v0.trees = same_trees v0 v1 (c.in_ok-version.ensures.reads clean1) in
    let t2 : v2.trees ≡ v0.trees = same_trees v1 v2 (c.in_ok-history.ensures.reads clean2) ∙ t1 in
    let t3 : v3.trees ≡ v0.trees = same_trees v2 v3 (c.in_ok-paths.ensures.reads clean3) ∙ t2 in
    let t4 : v4.trees ≡ v0.trees = same_trees v3 v4 (c.in_ok-names.ensures.reads clean4) ∙ t3 in
    let fits : SFits w64 c.in_ok-version.version = search rules in
    let sorted = sorted_in l v0 (g.met.S.Store.ordered c.args.store.now (c.requires clean0)) (c.are_tables.ensures c.if-not-are_tables.false) in
    let history = c.in_ok-history.history in
    let paths = subst (λ (t : Trees). AreNames c.in_ok-paths.paths (t l.path)) t2 (c.in_ok-paths.ensures.names clean3) in
    let names = subst (λ (t : Trees). AreNames c.in_ok-names.names (t l.filename)) t3 (c.in_ok-names.ensures.names clean4) in
    let files = subst (λ (t : Trees). AreFiles c.in_ok-files.files (t l.file)) t4 (c.in_ok-files.ensures.files clean) in
    let bare = subst (λ (t : Trees). read_loaded (jobs_in l t) (spans_in l t) [] ≡ Ok history) t1 (c.in_ok-history.ensures.jobs clean2 (subst (AreSorted l) (sym t1) sorted)) in
    let of_jobs = λ (jobs : List JobRows) (t : Trees). FormFiles (map (λ (j : JobRows). j.row) jobs) (map (shown_row (v0.trees l.path) (v0.trees l.filename)) (t l.file)) in
    let form : FormFiles (map (λ (j : JobRows). j.row) history) (files_in l v0.trees) =
    subst (λ (jobs : List JobRows). of_jobs jobs v0.trees) c.jobs.ensures.same
    (subst (of_jobs c.jobs.result.now) t4 (c.in_ok-files.ensures.whole clean (v0.trees l.path) (v0.trees l.filename) paths names sorted.paths.0 sorted.names.0)) in
    let it = read_with_files (jobs_in l v0.trees) (spans_in l v0.trees) (files_in l v0.trees) history form.0 bare form.1 in
    record {
      version_is = c.in_ok-version.ensures.version clean1 ∙ ap (λ (z : ℤ). (Int z ∷ Int (pos 1) ∷ []) ∷ []) (sym (to_z-of_z w64 c.in_ok-version.version fits));
      sorted = sorted;
      names_are = names;
      files_are = files;
      moved = subst (λ (t : Trees). AreMovedRows (t l.file) (map (moved_row (v0.trees l.filename)) (t l.file))) t4 (c.in_ok-files.ensures.moved clean (v0.trees l.filename) names sorted.names.0);
      all = it.0;
      loaded = it.1;
      many = c.len.ensures ∙ sym it.2;
    }

pub returns-clause-kept : goal.returns-clause-kept
returns-clause-kept g c =
    kept_then c.read_version.ensures.kept (kept_then c.load_jobs.ensures.kept (kept_then c.read_names.ensures.kept (kept_then c.read_names-2.ensures.kept c.read_files.ensures.kept)))

pub returns-in_err-files-clause-kept : goal.returns-in_err-files-clause-kept
returns-in_err-files-clause-kept g c =
    kept_then c.read_version.ensures.kept (kept_then c.load_jobs.ensures.kept (kept_then c.read_names.ensures.kept (kept_then c.read_names-2.ensures.kept c.read_files.ensures.kept)))

pub returns-in_err-names-clause-kept : goal.returns-in_err-names-clause-kept
returns-in_err-names-clause-kept g c =
    kept_then c.read_version.ensures.kept (kept_then c.load_jobs.ensures.kept (kept_then c.read_names.ensures.kept c.read_names-2.ensures.kept))

pub returns-in_err-version-clause-other : goal.returns-in_err-version-clause-other
returns-in_err-version-clause-other g c = λ clean forms.
    let p = err_from_is_err_and c.from_residual.result c.from_residual.ensures.1 in
    rw (p.1, p.2) (c.in_err-version.ensures.other clean forms.id forms.version_is)

pub returns-in_err-history-clause-other : goal.returns-in_err-history-clause-other
returns-in_err-history-clause-other g c = λ clean forms.
    let l = c.args.layout.now in
    let v0 = g.S.Store.view c.args.store.now in
    let v1 = g.S.Store.view c.read_version.new.store in
    let t1 : v1.trees ≡ v0.trees = same_trees v0 v1 (c.in_ok-version.ensures.reads (clean_before c.load_jobs.ensures.kept clean)) in
    let p = err_from_is_err_and c.from_residual-in_err-history.result c.from_residual-in_err-history.ensures.1 in
    rw (p.1, p.2) (c.in_err-history.ensures.other clean (subst (FormHistory l) (sym t1) forms))

pub returns-in_err-paths-clause-other : goal.returns-in_err-paths-clause-other
returns-in_err-paths-clause-other g c = λ clean forms.
    let l = c.args.layout.now in
    let v0 = g.S.Store.view c.args.store.now in
    let v1 = g.S.Store.view c.read_version.new.store in
    let v2 = g.S.Store.view c.load_jobs.new.store in
    let clean2 = clean_before c.read_names.ensures.kept clean in
    let clean1 = clean_before c.load_jobs.ensures.kept clean2 in
    let t1 : v1.trees ≡ v0.trees = same_trees v0 v1 (c.in_ok-version.ensures.reads clean1) in
    let t2 : v2.trees ≡ v0.trees = same_trees v1 v2 (c.in_ok-history.ensures.reads clean2) ∙ t1 in
    let p = err_from_is_err_and c.from_residual-in_err-paths.result c.from_residual-in_err-paths.ensures.1 in
    rw (p.1, p.2) (c.in_err-paths.ensures.other clean (subst (λ (t : Trees). HaveNumbers (t l.path)) (sym t2) forms.sorted.paths.1))

pub returns-in_err-names-clause-other : goal.returns-in_err-names-clause-other
returns-in_err-names-clause-other g c = λ clean forms.
    let l = c.args.layout.now in
    let v0 = g.S.Store.view c.args.store.now in
    let v1 = g.S.Store.view c.read_version.new.store in
    let v2 = g.S.Store.view c.load_jobs.new.store in
    let v3 = g.S.Store.view c.read_names.new.store in
    let clean3 = clean_before c.read_names-2.ensures.kept clean in
    let clean2 = clean_before c.read_names.ensures.kept clean3 in
    let clean1 = clean_before c.load_jobs.ensures.kept clean2 in
    let t1 : v1.trees ≡ v0.trees = same_trees v0 v1 (c.in_ok-version.ensures.reads clean1) in
    let t2 : v2.trees ≡ v0.trees = same_trees v1 v2 (c.in_ok-history.ensures.reads clean2) ∙ t1 in
    let t3 : v3.trees ≡ v0.trees = same_trees v2 v3 (c.in_ok-paths.ensures.reads clean3) ∙ t2 in
    let p = err_from_is_err_and c.from_residual-in_err-names.result c.from_residual-in_err-names.ensures.1 in
    rw (p.1, p.2) (c.in_err-names.ensures.other clean (subst (λ (t : Trees). HaveNumbers (t l.filename)) (sym t3) forms.sorted.names.1))

pub returns-in_err-files-clause-other : goal.returns-in_err-files-clause-other
returns-in_err-files-clause-other g c = λ clean forms.
    let l = c.args.layout.now in
    let v0 = g.S.Store.view c.args.store.now in
    let v1 = g.S.Store.view c.read_version.new.store in
    let v2 = g.S.Store.view c.load_jobs.new.store in
    let v3 = g.S.Store.view c.read_names.new.store in
    let v4 = g.S.Store.view c.read_names-2.new.store in
    let clean4 = clean_before c.read_files.ensures.kept clean in
    let clean3 = clean_before c.read_names-2.ensures.kept clean4 in
    let clean2 = clean_before c.read_names.ensures.kept clean3 in
    let clean1 = clean_before c.load_jobs.ensures.kept clean2 in
    let t1 : v1.trees ≡ v0.trees = same_trees v0 v1 (c.in_ok-version.ensures.reads clean1) in
    let t2 : v2.trees ≡ v0.trees = same_trees v1 v2 (c.in_ok-history.ensures.reads clean2) ∙ t1 in
    let t3 : v3.trees ≡ v0.trees = same_trees v2 v3 (c.in_ok-paths.ensures.reads clean3) ∙ t2 in
    let t4 : v4.trees ≡ v0.trees = same_trees v3 v4 (c.in_ok-names.ensures.reads clean4) ∙ t3 in
    let history = c.in_ok-history.history in
    let paths_are = subst (λ (t : Trees). AreNames c.in_ok-paths.paths (t l.path)) t2 (c.in_ok-paths.ensures.names clean3) in
    let names_are = subst (λ (t : Trees). AreNames c.in_ok-names.names (t l.filename)) t3 (c.in_ok-names.ensures.names clean4) in
    let bare = subst (λ (t : Trees). read_loaded (jobs_in l t) (spans_in l t) [] ≡ Ok history) t1 (c.in_ok-history.ensures.jobs clean2 (subst (AreSorted l) (sym t1) forms.sorted)) in
    let of_jobs = λ (jobs : List JobRows) (t : Trees). CanTakeAll (map (λ (j : JobRows). j.row) jobs) c.in_ok-paths.paths c.in_ok-names.names (t l.file) in
    let all : of_jobs history v0.trees = files_taken l v0.trees forms history c.in_ok-paths.paths c.in_ok-names.names bare paths_are names_are in
    let p = err_from_is_err_and c.from_residual-in_err-files.result c.from_residual-in_err-files.ensures.1 in
    rw (p.1, p.2) (c.in_err-files.ensures.other clean (subst (λ (jobs : List JobRows). of_jobs jobs v4.trees) (sym c.jobs.ensures.same) (subst (of_jobs history) (sym t4) all)))
