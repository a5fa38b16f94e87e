use Rattle.std.proofs.Common.{◌≡◌, [], map, sym, ap, ap₂, subst, ◌∙◌}
use Rattle.sqlite.specs.Tree.{Trees}
use Rattle.br_catalog_rows.specs.Load.{read_loaded}
use Rattle.br_catalog_files.specs.OldNames.{AreNames}
use Rattle.br_catalog_files.specs.OldRead.{jobs_in, spans_in}
use Rattle.br_store.specs.Held.{job_shown, span_shown}
use Rattle.br_catalog_files.proofs.MigrateLaws.{same_trees}
use Rattle.br_catalog_files.proofs.StepLaws.{clean_before, kept_then}
use Rattle.br_catalog_files.proofs.old_history.load_jobs.Goals as goal
use Rattle.std.proofs.lemmas.Result.{err_from_is_err_and}
use Rattle.br_catalog_files.proofs.FormLaws.{bare_read, jobs_named, spans_named}
use Rattle.br_catalog_files.specs.Refusals.{CanShowJob, CanShowSpan, HaveNumbers}
use Rattle.std.specs.List.{AllByRecursion}

pub returns-clause-jobs : goal.returns-clause-jobs
returns-clause-jobs g c = λ clean sorted.
    let l = c.args.layout.now in
    let v0 = g.S.Store.view c.args.store.now in
    let v1 = g.S.Store.view c.read_names.new.store in
    let v2 = g.S.Store.view c.read_names-2.new.store in
    let v3 = g.S.Store.view c.read_names-3.new.store in
    let v4 = g.S.Store.view c.read_jobs.new.store in
    let clean4 = clean_before c.read_spans.ensures.kept clean in
    let clean3 = clean_before c.read_jobs.ensures.kept clean4 in
    let clean2 = clean_before c.read_names-3.ensures.kept clean3 in
    let clean1 = clean_before c.read_names-2.ensures.kept clean2 in
    let t1 : v1.trees ≡ v0.trees = same_trees v0 v1 (c.in_ok-clients.ensures.reads clean1) in
    let t2 : v2.trees ≡ v0.trees = same_trees v1 v2 (c.in_ok-filesets.ensures.reads clean2) ∙ t1 in
    let t3 : v3.trees ≡ v0.trees = same_trees v2 v3 (c.in_ok-media.ensures.reads clean3) ∙ t2 in
    let t4 : v4.trees ≡ v0.trees = same_trees v3 v4 (c.in_ok-jobs.ensures.reads clean4) ∙ t3 in
    let clients : AreNames c.in_ok-clients.clients (v0.trees l.client) = c.in_ok-clients.ensures.names clean1 in
    let filesets : AreNames c.in_ok-filesets.filesets (v0.trees l.fileset) = subst (λ (t : Trees). AreNames c.in_ok-filesets.filesets (t l.fileset)) t1 (c.in_ok-filesets.ensures.names clean2) in
    let media : AreNames c.in_ok-media.media (v0.trees l.media) = subst (λ (t : Trees). AreNames c.in_ok-media.media (t l.media)) t2 (c.in_ok-media.ensures.names clean3) in
    let jobs : c.in_ok-jobs.jobs.items ≡ jobs_in l v0.trees =
    c.in_ok-jobs.ensures.jobs clean4 (v0.trees l.client) (v0.trees l.fileset) clients filesets sorted.clients.0 sorted.filesets.0
    ∙ ap (λ (t : Trees). map (job_shown (v0.trees l.client) (v0.trees l.fileset)) (t l.job)) t3 in
    let spans : c.in_ok-spans.spans.items ≡ spans_in l v0.trees =
    c.in_ok-spans.ensures.spans clean (v0.trees l.media) media sorted.media.0 ∙ ap (λ (t : Trees). map (span_shown (v0.trees l.media)) (t l.job_media)) t4 in
    sym (ap₂ (λ j s. read_loaded j s []) jobs spans) ∙ c.in_ok-history.ensures.jobs

pub returns-clause-kept : goal.returns-clause-kept
returns-clause-kept g c =
    kept_then c.read_names.ensures.kept (kept_then c.read_names-2.ensures.kept (kept_then c.read_names-3.ensures.kept (kept_then c.read_jobs.ensures.kept c.read_spans.ensures.kept)))

pub returns-in_err-spans-clause-kept : goal.returns-in_err-spans-clause-kept
returns-in_err-spans-clause-kept g c =
    kept_then c.read_names.ensures.kept (kept_then c.read_names-2.ensures.kept (kept_then c.read_names-3.ensures.kept (kept_then c.read_jobs.ensures.kept c.read_spans.ensures.kept)))

pub returns-in_err-history-clause-kept : goal.returns-in_err-history-clause-kept
returns-in_err-history-clause-kept g c =
    kept_then c.read_names.ensures.kept (kept_then c.read_names-2.ensures.kept (kept_then c.read_names-3.ensures.kept (kept_then c.read_jobs.ensures.kept c.read_spans.ensures.kept)))

pub returns-in_err-clients-clause-other : goal.returns-in_err-clients-clause-other
returns-in_err-clients-clause-other g c = λ clean forms.
    let p = err_from_is_err_and c.from_residual.result c.from_residual.ensures.1 in
    rw (p.1, p.2) (c.in_err-clients.ensures.other clean forms.sorted.clients.1)

pub returns-in_err-filesets-clause-other : goal.returns-in_err-filesets-clause-other
returns-in_err-filesets-clause-other g c = λ clean forms.
    let l = c.args.layout.now in
    let v0 = g.S.Store.view c.args.store.now in
    let v1 = g.S.Store.view c.read_names.new.store in
    let clean1 = clean_before c.read_names-2.ensures.kept clean in
    let t1 : v1.trees ≡ v0.trees = same_trees v0 v1 (c.in_ok-clients.ensures.reads clean1) in
    let p = err_from_is_err_and c.from_residual-in_err-filesets.result c.from_residual-in_err-filesets.ensures.1 in
    rw (p.1, p.2) (c.in_err-filesets.ensures.other clean (subst (λ (t : Trees). HaveNumbers (t l.fileset)) (sym t1) forms.sorted.filesets.1))

pub returns-in_err-media-clause-other : goal.returns-in_err-media-clause-other
returns-in_err-media-clause-other g c = λ clean forms.
    let l = c.args.layout.now in
    let v0 = g.S.Store.view c.args.store.now in
    let v1 = g.S.Store.view c.read_names.new.store in
    let v2 = g.S.Store.view c.read_names-2.new.store in
    let clean2 = clean_before c.read_names-3.ensures.kept clean in
    let clean1 = clean_before c.read_names-2.ensures.kept clean2 in
    let t1 : v1.trees ≡ v0.trees = same_trees v0 v1 (c.in_ok-clients.ensures.reads clean1) in
    let t2 : v2.trees ≡ v0.trees = same_trees v1 v2 (c.in_ok-filesets.ensures.reads clean2) ∙ t1 in
    let p = err_from_is_err_and c.from_residual-in_err-media.result c.from_residual-in_err-media.ensures.1 in
    rw (p.1, p.2) (c.in_err-media.ensures.other clean (subst (λ (t : Trees). HaveNumbers (t l.media)) (sym t2) forms.sorted.media.1))

pub returns-in_err-jobs-clause-other : goal.returns-in_err-jobs-clause-other
returns-in_err-jobs-clause-other g c = λ clean forms.
    let l = c.args.layout.now in
    let v0 = g.S.Store.view c.args.store.now in
    let v1 = g.S.Store.view c.read_names.new.store in
    let v2 = g.S.Store.view c.read_names-2.new.store in
    let v3 = g.S.Store.view c.read_names-3.new.store in
    let clean3 = clean_before c.read_jobs.ensures.kept clean in
    let clean2 = clean_before c.read_names-3.ensures.kept clean3 in
    let clean1 = clean_before c.read_names-2.ensures.kept clean2 in
    let t1 : v1.trees ≡ v0.trees = same_trees v0 v1 (c.in_ok-clients.ensures.reads clean1) in
    let t2 : v2.trees ≡ v0.trees = same_trees v1 v2 (c.in_ok-filesets.ensures.reads clean2) ∙ t1 in
    let t3 : v3.trees ≡ v0.trees = same_trees v2 v3 (c.in_ok-media.ensures.reads clean3) ∙ t2 in
    let clients : AreNames c.in_ok-clients.clients (v0.trees l.client) = c.in_ok-clients.ensures.names clean1 in
    let filesets : AreNames c.in_ok-filesets.filesets (v0.trees l.fileset) = subst (λ (t : Trees). AreNames c.in_ok-filesets.filesets (t l.fileset)) t1 (c.in_ok-filesets.ensures.names clean2) in
    let all = jobs_named l v0.trees forms c.in_ok-clients.clients c.in_ok-filesets.filesets clients filesets in
    let p = err_from_is_err_and c.from_residual-in_err-jobs.result c.from_residual-in_err-jobs.ensures.1 in
    rw (p.1, p.2) (c.in_err-jobs.ensures.other clean (subst (λ (t : Trees). AllByRecursion (CanShowJob c.in_ok-clients.clients c.in_ok-filesets.filesets) (t l.job)) (sym t3) all))

pub returns-in_err-spans-clause-other : goal.returns-in_err-spans-clause-other
returns-in_err-spans-clause-other g c = λ clean forms.
    let l = c.args.layout.now in
    let v0 = g.S.Store.view c.args.store.now in
    let v1 = g.S.Store.view c.read_names.new.store in
    let v2 = g.S.Store.view c.read_names-2.new.store in
    let v3 = g.S.Store.view c.read_names-3.new.store in
    let v4 = g.S.Store.view c.read_jobs.new.store in
    let clean4 = clean_before c.read_spans.ensures.kept clean in
    let clean3 = clean_before c.read_jobs.ensures.kept clean4 in
    let clean2 = clean_before c.read_names-3.ensures.kept clean3 in
    let clean1 = clean_before c.read_names-2.ensures.kept clean2 in
    let t1 : v1.trees ≡ v0.trees = same_trees v0 v1 (c.in_ok-clients.ensures.reads clean1) in
    let t2 : v2.trees ≡ v0.trees = same_trees v1 v2 (c.in_ok-filesets.ensures.reads clean2) ∙ t1 in
    let t3 : v3.trees ≡ v0.trees = same_trees v2 v3 (c.in_ok-media.ensures.reads clean3) ∙ t2 in
    let t4 : v4.trees ≡ v0.trees = same_trees v3 v4 (c.in_ok-jobs.ensures.reads clean4) ∙ t3 in
    let media : AreNames c.in_ok-media.media (v0.trees l.media) = subst (λ (t : Trees). AreNames c.in_ok-media.media (t l.media)) t2 (c.in_ok-media.ensures.names clean3) in
    let all = spans_named l v0.trees forms c.in_ok-media.media media in
    let p = err_from_is_err_and c.from_residual-in_err-spans.result c.from_residual-in_err-spans.ensures.1 in
    rw (p.1, p.2) (c.in_err-spans.ensures.other clean (subst (λ (t : Trees). AllByRecursion (CanShowSpan c.in_ok-media.media) (t l.job_media)) (sym t4) all))

pub returns-in_err-history-clause-other : goal.returns-in_err-history-clause-other
returns-in_err-history-clause-other g c = λ clean forms.
    let l = c.args.layout.now in
    let v0 = g.S.Store.view c.args.store.now in
    let v1 = g.S.Store.view c.read_names.new.store in
    let v2 = g.S.Store.view c.read_names-2.new.store in
    let v3 = g.S.Store.view c.read_names-3.new.store in
    let v4 = g.S.Store.view c.read_jobs.new.store in
    let clean4 = clean_before c.read_spans.ensures.kept clean in
    let clean3 = clean_before c.read_jobs.ensures.kept clean4 in
    let clean2 = clean_before c.read_names-3.ensures.kept clean3 in
    let clean1 = clean_before c.read_names-2.ensures.kept clean2 in
    let t1 : v1.trees ≡ v0.trees = same_trees v0 v1 (c.in_ok-clients.ensures.reads clean1) in
    let t2 : v2.trees ≡ v0.trees = same_trees v1 v2 (c.in_ok-filesets.ensures.reads clean2) ∙ t1 in
    let t3 : v3.trees ≡ v0.trees = same_trees v2 v3 (c.in_ok-media.ensures.reads clean3) ∙ t2 in
    let t4 : v4.trees ≡ v0.trees = same_trees v3 v4 (c.in_ok-jobs.ensures.reads clean4) ∙ t3 in
    let clients : AreNames c.in_ok-clients.clients (v0.trees l.client) = c.in_ok-clients.ensures.names clean1 in
    let filesets : AreNames c.in_ok-filesets.filesets (v0.trees l.fileset) = subst (λ (t : Trees). AreNames c.in_ok-filesets.filesets (t l.fileset)) t1 (c.in_ok-filesets.ensures.names clean2) in
    let media : AreNames c.in_ok-media.media (v0.trees l.media) = subst (λ (t : Trees). AreNames c.in_ok-media.media (t l.media)) t2 (c.in_ok-media.ensures.names clean3) in
    let jobs : c.in_ok-jobs.jobs.items ≡ jobs_in l v0.trees =
    c.in_ok-jobs.ensures.jobs clean4 (v0.trees l.client) (v0.trees l.fileset) clients filesets forms.sorted.clients.0 forms.sorted.filesets.0
    ∙ ap (λ (t : Trees). map (job_shown (v0.trees l.client) (v0.trees l.fileset)) (t l.job)) t3 in
    let spans : c.in_ok-spans.spans.items ≡ spans_in l v0.trees =
    c.in_ok-spans.ensures.spans clean (v0.trees l.media) media forms.sorted.media.0 ∙ ap (λ (t : Trees). map (span_shown (v0.trees l.media)) (t l.job_media)) t4 in
    let read = bare_read l v0.trees forms in
    let p = err_from_is_err_and c.from_residual-in_err-history.result c.from_residual-in_err-history.ensures.1 in
    rw (p.1, p.2) (c.in_err-history.ensures.other read.0 (ap₂ (λ j s. read_loaded j s []) jobs spans ∙ read.1))
