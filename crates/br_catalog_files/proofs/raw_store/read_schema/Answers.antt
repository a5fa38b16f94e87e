use Rattle.std.proofs.Common.{◌≡◌, true, map, refl, sym, ap, ap₂, subst, subst₂, ◌∙◌, inl, inr, All}
use Rattle.sqlite_store.specs.Unopened.{state_of, wanted_by, image, Opens}
use Rattle.sqlite_store.specs.Listing.{file_trees, IsOurs}
use Rattle.sqlite_store.specs.Db.{rows_at}
use Rattle.sqlite_pool.specs.File.{in_use}
use Rattle.sqlite_pool.specs.Stored.{Recovers}
use Rattle.sqlite_pool.specs.StoredLaws.{recovers_once}
use Rattle.sqlite_trees.specs.Tree.{Trees}
use Rattle.std.proofs.lemmas.Result.{err_from_is_err_and}
use Rattle.sqlite.specs.Opening.{unrooted, Holds, Meets}
use Rattle.sqlite.proofs.OpenLemmas.{meets}
use Rattle.sqlite_store.specs.Roots.{has_index_root}
use Rattle.sqlite_pool.specs.Pool
use Rattle.sqlite_wal.specs.Files.{seen_image}
use Rattle.sqlite_trees.specs.declared.store.Shape.TheVariants.{Table}
use Rattle.sqlite_store.specs.Joined.{joined, HasLowRowid}
use Rattle.sqlite_store.proofs.AlikeLemmas.{same_file}
use Rattle.sqlite_trees.specs.Objects.{with_version}
use Rattle.sqlite_pool.specs.File.{version_in}
use Rattle.br_catalog_files.proofs.raw_store.read_schema.Goals as goal

pub returns-in_err-kinds-clause-cause : goal.returns-in_err-kinds-clause-cause
returns-in_err-kinds-clause-cause g c =
    λ _. let p = err_from_is_err_and c.from_residual-in_err-kinds.result c.from_residual-in_err-kinds.ensures.1 in
    rw (p.1, p.2) (inl refl)

pub returns-in_err-list_schema-clause-cause : goal.returns-in_err-list_schema-clause-cause
returns-in_err-list_schema-clause-cause g c =
    λ _. let p = err_from_is_err_and c.from_residual-in_err-list_schema.result c.from_residual-in_err-list_schema.ensures.1 in
    rw (p.1, p.2) (inl refl)

pub returns-in_default-clause-cause : goal.returns-in_default-clause-cause
returns-in_default-clause-cause g c =
    λ clean.
    let old = c.args.files.now in
    let size = (state_of old).page_size in
    let read = c.in_ok-rows.ensures.ok clean in
    let met = λ (db : Trees) (held : Holds old db).
    let same = recovers_once size (image old) held.pages read.pages held.found read.found in
    subst₂ (Meets held.schema held.wanted) (sym (c.as_slice.ensures.value ∙ read.lists ∙ ap (λ p. map unrooted (rows_at size (in_use size p) Table 1)) (sym same)))
    (sym (c.as_slice-2.ensures.value ∙ read.flags ∙ ap (λ p. map (has_index_root (in_use size p)) (rows_at size (in_use size p) Table 1)) (sym same))) (meets held) in
    inr (inl (inl refl, λ w. rw c.in_default.is at (c.in_ok-kinds.ensures.value w.1.schema w.1.wanted (met w.0 w.1))))

pub returns-clause-cause : goal.returns-clause-cause
returns-clause-cause g c =
    λ late.
    let clean = sym (ap (λ p. (Pool.state p).is_clean) c.list_schema.ensures.files) ∙ late in
    let old = c.args.files.now in
    let size = (state_of old).page_size in
    let read = c.in_ok-rows.ensures.ok clean in
    let met = λ (db : Trees) (held : Holds old db).
    let same = recovers_once size (image old) held.pages read.pages held.found read.found in
    subst₂ (Meets held.schema held.wanted) (sym (c.as_slice.ensures.value ∙ read.lists ∙ ap (λ p. map unrooted (rows_at size (in_use size p) Table 1)) (sym same)))
    (sym (c.as_slice-2.ensures.value ∙ read.flags ∙ ap (λ p. map (has_index_root (in_use size p)) (rows_at size (in_use size p) Table 1)) (sym same))) (meets held) in
    let rows = c.as_slice-3.ensures.value ∙ sym c.as_slice.ensures.value in
    let joined_is = λ (db : Trees) (held : Holds old db). ap₂ joined rows c.as_slice-4.ensures.value ∙ rw c.in-Some.is at (c.in_ok-kinds.ensures.value held.schema held.wanted (met db held)) in
    inr (inl (inl refl, λ w. (rw c.if-branch.false at c.in_ok-list_schema.ensures.ok) w.1.wanted (subst (All HasLowRowid) (sym rows) (met w.0 w.1).low) (joined_is w.0 w.1)))

pub returns-then-branch-clause-ok : goal.returns-then-branch-clause-ok
returns-then-branch-clause-ok g c =
    λ late.
    let clean = sym (ap (λ p. (Pool.state p).is_clean) c.list_schema.ensures.files) ∙ late in
    let old = c.args.files.now in
    let size = (state_of old).page_size in
    let read = c.in_ok-rows.ensures.ok clean in
    let met = λ (db : Trees) (held : Holds old db).
    let same = recovers_once size (image old) held.pages read.pages held.found read.found in
    subst₂ (Meets held.schema held.wanted) (sym (c.as_slice.ensures.value ∙ read.lists ∙ ap (λ p. map unrooted (rows_at size (in_use size p) Table 1)) (sym same)))
    (sym (c.as_slice-2.ensures.value ∙ read.flags ∙ ap (λ p. map (has_index_root (in_use size p)) (rows_at size (in_use size p) Table 1)) (sym same))) (meets held) in
    let rows = c.as_slice-3.ensures.value ∙ sym c.as_slice.ensures.value in
    let joined_is = λ (db : Trees) (held : Holds old db). ap₂ joined rows c.as_slice-4.ensures.value ∙ rw c.in-Some.is at (c.in_ok-kinds.ensures.value held.schema held.wanted (met db held)) in
    let listed = rw c.if-branch.true at c.in_ok-list_schema.ensures.ok in
    record {
      pages = read.pages;
      found = read.found;
      again = subst (λ p. Recovers size (seen_image g.D.Disk (Pool.files p).0 (Pool.files p).1) read.pages) (sym c.list_schema.ensures.files) read.again;
      fits = λ db held. let same = recovers_once size (image old) held.pages read.pages held.found read.found in
          let r = same_file size held.wanted (wanted_by c.list_schema.new.self) held.pages (listed ∙ joined_is db held) held.ours in
          subst (λ p. IsOurs size true (wanted_by c.list_schema.new.self) p × (db ≡ file_trees size (wanted_by c.list_schema.new.self) p)) same (r.0, held.reads ∙ ap (λ x. with_version x (version_in held.pages)) (sym r.1));
    }

pub returns-in_err-list_schema-clause-kept : goal.returns-in_err-list_schema-clause-kept
returns-in_err-list_schema-clause-kept g c =
    λ late. subst (λ p. Opens c.args.files.now (Pool.state p)) (sym c.list_schema.ensures.files)
    (c.read_rows.ensures.kept (sym (ap (λ p. (Pool.state p).is_clean) c.list_schema.ensures.files) ∙ late))

pub returns-then-branch-clause-kept : goal.returns-then-branch-clause-kept
returns-then-branch-clause-kept g c =
    λ late. subst (λ p. Opens c.args.files.now (Pool.state p)) (sym c.list_schema.ensures.files)
    (c.read_rows.ensures.kept (sym (ap (λ p. (Pool.state p).is_clean) c.list_schema.ensures.files) ∙ late))

pub returns-clause-kept : goal.returns-clause-kept
returns-clause-kept g c =
    λ late. subst (λ p. Opens c.args.files.now (Pool.state p)) (sym c.list_schema.ensures.files)
    (c.read_rows.ensures.kept (sym (ap (λ p. (Pool.state p).is_clean) c.list_schema.ensures.files) ∙ late))
