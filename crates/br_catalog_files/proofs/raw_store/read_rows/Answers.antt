use Rattle.std.proofs.Common.{map, refl, sym, ap, ap₂, subst, ◌∙◌, inl, le_refl}
use Rattle.sqlite.proofs.FileLemmas.{from_store}
use Rattle.sqlite_store.specs.Unopened.{state_of, image}
use Rattle.sqlite_pool.specs.File.{in_use}
use Rattle.sqlite_pool.specs.Stored.{Recovers}
use Rattle.std.proofs.lemmas.Result.{err_from_is_err_and}
use Rattle.sqlite.specs.Opening.{unrooted}
use Rattle.sqlite_store.proofs.OpenLemmas.{opens_after}
use Rattle.sqlite_pool.proofs.OpenLemmas.{Reopens-keeps}
use Rattle.sqlite_pool.proofs.StateLemmas.{settled}
use Rattle.sqlite_store.specs.Roots.{has_index_root}
use Rattle.std.specs.Prelude.{⊤}
use Rattle.br_catalog_files.proofs.raw_store.read_rows.Goals as goal

pub returns-in-Err-clause-cause : goal.returns-in-Err-clause-cause
returns-in-Err-clause-cause g c =
    λ clean. rw c.open_error.ensures.value (from_store _ _ _ _ _ _ c.in-Err.error (le_refl _) (c.read_catalog.ensures.kept clean).counts
    (λ w. (w.1.pages, w.1.found, (w.1.wanted, w.1.ours.file))) (c.in-Err.ensures.cause clean))

pub returns-in-Err-index_roots-clause-cause : goal.returns-in-Err-index_roots-clause-cause
returns-in-Err-index_roots-clause-cause g c =
    λ clean.
    let old = c.args.files.now in
    let size = (state_of old).page_size in
    let mid = c.read_catalog.new.self in
    let k = c.index_roots.ensures.kept in
    let early = k.stays.clean clean in
    let first = c.read_catalog.ensures.kept early in
    let cat = c.in-Ok.ensures.ok early in
    rw c.open_error-in-Err-index_roots.ensures.value (from_store _ _ _ _ ⊤ _ c.in-Err-index_roots.error first.counts k.stays.faults (λ _. tt)
    (c.in-Err-index_roots.ensures.cause clean cat.pages cat.shows))

pub returns-in-Err-index_roots-clause-kept : goal.returns-in-Err-index_roots-clause-kept
returns-in-Err-index_roots-clause-kept g c =
    λ clean.
    let old = c.args.files.now in
    let size = (state_of old).page_size in
    let mid = c.read_catalog.new.self in
    let k = c.index_roots.ensures.kept in
    let early = k.stays.clean clean in
    let first = c.read_catalog.ensures.kept early in
    let cat = c.in-Ok.ensures.ok early in
    opens_after old (state_of mid) (state_of c.index_roots.new.self) first (settled mid.pool g.met.D.Disk.seen_may_stay cat.shows.clean.is_open)
    (subst (Recovers size (image old)) (sym cat.shows.committed) cat.found) (Reopens-keeps _ _ k)

pub returns-clause-kept : goal.returns-clause-kept
returns-clause-kept g c =
    λ clean.
    let old = c.args.files.now in
    let size = (state_of old).page_size in
    let mid = c.read_catalog.new.self in
    let k = c.index_roots.ensures.kept in
    let early = k.stays.clean clean in
    let first = c.read_catalog.ensures.kept early in
    let cat = c.in-Ok.ensures.ok early in
    opens_after old (state_of mid) (state_of c.index_roots.new.self) first (settled mid.pool g.met.D.Disk.seen_may_stay cat.shows.clean.is_open)
    (subst (Recovers size (image old)) (sym cat.shows.committed) cat.found) (Reopens-keeps _ _ k)

pub returns-in_err-rows-clause-kept : goal.returns-in_err-rows-clause-kept
returns-in_err-rows-clause-kept g c =
    λ clean.
    let old = c.args.files.now in
    let size = (state_of old).page_size in
    let mid = c.read_catalog.new.self in
    let k = c.index_roots.ensures.kept in
    let early = k.stays.clean clean in
    let first = c.read_catalog.ensures.kept early in
    let cat = c.in-Ok.ensures.ok early in
    opens_after old (state_of mid) (state_of c.index_roots.new.self) first (settled mid.pool g.met.D.Disk.seen_may_stay cat.shows.clean.is_open)
    (subst (Recovers size (image old)) (sym cat.shows.committed) cat.found) (Reopens-keeps _ _ k)

pub returns-in_err-rows-clause-cause : goal.returns-in_err-rows-clause-cause
returns-in_err-rows-clause-cause g c =
    λ _. let p = err_from_is_err_and c.from_residual.result c.from_residual.ensures.1 in
    rw (p.1, p.2) (inl refl)

pub returns-clause-ok : goal.returns-clause-ok
returns-clause-ok g c =
    λ clean.
    let old = c.args.files.now in
    let size = (state_of old).page_size in
    let mid = c.read_catalog.new.self in
    let k = c.index_roots.ensures.kept in
    let early = k.stays.clean clean in
    let first = c.read_catalog.ensures.kept early in
    let cat = c.in-Ok.ensures.ok early in
    let found = c.in-Ok-index_roots.ensures.ok clean cat.pages cat.shows in
    record {
      pages = cat.pages;
      found = cat.found;
      again = subst (λ n. Recovers n (image c.index_roots.new.self) cat.pages) first.size found.again;
      lists = c.in_ok-rows.ensures ∙ ap (map unrooted) (c.as_slice-2.ensures.value ∙ cat.lists);
      flags = found.kinds ∙ ap₂ (λ n xs. map (has_index_root (in_use n cat.pages)) xs) first.size (c.as_slice.ensures.value ∙ cat.lists);
    }
