use Rattle.sqlite_pool.specs.StoredLaws.{carried, readable, recovers_once, RecoversAs-from}
use Rattle.std.proofs.Common.{◌≡◌, sym, ap, ap₂, subst, ◌∙◌, inl, inr, arith}
use Rattle.sqlite.proofs.FileLemmas.{from_store}
use Rattle.sqlite_store.specs.Unopened.{state_of, wanted_by, image}
use Rattle.sqlite_store.specs.FileStore.{state, view}
use Rattle.sqlite_store.specs.Listing.{file_trees, IsOurs}
use Rattle.sqlite_store.specs.Saved.{kept_schema}
use Rattle.std.proofs.Math.Path.{subst₃}
use Rattle.sqlite_pool.specs.Stored.{Recovers, RecoversAs}
use Rattle.sqlite_trees.specs.Tree.{no_trees}
use Rattle.std.proofs.Math.Logic.{∥∥₁_map}
use Rattle.std.proofs.lemmas.Bool.{cond-true}
use Rattle.sqlite_trees.proofs.Doubt.{no_doubt}
use Rattle.br_catalog_files.proofs.raw_store.attach.Goals as goal

pub returns-in-Ok-clause-ok : goal.returns-in-Ok-clause-ok
returns-in-Ok-clause-ok g c =
    λ now.
    let clean = c.in-Ok.ensures.honest now in
    let old = c.args.files in
    let size = (state_of old).page_size in
    let mid = c.read_schema.new.files in
    let first = c.read_schema.ensures.kept clean in
    let listed = c.in_default.ensures.ok clean in
    let e = c.in-Ok.ensures in
    let store = c.in-Ok.store in
    let kept = e.kept now in
    let same = recovers_once size (image mid) listed.pages (state store).committed listed.again (subst (λ n. Recovers n (image mid) (state store).committed) first.size (e.found now)) in
    let sized = kept.size ∙ first.size in
    let listing : kept_schema store.saved store.schema.items ≡ wanted_by mid = ap (λ o. kept_schema o store.schema.items) e.ready.unaltered ∙ e.schema in
    let reads : (view store).trees ≡ file_trees size (wanted_by mid) (state store).committed =
    e.ready.clean
    ∙ cond-true _ (file_trees (state store).page_size (kept_schema store.saved store.schema.items) (state store).committed) no_trees now
    ∙ ap₂ (λ n s. file_trees n s (state store).committed) sized listing in
    record {
      fresh = record { sound = e.ready.sound (no_doubt _ now); numbered = e.numbered; clean = e.ready.clean; unmarked = e.ready.unmarked };
      is_open = e.ready.is_open (no_doubt _ now);
      size = sized;
      counts = omega (arith, first.counts, kept.counts, e.counted);
      found = subst (Recovers size (image old)) same listed.found;
      wanted = wanted_by mid;
      ours = ∥∥₁_map (store.stored (e.ready.is_open (no_doubt _ now))) (λ s. subst₃ (λ n b x. IsOurs n b x (state store).committed) sized e.numbered listing s.ours);
      reads = reads;
      holds = λ db held. reads ∙ ap (λ p. file_trees size (wanted_by mid) p) (sym same) ∙ sym (listed.fits db held).1;
    }

pub returns-in-Err-open_numbered-clause-cause : goal.returns-in-Err-open_numbered-clause-cause
returns-in-Err-open_numbered-clause-cause g c =
    λ still.
    let clean = c.in-Err-open_numbered.ensures.falls still in
    let old = c.args.files in
    let size = (state_of old).page_size in
    let mid = c.read_schema.new.files in
    let first = c.read_schema.ensures.kept clean in
    let listed = c.in_default.ensures.ok clean in
    rw c.open_error.ensures.value (from_store _ _ _ _ _ _ c.in-Err-open_numbered.error first.counts (c.in-Err-open_numbered.ensures.unharmed still).counts
    (λ w. rw first.size (listed.pages, listed.again, (listed.fits w.0 w.1).0)) (c.in-Err-open_numbered.ensures.cause still))

pub returns-in-Err-open_numbered-clause-kept : goal.returns-in-Err-open_numbered-clause-kept
returns-in-Err-open_numbered-clause-kept g c =
    λ still.
    let clean = c.in-Err-open_numbered.ensures.falls still in
    let old = c.args.files in
    let size = (state_of old).page_size in
    let mid = c.read_schema.new.files in
    let first = c.read_schema.ensures.kept clean in
    let listed = c.in_default.ensures.ok clean in
    let u = c.in-Err-open_numbered.ensures.unharmed still in
    record {
      size = u.size ∙ first.size;
      counts = omega (arith, first.counts, u.counts);
      crash = λ left may.
          elim (u.crash left may).same [
            | inl was ↦ first.crash left was
            | inr same ↦ let now = carried size (image mid) left (subst (λ n. RecoversAs n (image mid) left) first.size same) listed.pages listed.again in
                record {
                  same = inr (RecoversAs-from size (image old) left listed.pages listed.found now);
                  unread = λ unreadable. absurd (readable size (image old) listed.pages listed.found unreadable);
                }
          ];
    }

pub returns-in-Ok-clause-honest : goal.returns-in-Ok-clause-honest
returns-in-Ok-clause-honest g c now = c.read_schema.ensures.honest (c.in-Ok.ensures.honest now)
