use Rattle.std.proofs.Common.{refl, sym, ap, subst, ◌∙◌, inl, inr, arith}
use Rattle.sqlite.proofs.FileLemmas.{from_store}
use Rattle.sqlite_store.specs.Listing.{listed_from}
use Rattle.std.proofs.Common.{le_refl}
use Rattle.sqlite_store.specs.Listed.{catalog_rows}
use Rattle.sqlite_store.specs.Build.{CanBuild}
use Rattle.std.proofs.lemmas.List.Elements.{All-nil}
use Rattle.std.proofs.Math.Logic.{∥∥₁_map}
use Rattle.sqlite_store.proofs.StoreLemmas.{limit_wider}
use Rattle.sqlite_trees.proofs.Doubt.{no_doubt}
use Rattle.br_catalog_files.proofs.raw_store.blank.Goals as goal

pub returns-in-Ok-clause-ok : goal.returns-in-Ok-clause-ok
returns-in-Ok-clause-ok g c =
    λ clean. let e = c.in-Ok.ensures in let now = clean in
    record {
      fresh = record { sound = e.ready.sound (no_doubt _ now); numbered = e.numbered; clean = e.ready.clean; unmarked = e.ready.unmarked };
      is_open = e.ready.is_open (no_doubt _ now);
      counts = omega (arith, (e.kept clean).counts, e.counted);
      started = e.started clean;
      empty = λ tree low. ap (λ d. d tree) e.ready.clean ∙ e.empty clean tree low;
      unlisted = rw now (catalog_rows _ _ _ ∙ ap (listed_from 0) (e.schema ∙ c.requires.none));
    }

pub returns-in-Err-clause-cause : goal.returns-in-Err-clause-cause
returns-in-Err-clause-cause g c =
    λ clean. let none = c.requires.none in
    rw c.open_error.ensures.value (from_store _ _ _ _ _ _ c.in-Err.error (le_refl _) (c.in-Err.ensures.unharmed clean).counts
    (λ blank. record { few = rw none (omega arith); files = inl blank; schema = subst CanBuild (sym none) (record { distinct = refl; shaped = All-nil _; short = All-nil _ }) }) (limit_wider _ _ _ _ _ c.in-Err.error (λ stop. ∥∥₁_map stop (λ why. elim why [ inl full ↦ full | inr deep ↦ absurd (deep.0 (c.in-Err.ensures.back ∙ none)) ])) (c.in-Err.ensures.cause clean)))

pub returns-in-Err-clause-counts : goal.returns-in-Err-clause-counts
returns-in-Err-clause-counts g c clean = (c.in-Err.ensures.unharmed clean).counts
