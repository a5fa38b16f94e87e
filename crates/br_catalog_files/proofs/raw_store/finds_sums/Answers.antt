use Rattle.std.proofs.Common.{◌≡◌, ◌%◌, ◌≤◌, sym, refl, subst, ◌∙◌, inl, inr, arith, rules, eq-eqb, ne_eqb, eqb-true}
use Rattle.std.proofs.lemmas.Bool.{cases_eq}
use Rattle.sqlite_wal.specs.Recovery as raw
use Rattle.sqlite_pool.specs.Stored.{reserved}
use Rattle.sqlite_pool.proofs.ProbeLemmas.{reserved_word}
use Rattle.sqlite.specs.Files.{image_of}
use Rattle.sqlite.proofs.FileLemmas.{log_cause}
use Rattle.br_catalog_files.proofs.raw_store.finds_sums.Goals as goal

pub returns-clause-ok : goal.returns-clause-ok
returns-clause-ok g c clean db held is =
    let size = held.0 in
    let few : reserved size ≤ 8 = grind arith in
    let found = held.2.found in
    let page = reserved_word size _ _ found (omega (arith, held.1.0)) held.2.ours.file.sound in
    let word = (c.in-Ok.ensures.value clean found.stored page.0 (subst (λ n. raw.Recovers n (image_of g.D.Disk c.args.files.now) found.stored) is found.found) page.1 (page.2 ∙ is)).1 ∙ page.3 in
    elim (cases_eq (size % 16) 8) [
      | inl on ↦ let eight : reserved size ≡ 8 = rw (eq-eqb _ 8 on) in rw (eq-eqb c.in-Ok.head.1 0x0840_2020 (omega arith)) (omega arith)
      | inr off ↦ let none : reserved size ≡ 0 = rw (ne_eqb _ 8 off) in rw (ne_eqb c.in-Ok.head.1 0x0840_2020 (omega arith)) (omega arith)
    ]

pub returns-clause-begins : goal.returns-clause-begins
returns-clause-begins g c clean pages first found is len =
    let letter : c.in-Ok.head.0 ≡ 83 = search rules in
    sym (c.in-Ok.ensures.value clean pages first found is len).0 ∙ letter

pub returns-clause-says : goal.returns-clause-says
returns-clause-says g c clean sums pages first found is len = sym (c.in-Ok.ensures.value clean pages first found is len).1 ∙ eqb-true _ _ sums

pub returns-then-head-ne83-clause-cause : goal.returns-then-head-ne83-clause-cause
returns-then-head-ne83-clause-cause g c clean =
    inr (inl (
      inl refl,
      λ w.
          let size = w.1.0 in
          let few : reserved size ≤ 8 = grind arith in
          let found = w.1.2.found in
          let page = reserved_word size _ _ found (omega (arith, w.1.1.0)) w.1.2.ours.file.sound in
          c.if-head-ne83.true ((c.in-Ok.ensures.value clean found.stored page.0 (subst (λ n. raw.Recovers n (image_of g.D.Disk c.args.files.now) found.stored) w.2 found.found) page.1 (page.2 ∙ w.2)).0 ∙ page.4),
    ))

pub returns-in-Err-clause-cause : goal.returns-in-Err-clause-cause
returns-in-Err-clause-cause g c clean =
    rw c.probe_error.ensures.value (log_cause _ _ _ (image_of g.D.Disk c.args.files.now) _ c.in-Err.error (c.in-Err.ensures.cause.0 clean)
    (λ w. let found = w.1.2.found.found in (found.frames, rw (← w.2) found.replays)))
