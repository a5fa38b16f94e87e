use Rattle.std.proofs.Common.{◌≡◌, ℕ, List, [], length, sym, ap, subst, ◌∙◌, inl, inr, arith, rules, le_refl, Result, Ok, Err, IfOk, IfErr, IsTrue}
use Rattle.std.proofs.lemmas.List.{nil_from_length}
use Rattle.sqlite_wal.specs.Recovery.{Pages, Image, AreFramesOf}
use Rattle.sqlite_trees.specs.Tree.{Trees}
use Rattle.sqlite_pool.specs.Stored.{stored_size, Recovers, Adopts, RecoversAs, StandsAs, IsResealed, MayReseal, IsOnResealing}
use Rattle.sqlite_pool.specs.StoredLaws.{carried}
use Rattle.sqlite_pool.proofs.ResealLemmas.{adopts_of, adopted, adoptable, plain_adopts, unlogged_adopts, still_adopts}
use Rattle.sqlite_wal.proofs.RecoveryLemmas.{recovers_once}
use Rattle.sqlite_store.specs.Unopened.{state_of, image}
use Rattle.sqlite_store.specs.FileStore.{state}
use Rattle.sqlite.specs.Opening.{HoldsAt, HoldsIn, AreToSeal}
use Rattle.sqlite.proofs.FileLemmas.{from_store, wanted_less}
use Rattle.br_catalog_files.proofs.raw_store.adopt.Goals as goal

as_stored : (size : ℕ) (left : Image) (pages : Pages) → AreToSeal size left [] → Adopts size left pages → Recovers size left pages
as_stored size left pages (inl plain) found = plain_adopts size left pages plain.0 found
as_stored size left pages (inr frames) found = unlogged_adopts size left pages frames found

stands : (size : ℕ) (numbers : List ℕ) (old new : Image) → AreFramesOf (stored_size size) old.log numbers → IsOnResealing size numbers old new → StandsAs size old new
stands size numbers old new frames step = (inr (numbers, frames, step.0), still_adopts size numbers old new frames step)

as_it_is : (size : ℕ) (left : Image) (db : Trees) → AreToSeal size left [] → HoldsIn size left db → HoldsAt size left db
as_it_is size left db none held =
    record { pages = held.pages; wanted = held.wanted; schema = held.schema; found = as_stored size left held.pages none held.found; ours = held.ours; reads = held.reads; sound = held.sound }

with_sums : (size : ℕ) (numbers : List ℕ) (old new : Image) (db : Trees) → AreFramesOf (stored_size size) old.log numbers → IsResealed size numbers old new → HoldsIn size old db → HoldsAt size new db
with_sums size numbers old new db frames done held =
    record { pages = held.pages; wanted = held.wanted; schema = held.schema; found = adopted size numbers old new frames done held.pages held.found; ours = held.ours; reads = held.reads; sound = held.sound }

framed : (size : ℕ) (left : Image) (numbers : List ℕ) → (length numbers ≡ 0 → ⊥) → AreToSeal size left numbers → AreFramesOf (stored_size size) left.log numbers
framed size left numbers some (inl plain) = absurd (some (ap length plain.1))
framed size left numbers some (inr frames) = frames

carried_on : (size : ℕ) (numbers : List ℕ) (old mid left : Image) → IsResealed size numbers old mid → RecoversAs size mid left → MayReseal size numbers old left
carried_on size numbers old mid left done same stored found = inr (rw (recovers_once _ old stored done.stored found done.found) (same _ done.now))

ok_by : {T E : Type 0} (r : Result T E) (P Q R : T → Type 0) → IfOk r P → IfOk r Q → ((x : T) → P x → Q x → R x) → IfOk r R
ok_by (Ok x) P Q R p q so = so x p q
ok_by (Err e) P Q R p q so = tt

err_by : {T E : Type 0} (r : Result T E) (P Q R S : E → Type 0) → IfErr r P → IfErr r Q → IfErr r R → ((e : E) → P e → Q e → R e → S e) → IfErr r S
err_by (Ok x) P Q R S p q r so = tt
err_by (Err e) P Q R S p q r so = so e p q r

pub returns-then-is_empty-clause-ok : goal.returns-then-is_empty-clause-ok
returns-then-is_empty-clause-ok g c =
    let old = c.args.files in
    let size = (state_of old).page_size in
    let none : c.args.numbers.now ≡ [] = nil_from_length _ (search rules) in
    let e = c.attach.ensures in
    ok_by c.attach.result _ _ _ e.ok e.honest (λ store attached honest still. let it = attached still in record {
      fresh = it.fresh;
      is_open = it.is_open;
      counts = it.counts;
      found = adopts_of size (image old) _ it.found;
      wanted = it.wanted;
      ours = it.ours;
      reads = it.reads;
      holds = λ db held. it.holds db (as_it_is size (image old) db (rw none at (c.requires.listed (honest still))) held);
    })

pub returns-then-is_empty-clause-cause : goal.returns-then-is_empty-clause-cause
returns-then-is_empty-clause-cause g c =
    let old = c.args.files in
    let size = (state_of old).page_size in
    let none : c.args.numbers.now ≡ [] = nil_from_length _ (search rules) in
    let e = c.attach.ensures in
    err_by c.attach.result _ _ _ _ e.cause e.falls e.kept (λ left cause falls kept still.
    wanted_less _ _ _ _ _ _ left.0 (le_refl _) (kept still).counts (λ w. (w.0, as_it_is size (image old) w.0 (rw none at (c.requires.listed (falls still))) w.1)) (cause still))

pub returns-then-is_empty-clause-kept : goal.returns-then-is_empty-clause-kept
returns-then-is_empty-clause-kept g c =
    let old = c.args.files in
    let size = (state_of old).page_size in
    let none : c.args.numbers.now ≡ [] = nil_from_length _ (search rules) in
    let e = c.attach.ensures in
    err_by c.attach.result _ _ _ _ e.cause e.falls e.kept (λ left cause falls kept still. let k = kept still in record {
      size = k.size;
      counts = k.counts;
      same = λ at may. elim (k.crash at may).same [
        | inl was ↦ inl was
        | inr alike ↦ inr (
          inl alike,
          λ pages found.
              adopts_of size at pages (carried size (image old) at alike pages (as_stored size (image old) pages (rw none at (c.requires.listed (falls still))) found)),
        )
      ];
      unread = λ unreadable at may. (k.crash at may).unread unreadable;
    })

pub returns-in-Ok-clause-ok : goal.returns-in-Ok-clause-ok
returns-in-Ok-clause-ok g c =
    let old = c.args.files in
    let size = (state_of old).page_size in
    let numbers = c.args.numbers.now in
    let mid = c.reseal.new.self in
    let first = c.reseal.ensures.kept in
    let frames = λ (early : IsTrue (state_of mid).is_clean). framed size (image old) numbers (search rules) (c.requires.listed (c.reseal.ensures.honest early)) in
    let e = c.attach-in-Ok.ensures in
    let holds = λ (early : IsTrue (state_of mid).is_clean) (db : Trees) (held : HoldsIn size (image old) db).
    subst (λ n. HoldsAt n (image mid) db) (sym first.size) (with_sums size numbers (image old) (image mid) db (frames early) (c.in-Ok.ensures.ok early) held) in
    ok_by c.attach-in-Ok.result _ _ _ e.ok e.honest (λ store attached honest still. let it = attached still in let early = honest still in record {
      fresh = it.fresh;
      is_open = it.is_open;
      counts = omega (arith, first.counts, it.counts);
      found = adoptable size numbers (image old) (image mid) (frames early) (c.in-Ok.ensures.ok early) _ (subst (λ n. Recovers n (image mid) (state store).committed) first.size it.found);
      wanted = it.wanted;
      ours = rw (← first.size) it.ours;
      reads = rw (← first.size) it.reads;
      holds = λ db held. it.holds db (holds early db held);
    })

pub returns-in-Ok-clause-cause : goal.returns-in-Ok-clause-cause
returns-in-Ok-clause-cause g c =
    let old = c.args.files in
    let size = (state_of old).page_size in
    let numbers = c.args.numbers.now in
    let mid = c.reseal.new.self in
    let first = c.reseal.ensures.kept in
    let frames = λ (early : IsTrue (state_of mid).is_clean). framed size (image old) numbers (search rules) (c.requires.listed (c.reseal.ensures.honest early)) in
    let e = c.attach-in-Ok.ensures in
    let holds = λ (early : IsTrue (state_of mid).is_clean) (db : Trees) (held : HoldsIn size (image old) db).
    subst (λ n. HoldsAt n (image mid) db) (sym first.size) (with_sums size numbers (image old) (image mid) db (frames early) (c.in-Ok.ensures.ok early) held) in
    err_by c.attach-in-Ok.result _ _ _ _ e.cause e.falls e.kept (λ left cause falls kept still.
    wanted_less _ _ _ _ _ _ left.0 first.counts (kept still).counts (λ w. (w.0, holds (falls still) w.0 w.1)) (cause still))

pub returns-in-Ok-clause-kept : goal.returns-in-Ok-clause-kept
returns-in-Ok-clause-kept g c =
    let old = c.args.files in
    let size = (state_of old).page_size in
    let numbers = c.args.numbers.now in
    let mid = c.reseal.new.self in
    let first = c.reseal.ensures.kept in
    let frames = λ (early : IsTrue (state_of mid).is_clean). framed size (image old) numbers (search rules) (c.requires.listed (c.reseal.ensures.honest early)) in
    let e = c.attach-in-Ok.ensures in
    let holds = λ (early : IsTrue (state_of mid).is_clean) (db : Trees) (held : HoldsIn size (image old) db).
    subst (λ n. HoldsAt n (image mid) db) (sym first.size) (with_sums size numbers (image old) (image mid) db (frames early) (c.in-Ok.ensures.ok early) held) in
    err_by c.attach-in-Ok.result _ _ _ _ e.cause e.falls e.kept (λ left cause falls kept still.
    let k = kept still in
    let early = falls still in
    let done = c.in-Ok.ensures.ok early in
    record {
      size = k.size ∙ first.size;
      counts = omega (arith, first.counts, k.counts);
      same = λ at may. elim (k.crash at may).same [
        | inl was ↦ elim (first.crash at was) [ inl before ↦ inl before | inr summed ↦ inr (stands size numbers (image old) at (frames early) summed) ]
        | inr alike ↦
            let same = subst (λ n. RecoversAs n (image mid) at) first.size alike in
            inr (
              inr (numbers, frames early, carried_on size numbers (image old) (image mid) at done same),
              λ pages found. adopts_of size at pages (carried size (image mid) at same pages (adopted size numbers (image old) (image mid) (frames early) done pages found)),
            )
      ];
      unread = λ unreadable. absurd (unreadable done.stored done.found done.whole);
    })

pub returns-in-Err-clause-cause : goal.returns-in-Err-clause-cause
returns-in-Err-clause-cause g c still =
    let old = c.args.files in
    let size = (state_of old).page_size in
    let numbers = c.args.numbers.now in
    let mid = c.reseal.new.self in
    let first = c.reseal.ensures.kept in
    let frames = λ (early : IsTrue (state_of mid).is_clean). framed size (image old) numbers (search rules) (c.requires.listed (c.reseal.ensures.honest early)) in
    rw c.open_error.ensures.value (from_store _ _ _ _ _ _ c.in-Err.error (le_refl _) first.counts
    (λ w unreadable. unreadable w.1.found.stored w.1.found.found w.1.found.whole) (c.in-Err.ensures.cause still))

pub returns-in-Err-clause-kept : goal.returns-in-Err-clause-kept
returns-in-Err-clause-kept g c still =
    let old = c.args.files in
    let size = (state_of old).page_size in
    let numbers = c.args.numbers.now in
    let mid = c.reseal.new.self in
    let first = c.reseal.ensures.kept in
    let frames = λ (early : IsTrue (state_of mid).is_clean). framed size (image old) numbers (search rules) (c.requires.listed (c.reseal.ensures.honest early)) in
    record {
      size = first.size;
      counts = first.counts;
      same = λ at may. elim (first.crash at may) [ inl before ↦ inl before | inr summed ↦ inr (stands size numbers (image old) at (frames still) summed) ];
      unread = first.unread;
    }
