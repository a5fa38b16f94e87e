use Rattle.std.proofs.Common.{◌≡◌, ◌+◌, ◌≤◌, refl, sym, ap, subst, subst₂, ◌∙◌, inl, inr, arith, rules}
use Rattle.sqlite_wal.specs.Files as log_files
use Rattle.sqlite_wal.specs.Files.{seen_image, outcomes}
use Rattle.sqlite_wal.specs.Format.{be32}
use Rattle.sqlite_wal.specs.Recovery.{Image, IsIgnored}
use Rattle.sqlite_wal.specs.Reads.{are_clean}
use Rattle.sqlite_wal.specs.PageSize.{bytes_of, size_in_file, Names, IsPageSize}
use Rattle.sqlite_wal.proofs.CleanLemmas.{both_clean}
use Rattle.sqlite_pool.specs.Stored.{is_summed, stored_size, used_size, Adopts, StandsAs, IsUnreadable}
use Rattle.sqlite_pool.specs.Opening.{IsBlankFile}
use Rattle.sqlite_trees.specs.Tree.{Trees}
use Rattle.sqlite_store.specs.Unopened.{state_of, image}
use Rattle.sqlite_store.specs.FileStore.{state}
use Rattle.sqlite_store.proofs.StoreLemmas.{pair}
use Rattle.sqlite.specs.Opening.{HoldsIn, AreToSeal}
use Rattle.std.proofs.Math.Path.{subst₃}
use Rattle.sqlite.specs.Files.{NamesSize, image_of, faults_of, HoldsDatabase, IsBlankAs, IsNothing, IsTooLong, BeginsWell, SaysSums}
use Rattle.sqlite.proofs.OpenLemmas.{pool_files}
use Rattle.sqlite.proofs.FileLemmas.{summed_used, fails_wider, reads_then, same_image, stored_used, wanted_less, probe_finds, probe_size, is_something, stays_something, blank_is_nothing, on_the_way}
use Rattle.br_catalog_files.proofs.raw_store.store_over.Goals as goal

pub returns-in-Err-clause-cause : goal.returns-in-Err-clause-cause
returns-in-Err-clause-cause g c clean =
    let read = c.finds_nothing.ensures in
    fails_wider _ _ _ _ _ _ _ c.in-Err.error (omega arith) (subst IsTooLong (sym (same_image read.log read.db))) (λ _. tt) (c.in-Err.ensures.cause clean)

pub returns-in-Ok-blank-clause-ok : goal.returns-in-Ok-blank-clause-ok
returns-in-Ok-blank-clause-ok g c still =
    let files = c.args.files in
    let start = image_of g.D.Disk files in
    let fresh = c.in-Ok-unopened.fresh in
    let made = c.in-Ok-unopened.ensures in
    let read = c.finds_nothing.ensures in
    let sums = c.in-Some.gets_sums in
    let clean = sym ((pool_files fresh.pool).1 ∙ ap (λ f. are_clean g.D.Disk f.0 f.1) made.files) ∙ c.in-Ok-blank.ensures.honest still in
    let found : IsBlankAs sums start × (IsBlankAs c.args.new_has_sums start → sums ≡ c.args.new_has_sums) = rw c.in-Some.is at (c.in-Ok.ensures.ok clean) in
    let nothing = blank_is_nothing sums start found.0 in
    let counts : faults_of g.D.Disk files ≤ (state_of fresh).faults =
    omega (arith, (pool_files fresh.pool).0, ap (λ f. g.D.Disk.faults f.0 + g.D.Disk.faults f.1) made.files, read.counts) in
    let it = c.in-Ok-blank.ensures.ok still in
    record {
      honest = both_clean _ _ _ _ read.log.clean read.db.clean clean;
      fresh = it.fresh;
      is_open = it.is_open;
      counts = omega (arith, it.counts);
      found = inr (nothing, (it.empty, it.unlisted));
      holds = λ held h. absurd (is_something start held h nothing);
      nothing = λ _. (it.empty, it.unlisted);
    }

pub returns-in-Ok-blank-clause-sums : goal.returns-in-Ok-blank-clause-sums
returns-in-Ok-blank-clause-sums g c still asked =
    let files = c.args.files in
    let start = image_of g.D.Disk files in
    let fresh = c.in-Ok-unopened.fresh in
    let made = c.in-Ok-unopened.ensures in
    let read = c.finds_nothing.ensures in
    let sums = c.in-Some.gets_sums in
    let clean = sym ((pool_files fresh.pool).1 ∙ ap (λ f. are_clean g.D.Disk f.0 f.1) made.files) ∙ c.in-Ok-blank.ensures.honest still in
    let found : IsBlankAs sums start × (IsBlankAs c.args.new_has_sums start → sums ≡ c.args.new_has_sums) = rw c.in-Some.is at (c.in-Ok.ensures.ok clean) in
    let nothing = blank_is_nothing sums start found.0 in
    ap is_summed (c.in-Ok-blank.ensures.size still ∙ made.size) ∙ summed_used c.unwrap-new_size.result sums ∙ found.1 asked

pub returns-in-Err-blank-clause-cause : goal.returns-in-Err-blank-clause-cause
returns-in-Err-blank-clause-cause g c still =
    let files = c.args.files in
    let start = image_of g.D.Disk files in
    let fresh = c.in-Ok-unopened.fresh in
    let made = c.in-Ok-unopened.ensures in
    let read = c.finds_nothing.ensures in
    let sums = c.in-Some.gets_sums in
    let clean = sym ((pool_files fresh.pool).1 ∙ ap (λ f. are_clean g.D.Disk f.0 f.1) made.files) ∙ c.in-Err-blank.ensures.falls still in
    let found : IsBlankAs sums start × (IsBlankAs c.args.new_has_sums start → sums ≡ c.args.new_has_sums) = rw c.in-Some.is at (c.in-Ok.ensures.ok clean) in
    let nothing = blank_is_nothing sums start found.0 in
    let new_size : bytes_of c.unwrap-new_size.result ≡ 4096 = search rules in
    let size : (state_of fresh).page_size ≡ used_size 4096 sums = made.size ∙ ap (λ n. used_size n sums) new_size in
    let seen : image fresh ≡ start = ap (λ f. seen_image g.D.Disk f.0 f.1) made.files ∙ same_image read.log read.db in
    let blank : IsBlankFile (state_of fresh).page_size (image fresh) = subst₂ IsBlankFile (sym size) (sym seen) found.0 in
    let counts : faults_of g.D.Disk files ≤ (state_of fresh).faults =
    omega (arith, (pool_files fresh.pool).0, ap (λ f. g.D.Disk.faults f.0 + g.D.Disk.faults f.1) made.files, read.counts) in
    wanted_less _ _ _ _ _ _ c.in-Err-blank.error counts (c.in-Err-blank.ensures.counts still) (λ _. blank) (c.in-Err-blank.ensures.cause still)

pub returns-in-Err-blank-clause-unharmed : goal.returns-in-Err-blank-clause-unharmed
returns-in-Err-blank-clause-unharmed g c still =
    let files = c.args.files in
    let start = image_of g.D.Disk files in
    let fresh = c.in-Ok-unopened.fresh in
    let made = c.in-Ok-unopened.ensures in
    let read = c.finds_nothing.ensures in
    let sums = c.in-Some.gets_sums in
    let clean = sym ((pool_files fresh.pool).1 ∙ ap (λ f. are_clean g.D.Disk f.0 f.1) made.files) ∙ c.in-Err-blank.ensures.falls still in
    let found : IsBlankAs sums start × (IsBlankAs c.args.new_has_sums start → sums ≡ c.args.new_has_sums) = rw c.in-Some.is at (c.in-Ok.ensures.ok clean) in
    let nothing = blank_is_nothing sums start found.0 in
    let new_size : bytes_of c.unwrap-new_size.result ≡ 4096 = search rules in
    let size : (state_of fresh).page_size ≡ used_size 4096 sums = made.size ∙ ap (λ n. used_size n sums) new_size in
    let seen : image fresh ≡ start = ap (λ f. seen_image g.D.Disk f.0 f.1) made.files ∙ same_image read.log read.db in
    let blank : IsBlankFile (state_of fresh).page_size (image fresh) = subst₂ IsBlankFile (sym size) (sym seen) found.0 in
    let given = c.unwrap-new_size.result in
    let valid : IsPageSize (stored_size (used_size 4096 sums)) =
    subst IsPageSize (sym (stored_used given sums) ∙ ap (λ n. stored_size (used_size n sums)) new_size) (given.smallest, given.largest, given.power, given.aligned) in
    inl (
      nothing,
      λ left may. elim ((c.in-Err-blank.ensures.kept still).blank blank left may) [
        | inl was ↦ let old = subst (λ f. outcomes g.D.Disk f.0 f.1 left) made.files ((pool_files fresh.pool).2 left was) in inl (read.log.crash _ old.0, read.db.crash _ old.1)
        | inr way ↦ inr (on_the_way sums left valid (rw (size, made.none) at way))
      ],
    )

pub returns-in_default-found-clause-cause : goal.returns-in_default-found-clause-cause
returns-in_default-found-clause-cause g c clean =
    let files = c.args.files in
    let start = image_of g.D.Disk files in
    let read = c.finds_nothing.ensures in
    let probe = c.probe_page_size.ensures in
    let found = c.in-Ok-probe_page_size.found in
    let something : ¬ IsNothing start = rw c.in_default.is at (c.in-Ok.ensures.ok (both_clean _ _ _ _ probe.log.clean probe.db.clean clean)) in
    let by_log : ¬ IsIgnored start.log → Names found (be32 start.log 8) = rw read.log.seen at (c.in-Ok-probe_page_size.ensures.by_log clean) in
    let by_file : IsIgnored start.log → Names found (size_in_file start.db) = rw (read.log.seen, read.db.seen) at (c.in-Ok-probe_page_size.ensures.by_file clean) in
    inr (inl (inl refl, λ w. elim w [ inl held ↦ probe_finds start found by_log by_file held.0 held.1 c.in_default-found.is | inr nothing ↦ something nothing ]))

pub returns-in-Err-finds_sums-clause-cause : goal.returns-in-Err-finds_sums-clause-cause
returns-in-Err-finds_sums-clause-cause g c later =
    let files = c.args.files in
    let start = image_of g.D.Disk files in
    let read = c.finds_nothing.ensures in
    let probe = c.probe_page_size.ensures in
    let found = c.in-Ok-probe_page_size.found in
    let summed = c.finds_sums.ensures in
    let clean = both_clean _ _ _ _ summed.log.clean summed.db.clean later in
    let something : ¬ IsNothing start = rw c.in_default.is at (c.in-Ok.ensures.ok (both_clean _ _ _ _ probe.log.clean probe.db.clean clean)) in
    let by_log : ¬ IsIgnored start.log → Names found (be32 start.log 8) = rw read.log.seen at (c.in-Ok-probe_page_size.ensures.by_log clean) in
    let by_file : IsIgnored start.log → Names found (size_in_file start.db) = rw (read.log.seen, read.db.seen) at (c.in-Ok-probe_page_size.ensures.by_file clean) in
    let chosen = c.in-Some-found.size in
    let looked : image_of g.D.Disk c.probe_page_size.new.files ≡ start = same_image (reads_then read.log probe.log) (reads_then read.db probe.db) in
    let after : image_of g.D.Disk c.finds_sums.new.files ≡ image_of g.D.Disk c.probe_page_size.new.files = same_image summed.log summed.db in
    let named : NamesSize start (bytes_of chosen) = (λ signed. (rw c.in-Some-found.is at (by_log signed)).1, λ ignored. (rw c.in-Some-found.is at (by_file ignored)).1) in
    fails_wider _ _ _ _ _ _ _ c.in-Err-finds_sums.error (omega (arith, read.counts, c.in-Ok-probe_page_size.ensures.faults))
    (λ huge. (_, subst (λ i. NamesSize i (bytes_of chosen)) (sym (after ∙ looked)) named, subst (log_files.IsHuge (bytes_of chosen)) (sym after) huge))
    (λ w. elim w [
      | inl held ↦ (
        held.0,
        (held.1.0, held.1.1, subst (λ i. HoldsIn held.1.0 i held.0) (sym looked) held.1.2),
        probe_size start found by_log by_file held.0 held.1 chosen c.in-Some-found.is,
      )
      | inr nothing ↦ absurd (something nothing)
    ]) (c.in-Err-finds_sums.ensures.cause later)

pub returns-in-Ok-adopt-clause-ok : goal.returns-in-Ok-adopt-clause-ok
returns-in-Ok-adopt-clause-ok g c still =
    let files = c.args.files in
    let start = image_of g.D.Disk files in
    let read = c.finds_nothing.ensures in
    let probe = c.probe_page_size.ensures in
    let found = c.in-Ok-probe_page_size.found in
    let fresh = c.in-Ok-unopened-2.fresh in
    let made = c.in-Ok-unopened-2.ensures in
    let last = sym ((pool_files fresh.pool).1 ∙ ap (λ f. are_clean g.D.Disk f.0 f.1) made.files) ∙ c.in-Ok-adopt.ensures.honest still in
    let listed = c.to_seal.ensures in
    let later = both_clean _ _ _ _ listed.log.clean listed.db.clean last in
    let summed = c.finds_sums.ensures in
    let clean = both_clean _ _ _ _ summed.log.clean summed.db.clean later in
    let something : ¬ IsNothing start = rw c.in_default.is at (c.in-Ok.ensures.ok (both_clean _ _ _ _ probe.log.clean probe.db.clean clean)) in
    let by_log : ¬ IsIgnored start.log → Names found (be32 start.log 8) = rw read.log.seen at (c.in-Ok-probe_page_size.ensures.by_log clean) in
    let by_file : IsIgnored start.log → Names found (size_in_file start.db) = rw (read.log.seen, read.db.seen) at (c.in-Ok-probe_page_size.ensures.by_file clean) in
    let chosen = c.in-Some-found.size in
    let looked : image_of g.D.Disk c.probe_page_size.new.files ≡ start = same_image (reads_then read.log probe.log) (reads_then read.db probe.db) in
    let log = reads_then (reads_then (reads_then read.log probe.log) summed.log) listed.log in
    let db = reads_then (reads_then (reads_then read.db probe.db) summed.db) listed.db in
    let seen : image fresh ≡ start = ap (λ f. seen_image g.D.Disk f.0 f.1) made.files ∙ same_image log db in
    let counts : faults_of g.D.Disk files ≤ (state_of fresh).faults =
    omega (arith, (pool_files fresh.pool).0, ap (λ f. g.D.Disk.faults f.0 + g.D.Disk.faults f.1) made.files, read.counts, c.in-Ok-probe_page_size.ensures.faults, c.in-Ok-finds_sums.ensures.same, c.in-Ok-to_seal.ensures.same) in
    let at = λ (held : Trees) (h : HoldsDatabase start held).
    c.in-Ok-finds_sums.ensures.ok later held (h.0, h.1, subst (λ i. HoldsIn h.0 i held) (sym looked) h.2) (probe_size start found by_log by_file held h chosen c.in-Some-found.is) ∙ sym made.size in
    let holds = λ (held : Trees) (h : HoldsDatabase start held). subst₂ (λ n i. HoldsIn n i held) (at held h) (sym seen) h.2 in
    let it = c.in-Ok-adopt.ensures.ok still in
    record {
      honest = both_clean _ _ _ _ log.clean db.clean last;
      fresh = it.fresh;
      is_open = it.is_open;
      counts = omega (arith, it.counts);
      found = inl ((state_of fresh).page_size, _, it.wanted, subst (λ i. Adopts (state_of fresh).page_size i (state c.in-Ok-adopt.store).committed) seen it.found, it.ours, it.reads);
      holds = λ held h. it.holds held (holds held h);
      nothing = λ nothing. absurd (something nothing);
    }

pub returns-in-Ok-adopt-clause-sums : goal.returns-in-Ok-adopt-clause-sums
returns-in-Ok-adopt-clause-sums g c still asked =
    let files = c.args.files in
    let start = image_of g.D.Disk files in
    let read = c.finds_nothing.ensures in
    let probe = c.probe_page_size.ensures in
    let found = c.in-Ok-probe_page_size.found in
    let fresh = c.in-Ok-unopened-2.fresh in
    let made = c.in-Ok-unopened-2.ensures in
    let last = sym ((pool_files fresh.pool).1 ∙ ap (λ f. are_clean g.D.Disk f.0 f.1) made.files) ∙ c.in-Ok-adopt.ensures.honest still in
    let listed = c.to_seal.ensures in
    let later = both_clean _ _ _ _ listed.log.clean listed.db.clean last in
    let summed = c.finds_sums.ensures in
    let clean = both_clean _ _ _ _ summed.log.clean summed.db.clean later in
    let something : ¬ IsNothing start = rw c.in_default.is at (c.in-Ok.ensures.ok (both_clean _ _ _ _ probe.log.clean probe.db.clean clean)) in
    let by_log : ¬ IsIgnored start.log → Names found (be32 start.log 8) = rw read.log.seen at (c.in-Ok-probe_page_size.ensures.by_log clean) in
    let by_file : IsIgnored start.log → Names found (size_in_file start.db) = rw (read.log.seen, read.db.seen) at (c.in-Ok-probe_page_size.ensures.by_file clean) in
    let chosen = c.in-Some-found.size in
    let looked : image_of g.D.Disk c.probe_page_size.new.files ≡ start = same_image (reads_then read.log probe.log) (reads_then read.db probe.db) in
    let log = reads_then (reads_then (reads_then read.log probe.log) summed.log) listed.log in
    let db = reads_then (reads_then (reads_then read.db probe.db) summed.db) listed.db in
    let seen : image fresh ≡ start = ap (λ f. seen_image g.D.Disk f.0 f.1) made.files ∙ same_image log db in
    absurd (something (blank_is_nothing _ start asked))

pub returns-clause-cause : goal.returns-clause-cause
returns-clause-cause g c still =
    let files = c.args.files in
    let start = image_of g.D.Disk files in
    let read = c.finds_nothing.ensures in
    let probe = c.probe_page_size.ensures in
    let found = c.in-Ok-probe_page_size.found in
    let fresh = c.in-Ok-unopened-2.fresh in
    let made = c.in-Ok-unopened-2.ensures in
    let last = sym ((pool_files fresh.pool).1 ∙ ap (λ f. are_clean g.D.Disk f.0 f.1) made.files) ∙ c.in-Err-adopt.ensures.falls still in
    let listed = c.to_seal.ensures in
    let later = both_clean _ _ _ _ listed.log.clean listed.db.clean last in
    let summed = c.finds_sums.ensures in
    let clean = both_clean _ _ _ _ summed.log.clean summed.db.clean later in
    let something : ¬ IsNothing start = rw c.in_default.is at (c.in-Ok.ensures.ok (both_clean _ _ _ _ probe.log.clean probe.db.clean clean)) in
    let by_log : ¬ IsIgnored start.log → Names found (be32 start.log 8) = rw read.log.seen at (c.in-Ok-probe_page_size.ensures.by_log clean) in
    let by_file : IsIgnored start.log → Names found (size_in_file start.db) = rw (read.log.seen, read.db.seen) at (c.in-Ok-probe_page_size.ensures.by_file clean) in
    let chosen = c.in-Some-found.size in
    let looked : image_of g.D.Disk c.probe_page_size.new.files ≡ start = same_image (reads_then read.log probe.log) (reads_then read.db probe.db) in
    let log = reads_then (reads_then (reads_then read.log probe.log) summed.log) listed.log in
    let db = reads_then (reads_then (reads_then read.db probe.db) summed.db) listed.db in
    let seen : image fresh ≡ start = ap (λ f. seen_image g.D.Disk f.0 f.1) made.files ∙ same_image log db in
    let counts : faults_of g.D.Disk files ≤ (state_of fresh).faults =
    omega (arith, (pool_files fresh.pool).0, ap (λ f. g.D.Disk.faults f.0 + g.D.Disk.faults f.1) made.files, read.counts, c.in-Ok-probe_page_size.ensures.faults, c.in-Ok-finds_sums.ensures.same, c.in-Ok-to_seal.ensures.same) in
    let at = λ (held : Trees) (h : HoldsDatabase start held).
    c.in-Ok-finds_sums.ensures.ok later held (h.0, h.1, subst (λ i. HoldsIn h.0 i held) (sym looked) h.2) (probe_size start found by_log by_file held h chosen c.in-Some-found.is) ∙ sym made.size in
    let holds = λ (held : Trees) (h : HoldsDatabase start held). subst₂ (λ n i. HoldsIn n i held) (at held h) (sym seen) h.2 in
    wanted_less _ _ _ _ _ _ c.in-Err-adopt.error counts (c.in-Err-adopt.ensures.kept still).counts
    (λ w. elim w [ inl held ↦ (held.0, holds held.0 held.1) | inr nothing ↦ absurd (something nothing) ]) (c.in-Err-adopt.ensures.cause still)

pub returns-clause-unharmed : goal.returns-clause-unharmed
returns-clause-unharmed g c still =
    let files = c.args.files in
    let start = image_of g.D.Disk files in
    let read = c.finds_nothing.ensures in
    let probe = c.probe_page_size.ensures in
    let found = c.in-Ok-probe_page_size.found in
    let fresh = c.in-Ok-unopened-2.fresh in
    let made = c.in-Ok-unopened-2.ensures in
    let last = sym ((pool_files fresh.pool).1 ∙ ap (λ f. are_clean g.D.Disk f.0 f.1) made.files) ∙ c.in-Err-adopt.ensures.falls still in
    let listed = c.to_seal.ensures in
    let later = both_clean _ _ _ _ listed.log.clean listed.db.clean last in
    let summed = c.finds_sums.ensures in
    let clean = both_clean _ _ _ _ summed.log.clean summed.db.clean later in
    let something : ¬ IsNothing start = rw c.in_default.is at (c.in-Ok.ensures.ok (both_clean _ _ _ _ probe.log.clean probe.db.clean clean)) in
    let by_log : ¬ IsIgnored start.log → Names found (be32 start.log 8) = rw read.log.seen at (c.in-Ok-probe_page_size.ensures.by_log clean) in
    let by_file : IsIgnored start.log → Names found (size_in_file start.db) = rw (read.log.seen, read.db.seen) at (c.in-Ok-probe_page_size.ensures.by_file clean) in
    let chosen = c.in-Some-found.size in
    let looked : image_of g.D.Disk c.probe_page_size.new.files ≡ start = same_image (reads_then read.log probe.log) (reads_then read.db probe.db) in
    let log = reads_then (reads_then (reads_then read.log probe.log) summed.log) listed.log in
    let db = reads_then (reads_then (reads_then read.db probe.db) summed.db) listed.db in
    let seen : image fresh ≡ start = ap (λ f. seen_image g.D.Disk f.0 f.1) made.files ∙ same_image log db in
    let size : stored_size (state_of fresh).page_size ≡ bytes_of chosen = ap stored_size made.size ∙ stored_used chosen _ in
    let kept = c.in-Err-adopt.ensures.kept still in
    let large : 512 ≤ stored_size (state_of fresh).page_size = rw size chosen.smallest in
    let begins = subst₂ BeginsWell (sym size) (looked ∙ sym seen) (c.in-Ok-finds_sums.ensures.begins later) in
    let back = λ (left : Image) (was : (state_of fresh).may_leave left).
    let old = subst (λ f. outcomes g.D.Disk f.0 f.1 left) made.files ((pool_files fresh.pool).2 left was) in pair (log.crash _ old.0) (db.crash _ old.1) in
    inr (
      something,
      (λ signed. ap stored_size kept.size ∙ size ∙ (rw c.in-Some-found.is at (by_log signed)).1, λ ignored. ap stored_size kept.size ∙ size ∙ (rw c.in-Some-found.is at (by_file ignored)).1),
      subst₂ BeginsWell (ap stored_size (sym kept.size)) seen begins,
      λ sums. subst₂ SaysSums (sym (ap stored_size kept.size ∙ size)) looked
          (c.in-Ok-finds_sums.ensures.says later (sym (ap is_summed (kept.size ∙ made.size) ∙ summed_used chosen _) ∙ sums)),
      λ left may. record {
        same = elim (kept.same left may) [ inl was ↦ inl (back left was) | inr same ↦ inr (subst₂ (λ n i. StandsAs n i left) (sym kept.size) seen same) ];
        unread = λ unreadable. back left (kept.unread (subst₂ IsUnreadable kept.size (sym seen) unreadable) left may);
        something = λ new. elim (kept.same left may) [
          | inl was ↦ absurd (new (back left was))
          | inr same ↦ stays_something _ (image fresh) left large begins same (λ unreadable. new (back left (kept.unread unreadable left may)))
        ];
      },
    )

pub returns-in-Err-to_seal-clause-cause : goal.returns-in-Err-to_seal-clause-cause
returns-in-Err-to_seal-clause-cause g c last =
    let files = c.args.files in
    let start = image_of g.D.Disk files in
    let read = c.finds_nothing.ensures in
    let probe = c.probe_page_size.ensures in
    let found = c.in-Ok-probe_page_size.found in
    let listed = c.to_seal.ensures in
    let later = both_clean _ _ _ _ listed.log.clean listed.db.clean last in
    let summed = c.finds_sums.ensures in
    let clean = both_clean _ _ _ _ summed.log.clean summed.db.clean later in
    let something : ¬ IsNothing start = rw c.in_default.is at (c.in-Ok.ensures.ok (both_clean _ _ _ _ probe.log.clean probe.db.clean clean)) in
    let by_log : ¬ IsIgnored start.log → Names found (be32 start.log 8) = rw read.log.seen at (c.in-Ok-probe_page_size.ensures.by_log clean) in
    let by_file : IsIgnored start.log → Names found (size_in_file start.db) = rw (read.log.seen, read.db.seen) at (c.in-Ok-probe_page_size.ensures.by_file clean) in
    let chosen = c.in-Some-found.size in
    let looked : image_of g.D.Disk c.probe_page_size.new.files ≡ start = same_image (reads_then read.log probe.log) (reads_then read.db probe.db) in
    let before : image_of g.D.Disk c.finds_sums.new.files ≡ start = same_image summed.log summed.db ∙ looked in
    let after : image_of g.D.Disk c.to_seal.new.files ≡ image_of g.D.Disk c.finds_sums.new.files = same_image listed.log listed.db in
    let named : NamesSize start (bytes_of chosen) = (λ signed. (rw c.in-Some-found.is at (by_log signed)).1, λ ignored. (rw c.in-Some-found.is at (by_file ignored)).1) in
    fails_wider _ _ _ _ _ _ _ c.in-Err-to_seal.error (omega (arith, read.counts, c.in-Ok-probe_page_size.ensures.faults, c.in-Ok-finds_sums.ensures.same))
    (λ huge. (_, subst (λ i. NamesSize i (bytes_of chosen)) (sym (after ∙ before)) named, subst (log_files.IsHuge (bytes_of chosen)) (sym after) huge))
    (λ w. elim w [
      | inl held ↦ (
        held.0,
        (held.1.0, held.1.1, subst (λ i. HoldsIn held.1.0 i held.0) (sym before) held.1.2),
        probe_size start found by_log by_file held.0 held.1 chosen c.in-Some-found.is,
      )
      | inr nothing ↦ absurd (something nothing)
    ]) (c.in-Err-to_seal.ensures.cause last)

pub adopt-requires-clause-listed : goal.adopt-requires-clause-listed
adopt-requires-clause-listed g c still =
    let fresh = c.in-Ok-unopened-2.fresh in
    let made = c.in-Ok-unopened-2.ensures in
    let listed = c.to_seal.ensures in
    let last = sym ((pool_files fresh.pool).1 ∙ ap (λ f. are_clean g.D.Disk f.0 f.1) made.files) ∙ still in
    let seen : image fresh ≡ image_of g.D.Disk c.finds_sums.new.files = ap (λ f. seen_image g.D.Disk f.0 f.1) made.files ∙ same_image listed.log listed.db in
    subst₃ AreToSeal (sym made.size) (sym seen) (sym c.as_slice.ensures.value) (c.in-Ok-to_seal.ensures.ok last)
