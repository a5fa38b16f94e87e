-- A migration that was committed, or not.
use Rattle.std.specs.Prelude.{IfErr}
use Rattle.std.proofs.Common.{◌≡◌, ◌⊎◌, ◌≤◌, inl, inr, false, ℕ, IsTrue, sym, ap, subst, arith, ◌∙◌, Result, Ok, Err}
use Rattle.sqlite.specs.Effect.{IsDatabase}
use Rattle.sqlite.specs.Steps.{IsFresh}
use Rattle.sqlite.specs.Tree.{Trees}
use Rattle.sqlite_disk.specs.Disk.{MoreFaults}
use Rattle.sqlite_trees.specs.View.{View, IsClean, IsQuiet, Commits, IsRolledBack, doubt}
use Rattle.sqlite_trees.specs.declared.store.Store.{Ghosts}
use Rattle.br_catalog_files.specs.Claims.{CountsJobs}
use Rattle.br_catalog_files.specs.Moved.{HasMigrated, IsKept, IsMadeOf, IsMoved, IsMovedFrom, HasSameTrees, IsWhole, MayMove, Migrates, Survives, database}
use Rattle.br_catalog_files.specs.Old.{HasOld}
use Rattle.br_catalog_files.specs.MigrationSteps.{CommitsNothing, KeepsLast}
use Rattle.br_catalog_files.proofs.MigratedLaws.{is_migrated, jobs_after, jobs_before}

-- ---- the commit

pub kept_of : (v0 v1 v2 : View) (n : ℕ) → IsFresh v0 → IsTrue v0.is_open → IsMoved v0 v1 n → Commits v1 v2 → IsKept v0 v2 n
kept_of v0 v1 v2 n fresh up moved done =
    let trees : v2.trees ≡ v1.trees = ap (λ (v : View). v.trees) done.is in
    let open_now : v2.is_open ≡ v0.is_open = ap (λ (v : View). v.is_open) done.is ∙ ap (λ (v : View). v.is_open) moved.written.is in
    let numbered_now : v2.is_numbered ≡ v0.is_numbered = ap (λ (v : View). v.is_numbered) done.is ∙ ap (λ (v : View). v.is_numbered) moved.written.is in
    record {
      is_open = subst IsTrue (sym open_now) up;
      fresh = record {
        sound = ap (λ (v : View). v.is_broken) done.is ∙ done.sound;
        numbered = subst IsTrue (sym numbered_now) fresh.numbered;
        clean = trees ∙ sym (ap (λ (v : View). v.committed) done.is);
        unmarked = ap (λ (v : View). v.marks) done.is;
      };
      was = moved.was;
      moved = subst (IsMovedFrom moved.was.schema moved.was.layout moved.was.id v0.trees) (sym trees) moved.written.moved;
      many = moved.many;
    }

-- a rollback keeps the last commit
pub rolled_last : (a b : View) → IsRolledBack a b → IsClean b → KeepsLast a b
rolled_last a b undone clean = let kept = undone.kept clean in record { was_open = kept.was_open; committed = kept.committed; numbered = kept.numbered }

pub nothing_moved : {S : Type 0} {g : Ghosts S} {a b : S} → CommitsNothing g a b → MayMove g a b
nothing_moved p = record {
  shield = p.quiet.shield;
  clean = p.quiet.clean;
  counts = p.quiet.counts;
  closes = p.quiet.closes;
  crash = λ clean db may. inl (p.quiet.outcomes db may);
}

pub made_of : (v0 v1 : View) (n : ℕ) (db : Trees) → IsMoved v0 v1 n → db ≡ v1.trees → IsMadeOf v0.trees db
made_of v0 v1 n db moved same = (moved.was, subst (IsMovedFrom moved.was.schema moved.was.layout moved.was.id v0.trees) (sym same) moved.written.moved)

-- ---- as a caller sees it

-- a sound database of version 1 whose rows ascend
was_old : (old : Trees) (was : IsWhole old) → IsDatabase (database was.schema old) → HasOld was.layout (database was.schema old)
was_old old was sound = record { is = was.is.is; sound = sound; sorted = was.sorted }

migrates_if : (old new : Trees) (was : IsWhole old) → IsMovedFrom was.schema was.layout was.id old new → Migrates old new
migrates_if old new was moved =
    (was.schema, was.layout, was.is, λ sound. (moved.after, is_migrated was.schema was.layout old (was_old old was sound) was.id new moved))

pub has_migrated : (v0 v2 : View) (n : ℕ) → IsKept v0 v2 n → HasMigrated v0 v2
has_migrated v0 v2 n k = record { is_open = k.is_open; settled = k.fresh.clean; catalogue = migrates_if v0.trees v2.trees k.was k.moved }

pub counts_jobs : (v0 v2 : View) (n : ℕ) → IsKept v0 v2 n → CountsJobs v0.trees v2.trees n
counts_jobs v0 v2 n k =
    let was = k.was in (
      was.schema,
      was.layout,
      was.is,
      λ sound.
          let has = was_old v0.trees was sound in
          let is = is_migrated was.schema was.layout v0.trees has was.id v2.trees k.moved in
          (was.all, jobs_before was.schema was.layout v0.trees was.id was.all has was.version_was was.loaded, jobs_after was.schema k.moved.after was.layout v0.trees v2.trees was.all has is was.loaded, k.many),
    )

-- after a rollback all is as it was
pub same_again : (v0 v1 v2 : View) → IsFresh v0 → KeepsLast v0 v1 → IsRolledBack v1 v2 → IsClean v2 → IsTrue v2.is_open → HasSameTrees v0 v2
same_again v0 v1 v2 fresh kept undone clean up =
    let back = rolled_last v1 v2 undone clean in
    let was : v1.committed ≡ v0.committed = kept.committed (back.was_open up) in
    ((undone.undone up).0 ∙ was ∙ sym fresh.clean, back.committed up ∙ was)

-- its trees are numbered as before
pub numbered_again : (v0 v1 v2 : View) → IsFresh v0 → KeepsLast v0 v1 → IsRolledBack v1 v2 → IsTrue v2.is_numbered
numbered_again v0 v1 v2 fresh kept undone = subst IsTrue (sym (undone.numbered ∙ kept.numbered)) fresh.numbered

-- and the store is as it was when it was opened
pub fresh_again : (v0 v1 v2 : View) → IsFresh v0 → KeepsLast v0 v1 → IsRolledBack v1 v2 → IsClean v2 → IsTrue v2.is_open → IsFresh v2
fresh_again v0 v1 v2 fresh kept undone clean up = record {
  sound = (undone.undone up).1;
  numbered = numbered_again v0 v1 v2 fresh kept undone;
  clean = (undone.undone up).0 ∙ sym ((undone.kept clean).committed up);
  unmarked = (undone.kept clean).marks up;
}

pub survives_of : {S : Type 0} {g : Ghosts S} {a b : S} → MayMove g a b → Survives g a b
survives_of p = record {
  shield = p.shield;
  clean = p.clean;
  counts = p.counts;
  closes = p.closes;
  crash = λ clean db may. elim (p.crash clean db may) [
    | inl before ↦ inl before
    | inr made ↦ inr (migrates_if _ db made.0 made.1)
  ];
}

-- ---- calls one after another

pub moves_then : {S : Type 0} {g : Ghosts S} {a b c : S} → MayMove g a b → IsQuiet g.view g.faults g.recovers g.is_shielded b c → MayMove g a c
moves_then p q = record {
  shield = λ h. q.shield (p.shield h);
  clean = omega (arith, p.clean, q.clean);
  counts = omega (arith, p.counts, q.counts);
  closes = λ clean up. elim (p.closes (omega (arith, clean, q.clean)) up) [
    | inl still ↦ elim (q.closes clean still) [ inl open' ↦ inl open' | inr fault ↦ inr (omega (arith, p.counts)) ]
    | inr fault ↦ inr (omega (arith, q.counts))
  ];
  crash = λ clean db may. p.crash (omega (arith, clean, q.clean)) db (q.outcomes db may);
}

-- a commit after calls that committed nothing
pub commits_move : {S : Type 0} {g : Ghosts S} {a b c : S} (n : ℕ) → CommitsNothing g a b → (IsClean (g.view b) → IsMoved (g.view a) (g.view b) n) → (g.is_shielded b → g.is_shielded c) → doubt (g.view b).is_clean ≤ doubt (g.view c).is_clean
    → g.faults b ≤ g.faults c → (IsClean (g.view c) → IsTrue (g.view b).is_open → IsTrue (g.view c).is_open ⊎ MoreFaults (g.faults b) (g.faults c))
    → ((db : Trees) → g.recovers c db → (((g.view b).is_broken ≡ false) × (db ≡ (g.view b).trees)) ⊎ g.recovers b db) → MayMove g a c
commits_move n p moved shield falls counts closes crash = record {
  shield = λ h. shield (p.quiet.shield h);
  clean = omega (arith, p.quiet.clean, falls);
  counts = omega (arith, p.quiet.counts, counts);
  closes = λ clean up. elim (p.quiet.closes (omega (arith, clean, falls)) up) [
    | inl still ↦ elim (closes clean still) [ inl open' ↦ inl open' | inr fault ↦ inr (omega (arith, p.quiet.counts)) ]
    | inr fault ↦ inr (omega (arith, counts))
  ];
  crash = λ clean db may. elim (crash db may) [
    | inl now ↦ inr (made_of _ _ n db (moved (omega (arith, clean, falls))) now.1)
    | inr before ↦ inl (p.quiet.outcomes db before)
  ];
}

-- what holds of every fault holds of a refusal
pub if_refused : {T E : Type 0} (r : Result T E) (P : E → Type 0) → ((e : E) → P e) → IfErr r P
if_refused (Ok x) P all = tt
if_refused (Err e) P all = all e
