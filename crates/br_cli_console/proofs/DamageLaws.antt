-- What a session by patterns leaves if it ends at a damaged volume.
use Rattle.std.proofs.Common.{◌≡◌, ℕ, List, Option, None, Some, Result, Ok, Err, inl, inr, refl, sym, ap, subst, ◌∙◌}
use Rattle.std.specs.Borrow.{Bor}
use Rattle.std.specs.Io.KnownBytes.{Keeps}
use Rattle.br_engine.specs.Restores.{Change, Seen}
use Rattle.br_plan.specs.Asked.{Asked}
use Rattle.br_pool.specs.declared.fault.PoolFault.{PoolFault}
use Rattle.br_types.specs.declared.wanted.Wanted.{Wanted}
use Rattle.br_console.specs.Delivering.{FinishesInto}
use Rattle.br_console.specs.declared.ending.ConsoleRun.{ConsoleRun}
use Rattle.br_console.specs.declared.console_fault.ConsoleFault.{ConsoleFault}
use Rattle.br_console.specs.declared.console_fault.ConsoleFault.TheVariants.{Changed, Io, Memory, NoEnd, Piece, Plan}
use Rattle.br_cli_common.specs.declared.options.Marks.{Marks}
use Rattle.br_cli_console.specs.ConsoleTasks.{FinishesWith, IsDamage, IsUnused, KeepsEach, Prepared, RunsLast, RunsOn, RunsWith, SessionChange, by_answers, by_manifest}
use Rattle.br_cli_console.specs.declared.session_manifest.SessionInput.{SessionInput}
use Rattle.br_cli_console.specs.declared.session_manifest.SessionInput.TheVariants as input

keeps_same : (a : Option (List ℕ)) → Keeps a a
keeps_same None = tt
keeps_same (Some xs) = refl

kept : (a b : Option (List ℕ)) → b ≡ a → Keeps a b
kept a b e = subst (λ (x : Option (List ℕ)). Keeps a x) (sym e) (keeps_same a)

keeps_both : (a b c : Option (List ℕ)) → Keeps a b → Keeps b c → Keeps a c
keeps_both None b c p q = tt
keeps_both (Some xs) None c p q = absurd p
keeps_both (Some xs) (Some ys) None p q = absurd q
keeps_both (Some xs) (Some ys) (Some zs) p q = q ∙ p

pub each_both : (a b c : Option (Option (List ℕ))) → KeepsEach a b → KeepsEach b c → KeepsEach a c
each_both None None None p q = tt
each_both None None (Some z) p q = absurd q
each_both None (Some y) c p q = absurd p
each_both (Some x) None c p q = absurd p
each_both (Some x) (Some y) None p q = absurd q
each_both (Some x) (Some y) (Some z) p q = keeps_both x y z p q

-- after a plan, nothing was put, and nothing written
finish_unused : (wanted : Wanted) (seen : Change) (p : Prepared) (why : PoolFault) → FinishesInto wanted seen p (Err (Piece why))
    → (seen.new.has ≡ seen.old.has) × Keeps seen.old.written seen.new.written
finish_unused wanted seen (Ok (lines, Some plan)) why h = (h.2, h.1)
finish_unused wanted seen (Ok (lines, None)) why h = absurd cc
finish_unused wanted seen (Err e) why h = (ap (λ (s : Seen). s.has) h.1, kept seen.old.written seen.new.written (ap (λ (s : Seen). s.written) h.1))

finish_with : (a b : Option (Option (List ℕ))) (wanted : Wanted) (seen : SessionChange) (p : Prepared) (why : PoolFault) → FinishesWith a b wanted seen p (Err (Piece why))
    → (seen.new.has ≡ seen.old.has) × KeepsEach a b
finish_with None None wanted seen p why h = ((finish_unused wanted (by_answers seen) p why h).0, tt)
finish_with (Some x) (Some y) wanted seen p why h = finish_unused wanted (by_manifest seen x y) p why h
finish_with (Some x) None wanted seen p why h = absurd h
finish_with None (Some y) wanted seen p why h = absurd h

run_with : (a b : Option (Option (List ℕ))) (order : Bor Asked × Wanted) (lines : Option (List ℕ)) (seen : SessionChange) (why : PoolFault)
    → RunsWith a b order lines seen (Err (Piece why)) → (seen.new.has ≡ seen.old.has) × KeepsEach a b
run_with None None order lines seen why h = (h, tt)
run_with (Some x) (Some y) order lines seen why h = finish_unused order.1 (by_manifest seen x y) h.0 why h.2
run_with (Some x) None order lines seen why h = absurd h
run_with None (Some y) order lines seen why h = absurd h

on_unused : {R : Type 0} (remaining : R → Option (List ℕ)) (order : Bor Asked × Wanted) (i : SessionInput R) (seen : SessionChange) (why : PoolFault)
    → RunsOn remaining order i seen (Err (Piece why)) → (seen.new.has ≡ seen.old.has) × KeepsEach seen.old.manifest seen.new.manifest
on_unused remaining order (input.Lines reader) seen why h = run_with seen.old.manifest seen.new.manifest order (remaining reader) seen why h
on_unused remaining order (input.Prepared p) seen why h = finish_with seen.old.manifest seen.new.manifest order.1 seen p why h

last_unused : {R : Type 0} (remaining : R → Option (List ℕ)) (order : Bor Asked × Wanted) (first : Marks × SessionInput R) (seen : SessionChange) (why : PoolFault)
    → RunsLast remaining order first seen (Err (Piece why)) → IsUnused seen.old seen.new
last_unused remaining order first seen why h =
    elim h [
      | inl x ↦ let u = on_unused remaining order first.1 seen why x in record { has = u.0; manifest = u.1 }
      | inr x ↦
          let u = finish_with x.at.manifest seen.new.manifest order.1 (record { old = x.at; new = seen.new }) x.prepared why x.runs in
          record { has = u.0 ∙ x.unused.has; manifest = each_both seen.old.manifest x.at.manifest seen.new.manifest x.unused.manifest u.1 }
    ]

-- nothing was put, or written to a manifest of its own, if the run ended at a damaged volume
pub damage_unused : {R : Type 0} (remaining : R → Option (List ℕ)) (order : Bor Asked × Wanted) (first : Marks × SessionInput R) (seen : SessionChange)
    (run : Result ConsoleRun ConsoleFault) → IsDamage run → RunsLast remaining order first seen run → IsUnused seen.old seen.new
damage_unused remaining order first seen (Err (Piece why)) is h = last_unused remaining order first seen why h
damage_unused remaining order first seen (Ok run) is h = absurd cc
damage_unused remaining order first seen (Err Memory) is h = absurd cc
damage_unused remaining order first seen (Err (Plan why)) is h = absurd cc
damage_unused remaining order first seen (Err Changed) is h = absurd cc
damage_unused remaining order first seen (Err (Io why)) is h = absurd cc
damage_unused remaining order first seen (Err (NoEnd turns)) is h = absurd cc
