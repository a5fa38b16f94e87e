use Rattle.std.proofs.Common.{ap, sym, subst, refl, ◌≡◌, ◌∙◌, ◌+◌, ◌||◌, nat_lt, cond, Some, None, take, drop, arith}
use Rattle.br_model.specs.Console.{begins_with}
use Rattle.br_tree.specs.Walk.{seen_paths, is_picked}
use Rattle.br_tree.proofs.RunLaws.{seen_length}
use Rattle.br_tree.proofs.StepLaws.{Stands, stands_at_run, stands_on, all_set, all_counted, all_found, answered, later_pass, later_fail}
use Rattle.br_tree.proofs.tree_walk.set_matching.Goals as goal
use Rattle.br_tree.proofs.tree_walk.set_matching.Goals.{then-found, else-found}

pub loop-place-init : goal.loop-place-init
loop-place-init c =
    let a = c.meant_run-first.result.0 in
    let run = c.meant_run-first.ensures in
    let ps = seen_paths c.args.entries.now in (
      stands_at_run (is_picked c.args.deep c.args.directory.now c.args.pattern.now) c.args.value ps c.args.flags.now a
          (run.before c.args.deep) (omega (arith, run.ordered, run.bound)) (c.requires.as_long ∙ sym (seen_length c.args.entries.now)),
      omega arith,
    )

pub step_at-reach-requires-clause-begins : goal.step_at-reach-requires-clause-begins
step_at-reach-requires-clause-begins c =
    let run = c.meant_run-first.ensures in
    later_pass (λ p. begins_with p c.args.directory.now) c.meant_run-first.result.0 c.meant_run-first.result.1 c.loop-place.place (seen_paths c.args.entries.now) c.loop-place.invariant.1
    (omega (arith, c.loop-place-test.true)) run.within

pub loop-place-preserved : goal.loop-place-preserved
loop-place-preserved c =
    let test = is_picked c.args.deep c.args.directory.now c.args.pattern.now in
    let paths = seen_paths c.args.entries.now in
    let r = c.step_at-reach.result.0 in
    let l = c.step_at-reach.result.1 in
    let found : c.if-found.found ≡ (c.loop-place.found || nat_lt 0 r) =
    elim c.if-found.branch [
      | then-found w ↦ w.found-is ∙ w.if-found.true ∙ sym (ap (λ b. b || nat_lt 0 r) w.if-found.true)
      | else-found w ↦ w.found-is ∙ sym (ap (λ b. b || nat_lt 0 r) w.if-found.false)
    ] in (
      subst (λ b. Stands test c.args.value paths c.args.flags.now (c.loop-place.place + l) c.set-count.new.self (c.loop-place.count + c.set-count.result) b) (sym found)
          (stands_on test c.args.value paths c.args.flags.now c.loop-place.place c.loop-place.flags c.loop-place.count c.loop-place.found r l c.set-count.new.self c.set-count.result (nat_lt 0 r)
          c.loop-place.invariant.0 c.step_at-reach.ensures c.set-count.ensures.flags c.set-count.ensures.count c.set-count.ensures.few refl),
      omega (arith, c.loop-place.invariant.1),
    )

pub returns-then-found-2-clause-flags : goal.returns-then-found-2-clause-flags
returns-then-found-2-clause-flags c =
    let test = is_picked c.args.deep c.args.directory.now c.args.pattern.now in
    let ps = seen_paths c.args.entries.now in
    let b = c.meant_run-first.result.1 in
    let none = later_fail test b c.loop-place.place ps c.loop-place-test.false (c.meant_run-first.ensures.after c.args.deep) in
    all_set test c.args.value ps c.args.flags.now c.loop-place.place c.loop-place.flags c.loop-place.count c.loop-place.found c.loop-place.invariant.0 none

pub returns-then-found-2-clause-answer : goal.returns-then-found-2-clause-answer
returns-then-found-2-clause-answer c =
    let test = is_picked c.args.deep c.args.directory.now c.args.pattern.now in
    let ps = seen_paths c.args.entries.now in
    let b = c.meant_run-first.result.1 in
    let none = later_fail test b c.loop-place.place ps c.loop-place-test.false (c.meant_run-first.ensures.after c.args.deep) in
    sym (ap (λ b. cond b (Some c.loop-place.count) None) c.if-found-2.true)
    ∙ answered test c.args.value ps c.args.flags.now c.loop-place.count c.loop-place.found
    (all_counted test c.args.value ps c.args.flags.now c.loop-place.place c.loop-place.flags c.loop-place.count c.loop-place.found c.loop-place.invariant.0 none)
    (all_found test c.args.value ps c.args.flags.now c.loop-place.place c.loop-place.flags c.loop-place.count c.loop-place.found c.loop-place.invariant.0 none)

pub returns-else-found-2-clause-flags : goal.returns-else-found-2-clause-flags
returns-else-found-2-clause-flags c =
    let test = is_picked c.args.deep c.args.directory.now c.args.pattern.now in
    let ps = seen_paths c.args.entries.now in
    let b = c.meant_run-first.result.1 in
    let none = later_fail test b c.loop-place.place ps c.loop-place-test.false (c.meant_run-first.ensures.after c.args.deep) in
    all_set test c.args.value ps c.args.flags.now c.loop-place.place c.loop-place.flags c.loop-place.count c.loop-place.found c.loop-place.invariant.0 none

pub returns-else-found-2-clause-answer : goal.returns-else-found-2-clause-answer
returns-else-found-2-clause-answer c =
    let test = is_picked c.args.deep c.args.directory.now c.args.pattern.now in
    let ps = seen_paths c.args.entries.now in
    let b = c.meant_run-first.result.1 in
    let none = later_fail test b c.loop-place.place ps c.loop-place-test.false (c.meant_run-first.ensures.after c.args.deep) in
    sym (ap (λ b. cond b (Some c.loop-place.count) None) c.if-found-2.false)
    ∙ answered test c.args.value ps c.args.flags.now c.loop-place.count c.loop-place.found
    (all_counted test c.args.value ps c.args.flags.now c.loop-place.place c.loop-place.flags c.loop-place.count c.loop-place.found c.loop-place.invariant.0 none)
    (all_found test c.args.value ps c.args.flags.now c.loop-place.place c.loop-place.flags c.loop-place.count c.loop-place.found c.loop-place.invariant.0 none)
