use Rattle.std.proofs.Common.{ap, sym, subst, ◌∙◌, ◌≡◌, ◌≤◌, ◌-◌, length, drop, take, cond, Some, None, nat_lt, arith, length-drop}
use Rattle.std.proofs.lemmas.Bool.{lt-ltb, le-ltb}
use Rattle.std.specs.Prelude.{bytes_eq}
use Rattle.br_tree.specs.Walk.{seen_paths, IsRising, AllPassing, NonePassing}
use Rattle.br_tree.proofs.RunLaws.{seen_drop, seen_length, rising_drop}
use Rattle.br_tree.proofs.StepLaws.{run_sets, run_counts, run_finds, less_not_own, answered}
use Rattle.br_tree.proofs.tree_walk.set_own.Goals as goal

pub returns-then-own-gt0-clause-flags : goal.returns-then-own-gt0-clause-flags
returns-then-own-gt0-clause-flags c =
    let d = c.args.directory.now in
    let xs = c.args.entries.now in
    let ps = seen_paths xs in
    let fs = c.args.flags.now in
    let a = c.not_before-first.result in
    let r = c.own_len-own.result in
    let seen : seen_paths c.split_at.result.1.now ≡ drop a ps = ap seen_paths c.split_at.ensures.back ∙ seen_drop a xs in
    let rest : r ≤ length (drop a ps) = subst (λ k. r ≤ k) (sym (seen_length c.split_at.result.1.now) ∙ ap length seen) c.own_len-own.ensures.bound in
    let bound : a ≤ length ps = subst (λ k. a ≤ k) (sym (seen_length xs)) c.not_before-first.ensures.bound in
    let more : r ≤ length ps - a = omega (arith, rest, length-drop a ps) in
    let long : length fs ≡ length ps = c.requires.as_long ∙ sym (seen_length xs) in
    let before = less_not_own d (take a ps) c.not_before-first.ensures.before in
    let within = subst (λ qs. AllPassing (bytes_eq d) (take r qs)) seen c.own_len-own.ensures.within in
    let after = subst (λ qs. NonePassing (bytes_eq d) (drop r qs)) seen c.own_len-own.ensures.after in
    c.set-count.ensures.flags ∙ run_sets (bytes_eq d) c.args.value ps fs a r bound more long before within after

pub returns-then-own-gt0-clause-answer : goal.returns-then-own-gt0-clause-answer
returns-then-own-gt0-clause-answer c =
    let d = c.args.directory.now in
    let xs = c.args.entries.now in
    let ps = seen_paths xs in
    let fs = c.args.flags.now in
    let a = c.not_before-first.result in
    let r = c.own_len-own.result in
    let seen : seen_paths c.split_at.result.1.now ≡ drop a ps = ap seen_paths c.split_at.ensures.back ∙ seen_drop a xs in
    let rest : r ≤ length (drop a ps) = subst (λ k. r ≤ k) (sym (seen_length c.split_at.result.1.now) ∙ ap length seen) c.own_len-own.ensures.bound in
    let bound : a ≤ length ps = subst (λ k. a ≤ k) (sym (seen_length xs)) c.not_before-first.ensures.bound in
    let more : r ≤ length ps - a = omega (arith, rest, length-drop a ps) in
    let long : length fs ≡ length ps = c.requires.as_long ∙ sym (seen_length xs) in
    let before = less_not_own d (take a ps) c.not_before-first.ensures.before in
    let within = subst (λ qs. AllPassing (bytes_eq d) (take r qs)) seen c.own_len-own.ensures.within in
    let after = subst (λ qs. NonePassing (bytes_eq d) (drop r qs)) seen c.own_len-own.ensures.after in
    let some = lt-ltb 0 r c.if-own-gt0.true in
    sym (ap (λ b. cond b (Some c.set-count.result) None) some)
    ∙ answered (bytes_eq d) c.args.value ps fs c.set-count.result (nat_lt 0 r)
    (c.set-count.ensures.count ∙ run_counts (bytes_eq d) c.args.value ps fs a r bound more long before within after)
    (sym (run_finds (bytes_eq d) c.args.value ps fs a r bound more long before within after))

pub returns-else-own-gt0-clause-flags : goal.returns-else-own-gt0-clause-flags
returns-else-own-gt0-clause-flags c =
    let d = c.args.directory.now in
    let xs = c.args.entries.now in
    let ps = seen_paths xs in
    let fs = c.args.flags.now in
    let a = c.not_before-first.result in
    let r = c.own_len-own.result in
    let seen : seen_paths c.split_at.result.1.now ≡ drop a ps = ap seen_paths c.split_at.ensures.back ∙ seen_drop a xs in
    let rest : r ≤ length (drop a ps) = subst (λ k. r ≤ k) (sym (seen_length c.split_at.result.1.now) ∙ ap length seen) c.own_len-own.ensures.bound in
    let bound : a ≤ length ps = subst (λ k. a ≤ k) (sym (seen_length xs)) c.not_before-first.ensures.bound in
    let more : r ≤ length ps - a = omega (arith, rest, length-drop a ps) in
    let long : length fs ≡ length ps = c.requires.as_long ∙ sym (seen_length xs) in
    let before = less_not_own d (take a ps) c.not_before-first.ensures.before in
    let within = subst (λ qs. AllPassing (bytes_eq d) (take r qs)) seen c.own_len-own.ensures.within in
    let after = subst (λ qs. NonePassing (bytes_eq d) (drop r qs)) seen c.own_len-own.ensures.after in
    c.set-count.ensures.flags ∙ run_sets (bytes_eq d) c.args.value ps fs a r bound more long before within after

pub returns-else-own-gt0-clause-answer : goal.returns-else-own-gt0-clause-answer
returns-else-own-gt0-clause-answer c =
    let d = c.args.directory.now in
    let xs = c.args.entries.now in
    let ps = seen_paths xs in
    let fs = c.args.flags.now in
    let a = c.not_before-first.result in
    let r = c.own_len-own.result in
    let seen : seen_paths c.split_at.result.1.now ≡ drop a ps = ap seen_paths c.split_at.ensures.back ∙ seen_drop a xs in
    let rest : r ≤ length (drop a ps) = subst (λ k. r ≤ k) (sym (seen_length c.split_at.result.1.now) ∙ ap length seen) c.own_len-own.ensures.bound in
    let bound : a ≤ length ps = subst (λ k. a ≤ k) (sym (seen_length xs)) c.not_before-first.ensures.bound in
    let more : r ≤ length ps - a = omega (arith, rest, length-drop a ps) in
    let long : length fs ≡ length ps = c.requires.as_long ∙ sym (seen_length xs) in
    let before = less_not_own d (take a ps) c.not_before-first.ensures.before in
    let within = subst (λ qs. AllPassing (bytes_eq d) (take r qs)) seen c.own_len-own.ensures.within in
    let after = subst (λ qs. NonePassing (bytes_eq d) (drop r qs)) seen c.own_len-own.ensures.after in
    let some = le-ltb 0 r c.if-own-gt0.false in
    sym (ap (λ b. cond b (Some c.set-count.result) None) some)
    ∙ answered (bytes_eq d) c.args.value ps fs c.set-count.result (nat_lt 0 r)
    (c.set-count.ensures.count ∙ run_counts (bytes_eq d) c.args.value ps fs a r bound more long before within after)
    (sym (run_finds (bytes_eq d) c.args.value ps fs a r bound more long before within after))

pub own_len-own-requires-clause-sorted : goal.own_len-own-requires-clause-sorted
own_len-own-requires-clause-sorted c =
    let n = c.not_before-first.result in
    subst IsRising (sym (seen_drop n c.args.entries.now) ∙ ap seen_paths (sym c.split_at.ensures.back)) (rising_drop n (seen_paths c.args.entries.now) c.requires.sorted)
