use Rattle.std.proofs.Common.{List, ◌++◌, ◌≡◌, ◌≤◌, take, drop, length, sym, ap, subst, ◌∙◌, arith}
use Rattle.std.proofs.Common.{length-drop}
use Rattle.std.specs.Ordering.{is_lt}
use Rattle.br_model.specs.Console.{begins_with}
use Rattle.br_model.proofs.OrderLaws.{rank_cmp}
use Rattle.br_tree.specs.Walk.{Pair, seen_paths, IsRising, AllPassing, NonePassing}
use Rattle.br_tree.proofs.RunLaws.{seen_drop, seen_length, rising_drop, front_run}
use Rattle.br_tree.proofs.meant_run.run_in.Goals as goal

pub begin_in-requires-clause-sorted : goal.begin_in-requires-clause-sorted
begin_in-requires-clause-sorted c =
    let n = c.not_before_in-first.result in
    subst IsRising (sym (seen_drop n c.args.entries.now) ∙ ap seen_paths (sym c.split_at.ensures.back)) (rising_drop n (seen_paths c.args.entries.now) c.requires)

pub begin_in-requires-clause-after : goal.begin_in-requires-clause-after
begin_in-requires-clause-after c =
    let n = c.not_before_in-first.result in
    subst (NonePassing (λ p. is_lt (rank_cmp p (c.args.directory.now ++ c.args.text.now)))) (sym (seen_drop n c.args.entries.now) ∙ ap seen_paths (sym c.split_at.ensures.back)) c.not_before_in-first.ensures.after

pub returns : goal.returns
returns c =
    let xs = c.args.entries.now in
    let n = c.not_before_in-first.result in
    let rest : List Pair → Type 0 = λ ys. c.begin_in.result ≤ length ys in
    let seen : seen_paths c.split_at.result.1.now ≡ drop n (seen_paths xs) = ap seen_paths c.split_at.ensures.back ∙ seen_drop n xs in
    front_run (c.args.directory.now ++ c.args.text.now) (seen_paths xs) n c.begin_in.result (subst (λ k. n ≤ k) (sym (seen_length xs)) c.not_before_in-first.ensures.bound)
    (omega (arith, subst rest c.split_at.ensures.back c.begin_in.ensures.bound, length-drop n xs, seen_length xs))
    c.not_before_in-first.ensures.before
    (subst (λ ps. AllPassing (λ p. begins_with p (c.args.directory.now ++ c.args.text.now)) (take c.begin_in.result ps)) seen c.begin_in.ensures.within)
    (subst (λ ps. NonePassing (λ p. begins_with p (c.args.directory.now ++ c.args.text.now)) (drop c.begin_in.result ps)) seen c.begin_in.ensures.after)
