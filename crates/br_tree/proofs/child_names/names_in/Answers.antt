use Rattle.std.proofs.Common.{◌≡◌, ◌-◌, true, sym, ap, subst, ◌∙◌, map, take, drop, length-drop, arith}
use Rattle.br_model.specs.Console as model
use Rattle.br_tree.specs.Seen.{flagged, seen_child, signed}
use Rattle.br_tree.specs.Walk.{seen_paths, AllPassing, IsRising}
use Rattle.br_tree.proofs.RunLaws.{seen_drop, seen_length, seen_part, all_dropped, rising_drop, rising_take}
use Rattle.br_tree.proofs.ChildLaws.{run_names, names_end}
use Rattle.br_tree.proofs.SignLaws.{if_none_then}
use Rattle.br_tree.proofs.child_names.names_in.Goals as goal

pub next_child-len-requires-clause-sorted : goal.next_child-len-requires-clause-sorted
next_child-len-requires-clause-sorted c =
    let a = c.run_of-first.result.0 in
    let b = c.run_of-first.result.1 in
    let n = c.loop-place.place in
    let ps = seen_paths c.args.entries.now in
    let part : seen_paths c.part_of-run.result.now ≡ take (b - a) (drop a ps) = ap seen_paths c.part_of-run.ensures ∙ seen_part a b c.args.entries.now in
    let rest : seen_paths c.split_at.result.1.now ≡ drop n (take (b - a) (drop a ps)) = ap seen_paths c.split_at.ensures.back ∙ seen_drop n c.part_of-run.result.now ∙ ap (drop n) part in
    subst IsRising (sym rest) (rising_drop n (take (b - a) (drop a ps)) (rising_take (b - a) (drop a ps) (rising_drop a ps c.requires.sorted)))

pub next_child-len-requires-clause-begins : goal.next_child-len-requires-clause-begins
next_child-len-requires-clause-begins c =
    let a = c.run_of-first.result.0 in
    let b = c.run_of-first.result.1 in
    let n = c.loop-place.place in
    let ps = seen_paths c.args.entries.now in
    let part : seen_paths c.part_of-run.result.now ≡ take (b - a) (drop a ps) = ap seen_paths c.part_of-run.ensures ∙ seen_part a b c.args.entries.now in
    let rest : seen_paths c.split_at.result.1.now ≡ drop n (take (b - a) (drop a ps)) = ap seen_paths c.split_at.ensures.back ∙ seen_drop n c.part_of-run.result.now ∙ ap (drop n) part in
    subst (AllPassing (λ p. model.begins_with p c.args.directory.now)) (sym rest) (all_dropped (λ p. model.begins_with p c.args.directory.now ≡ true) n (take (b - a) (drop a ps)) c.run_of-first.ensures.within)

pub note_child-requires-clause-quiet : goal.note_child-requires-clause-quiet
note_child-requires-clause-quiet c = if_none_then c.guess_unless-guess.result c.is_quiet-quiet.ensures c.guess_unless-guess.ensures

pub returns : goal.returns
returns c =
    let a = c.run_of-first.result.0 in
    let b = c.run_of-first.result.1 in
    let d = c.args.directory.now in
    let ps = seen_paths c.args.entries.now in
    let run = seen_paths c.part_of-run.result.now in
    let part : run ≡ take (b - a) (drop a ps) = ap seen_paths c.part_of-run.ensures ∙ seen_part a b c.args.entries.now in
    let sign = signed (flagged ps c.args.flags.now) d in
    names_end sign (map seen_child c.loop-place.noted.items) d (drop c.loop-place.place run) (map sign (model.children run d)) c.loop-place.invariant.0
    (omega (arith, length-drop c.loop-place.place run, seen_length c.part_of-run.result.now, c.loop-place-test.false))
    ∙ ap (λ qs. map sign (model.children qs d)) part ∙ ap (map sign) (run_names d ps a b c.run_of-first.ensures)
