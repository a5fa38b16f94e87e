use Rattle.std.proofs.Common.{ap, sym, subst, ◌∙◌, ◌≡◌, ◌≤◌, ◌+◌, ◌-◌, length, drop, take}
use Rattle.std.specs.Prelude.{bytes_eq}
use Rattle.std.specs.List.{list_any}
use Rattle.br_tree.specs.Walk.{seen_paths, IsRising, AllPassing, NonePassing}
use Rattle.br_tree.proofs.RunLaws.{seen_drop, seen_length, rising_drop}
use Rattle.br_tree.proofs.ChildLaws.{own_flag}
use Rattle.br_tree.proofs.sign.is_marked.Goals as goal

pub own_len-own-requires-clause-sorted : goal.own_len-own-requires-clause-sorted
own_len-own-requires-clause-sorted c =
    let n = c.not_before-first.result in
    subst IsRising (sym (seen_drop n c.args.entries.now) ∙ ap seen_paths (sym c.split_at.ensures.back)) (rising_drop n (seen_paths c.args.entries.now) c.requires.sorted)

pub returns : goal.returns
returns c =
    let d = c.args.path.now in
    let xs = c.args.entries.now in
    let ps = seen_paths xs in
    let fs = c.args.flags.now in
    let a = c.not_before-first.result in
    let r = c.own_len-own.result in
    let seen : seen_paths c.split_at.result.1.now ≡ drop a ps = ap seen_paths c.split_at.ensures.back ∙ seen_drop a xs in
    let rest : r ≤ length (drop a ps) = subst (λ k. r ≤ k) (sym (seen_length c.split_at.result.1.now) ∙ ap length seen) c.own_len-own.ensures.bound in
    let long : length fs ≡ length ps = c.requires.as_long ∙ sym (seen_length xs) in
    let within = subst (λ qs. AllPassing (bytes_eq d) (take r qs)) seen c.own_len-own.ensures.within in
    let after = subst (λ qs. NonePassing (bytes_eq d) (drop r qs)) seen c.own_len-own.ensures.after in
    c.any_between.ensures ∙ ap (λ gs. list_any (λ f. f) (take (a + r - a) (drop a gs))) c.as_slice.ensures
    ∙ sym (own_flag d a r ps fs c.not_before-first.ensures.before within after rest long)
