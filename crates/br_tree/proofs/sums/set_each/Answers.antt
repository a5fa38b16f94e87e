use Rattle.std.proofs.Common.{◌≡◌, ◌-◌, length, take, drop, replicate, min, ap, ◌∙◌, length-take, length-drop, arith}
use Rattle.std.specs.Prelude.{count_by}
use borrow.Rule.Slice.PartMut.{put_mid}
use Rattle.br_tree.specs.Walk.{differs}
use Rattle.br_tree.proofs.PaintLaws.{put_is_painted, count_is_repainted}
use Rattle.br_tree.proofs.sums.set_each.Goals as goal

pub returns-clause-flags : goal.returns-clause-flags
returns-clause-flags c =
    let fs = c.args.flags.now in
    let a = c.args.from in
    let e = min c.args.to (length fs) in
    let k : length (take (c.min-end.result - a) (drop a fs)) ≡ e - a = omega (arith, c.min-end.ensures, length-take (c.min-end.result - a) (drop a fs), length-drop a fs) in
    ap (λ gs. put_mid a (c.min-end.result - a) fs gs) (c.set_flags.ensures.flags ∙ ap (λ n. replicate n c.args.value) k)
    ∙ ap (λ n. put_mid a (n - a) fs (replicate (e - a) c.args.value)) c.min-end.ensures
    ∙ put_is_painted a c.args.to c.args.value fs c.requires.ordered c.requires.within

pub returns-clause-count : goal.returns-clause-count
returns-clause-count c =
    let fs = c.args.flags.now in
    let a = c.args.from in
    c.set_flags.ensures.count
    ∙ ap (λ n. count_by (λ f. differs c.args.value f) (take (n - a) (drop a fs))) c.min-end.ensures
    ∙ count_is_repainted a c.args.to c.args.value fs c.requires.ordered c.requires.within
