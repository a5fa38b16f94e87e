use Rattle.std.proofs.Common.{rules, ◌≡◌, ◌<◌, ◌+◌, ◌-◌, ◌*◌, ◌/◌, length, take, drop, sym, ap, subst, ◌∙◌, length-take, length-drop, arith}
use Rattle.std.proofs.lemmas.List.{take_rest, length-take-le}
use Rattle.br_tree.specs.Sums.{set_in, middle, cut, AreSums}
use Rattle.br_tree.proofs.PaintLaws.{set_before, set_in-le}
use Rattle.br_tree.proofs.SumLaws.{cut_fits, middle_counts, front_sums, back_sums}
use Rattle.br_tree.proofs.sums.+count_before.Goals as goal

pub count_before-requires : goal.count_before-requires
count_before-requires t c =
    let ss = c.args.sums.now in
    let fs = c.args.flags.now in
    let are = c.requires.sums in
    let some : 0 < length ss = search rules in (
      omega (arith, c.decreases, length-take-le (middle ss) ss (omega (arith, some)), some),
      (subst (AreSums (take (middle ss) ss)) (sym c.split_at.ensures.front) (front_sums ss fs are some), omega (arith, c.if-end-cut.true, ap length c.split_at.ensures.front, length-take-le (cut ss) fs (cut_fits ss fs are some))),
    )

pub count_before-requires-else-end-cut : goal.count_before-requires-else-end-cut
count_before-requires-else-end-cut t c =
    let ss = c.args.sums.now in
    let fs = c.args.flags.now in
    let are = c.requires.sums in
    let some : 0 < length ss = search rules in
    let rest : take (length ss - (middle ss + 1)) (drop (middle ss + 1) ss) ≡ drop (middle ss + 1) ss = take_rest ss (middle ss + 1) in (
      omega (arith, c.decreases, ap length rest, length-drop (middle ss + 1) ss, some),
      (
        subst (AreSums (take (length ss - (middle ss + 1)) (drop (middle ss + 1) ss))) (sym c.split_at.ensures.back) (subst (λ zs. AreSums zs (drop (cut ss) fs)) (sym rest) (back_sums ss fs are some)),
        omega (arith, c.requires.bound, ap length c.split_at.ensures.back, length-drop (cut ss) fs),
      ),
    )

pub overflow_add-result : goal.overflow_add-result
overflow_add-result t c =
    let ss = c.args.sums.now in
    let fs = c.args.flags.now in
    let are = c.requires.sums in
    let some : 0 < length ss = search rules in
    let fits : length fs < 18446744073709551616 = search rules in
    omega (
      arith,
      middle_counts ss fs are some,
      set_in-le (take (cut ss) fs),
      length-take-le (cut ss) fs (cut_fits ss fs are some),
      c.count_before-else-end-cut.ensures,
      set_in-le (take (c.args.end - cut ss) c.split_at.result.1.now),
      length-take (c.args.end - cut ss) c.split_at.result.1.now,
      c.if-end-cut.false,
      c.requires.bound,
      fits,
    )

pub returns-else-end-cut : goal.returns-else-end-cut
returns-else-end-cut t c =
    let are = c.requires.sums in
    let some : 0 < length c.args.sums.now = search rules in
    let cut_is = 16 * (length c.args.sums.now / 2 + 1) in
    ap (λ n. n + c.count_before-else-end-cut.result) (middle_counts c.args.sums.now c.args.flags.now are some)
    ∙ ap (λ n. set_in (take cut_is c.args.flags.now) + n) (c.count_before-else-end-cut.ensures ∙ ap (λ gs. set_in (take (c.args.end - cut_is) gs)) c.split_at.ensures.back)
    ∙ set_before cut_is c.args.end c.args.flags.now c.if-end-cut.false
