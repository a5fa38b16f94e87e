use Rattle.std.proofs.Common.{◌*◌, ◌/◌, ◌≤◌, replicate, sym, subst, arith}
use Rattle.br_tree.specs.Sums.{AreSums}
use Rattle.br_tree.proofs.SumLaws.{sums_of_none}
use Rattle.br_tree.proofs.flags.Flags.new.Goals as goal

pub invariant_of-result : goal.invariant_of-result
invariant_of-result c =
    let n = c.args.count in
    let room : 16 * (n / 16) ≤ n = omega arith in
    subst (λ ss. AreSums ss c.in_ok-flags.flags.items) (sym c.in_ok-sums.ensures)
    (subst (AreSums (replicate (n / 16) 0)) (sym c.in_ok-flags.ensures) (sums_of_none (n / 16) n room))
