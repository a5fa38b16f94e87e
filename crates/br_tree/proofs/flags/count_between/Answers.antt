use Rattle.std.proofs.Common.{arith}
use Rattle.br_tree.proofs.PaintLaws.{set_before}
use Rattle.br_tree.proofs.flags.count_between.Goals as goal

pub returns : goal.returns
returns c = omega (arith, c.saturating_sub.ensures, c.count_before.ensures, c.count_before-2.ensures, set_before c.args.from c.args.to c.args.flags.now c.requires.ordered)
