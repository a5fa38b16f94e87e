use Rattle.std.proofs.Common.{◌-◌, take, drop, nat_lt, ap, sym, ◌∙◌}
use Rattle.br_tree.proofs.SumLaws.{any_counted}
use Rattle.br_tree.proofs.sign.counts_between.Goals as goal

pub returns : goal.returns
returns c = ap (nat_lt 0) c.count.ensures ∙ sym (any_counted (take (c.args.to - c.args.from) (drop c.args.from c.args.flags.now)))
