use Rattle.std.proofs.Common.{rules, tests}
use Rattle.std.proofs.lemmas.Iterator.{YieldsList-from_slice}
use Rattle.std.proofs.lemmas.Iterator.Consumers.{YieldsList-from_filter}
use Rattle.std.specs.Option.{option_copied}
use Rattle.br_choose.specs.Wanted.{is_wanted, later}
use Rattle.br_choose.proofs.ChainLaws.{reduced}
use Rattle.br_choose.proofs.choice.last_wanted.Goals as goal

pub returns : goal.returns
returns c =
    reduced later _ _ c.reduce.result c.reduce.ensures.ran
    (YieldsList-from_filter _ (is_wanted c.args.request.now c.args.level (option_copied c.args.earlier)) (YieldsList-from_slice c.args.jobs.now cc) c.filter.ensures.closure (λ x b q k. search (rules, tests)))
    (λ a x b q k. search (rules, tests))
