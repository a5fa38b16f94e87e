use Rattle.std.proofs.Common.{rules, tests}
use Rattle.std.proofs.lemmas.Iterator.Search.{any_from_yields_List}
use Rattle.std.proofs.lemmas.Iterator.Splits.{YieldsList-from_slice_split}
use Rattle.br_model.specs.Name.{is_slash}
use Rattle.br_check.specs.Findings.{is_long_name}
use Rattle.br_check.proofs.long.has_long_name.Goals as goal

-- each name that `split` gives is tested
pub returns : goal.returns
returns c =
    any_from_yields_List is_long_name _ _ _ c.any.ensures.ran
    (YieldsList-from_slice_split _ is_slash c.args.path.now c.split.ensures.rest c.split.ensures.done c.split.ensures.closure (λ x b q k. search (rules, tests)))
    (λ x b q k. search (rules, tests))
