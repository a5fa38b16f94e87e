use Rattle.std.proofs.Common.{◌≡◌, ap, rules, ◌∙◌}
use Rattle.std.specs.List.{items_where_true}
use Rattle.std.specs.Slice.Iter.{iter_rest}
use Rattle.br_engine.specs.contracts.newest_flags.fn.keep_flagged.retain as closure
use Rattle.br_engine.proofs.KeptLaws.{flagged_are_left}
use Rattle.br_engine.proofs.newest_flags.keep_flagged.Goals as goal

pub returns : goal.returns
returns c =
    let all : iter_rest c.iter-left.result ≡ c.args.flags.now = search rules in
    flagged_are_left _ (λ f. iter_rest (closure.captures f).left) (λ p x b q k. search rules) _ _ _ c.retain.ensures.filtered
    ∙ ap (λ bs. items_where_true bs c.args.outcomes.now.items) all
