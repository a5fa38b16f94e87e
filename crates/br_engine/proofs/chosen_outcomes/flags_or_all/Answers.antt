use Rattle.std.proofs.Common.{Bool, List, ap, sym, ◌∙◌}
use Rattle.std.specs.List.{items_where_true}
use Rattle.std.proofs.lemmas.Result.{IfOk-weaker}
use Rattle.br_engine.specs.WantedOutcomes.{Flags, left_by}
use Rattle.br_engine.proofs.FlagLaws.{all_stay}
use Rattle.br_engine.proofs.chosen_outcomes.flags_or_all.Goals as goal

pub returns-in-None-clause-same : goal.returns-in-None-clause-same
returns-in-None-clause-same c =
    let os = c.args.outcomes.now in
    IfOk-weaker c.all_flags.result _ _
    (λ all is. ap (λ (bs : List Bool). items_where_true bs os) is ∙ all_stay os ∙ sym (ap (λ (flags : Flags). left_by flags os) c.in-None.is))
    c.all_flags.ensures
