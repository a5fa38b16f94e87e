use Rattle.std.proofs.Common.{sym, ap, ◌∙◌}
use mathlib.Core.List.{map-map}
use Rattle.std.proofs.lemmas.Result.{IfOk-weaker}
use Rattle.br_join.specs.Outcome.{restored}
use Rattle.br_model.specs.Restored.{Restored}
use Rattle.br_piece.specs.MissingLines.{report}
use Rattle.br_engine.proofs.chosen_outcomes.missing_of.Goals as goal

pub returns : goal.returns
returns c =
    IfOk-weaker c.report.result _ _
    (λ lines is. is ∙ ap (report c.args.groups.now c.args.counts.now) (c.in_ok-keys.ensures ∙ sym (map-map (λ (r : Restored). r.key) restored c.args.outcomes.now)))
    c.report.ensures
