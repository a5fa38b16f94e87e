use Rattle.std.proofs.Common.{◌∙◌, ℕ, List, Bool, ap, sym}
use Rattle.std.proofs.lemmas.Result.{IfOk-weaker}
use Rattle.br_model.specs.Order.{is_among}
use Rattle.br_model.specs.View.{Entry}
use Rattle.br_view.specs.Shown.{shown_pair}
use Rattle.br_plan.specs.Selected.{Pair}
use Rattle.br_plan.proofs.select.flags_of.Goals as goal
use mathlib.Core.List.{map, map-map}

pub returns : goal.returns
returns c =
    IfOk-weaker c.flags_by.result _ _
    (λ flags e. e ∙ ap (λ (test : List ℕ → Bool). map (λ (p : Pair). test p.0.now) c.args.entries.now) (λ i q. c.in_ok-paths.ensures q i)
    ∙ sym (map-map (λ (e : Entry). is_among c.args.marks.now e.path) shown_pair c.args.entries.now)) c.flags_by.ensures
