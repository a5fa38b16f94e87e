use Rattle.std.proofs.Common.{◌∙◌, sym}
use Rattle.std.specs.Prelude.{is_ok}
use Rattle.std.proofs.lemmas.List.Folds.{list_all-map}
use Rattle.br_model.specs.Restored.{Restored}
use Rattle.br_join.specs.Outcome.{restored}
use Rattle.br_engine.proofs.extracting.all_files.Goals as goal

pub returns : goal.returns
returns c = c.all_outcomes.ensures ∙ sym (list_all-map (λ (r : Restored). is_ok r.outcome) restored c.args.outcomes.now)
