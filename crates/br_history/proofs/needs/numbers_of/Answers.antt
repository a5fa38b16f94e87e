use Rattle.std.proofs.Common.{sym, ◌∙◌}
use Rattle.std.proofs.lemmas.Result.{IfOk-weaker}
use Rattle.std.proofs.lemmas.Simd.{map-map}
use Rattle.br_history.proofs.needs.numbers_of.Goals as goal

pub returns : goal.returns
returns c = IfOk-weaker c.each_number.result _ _ (λ numbers is. is ∙ sym (map-map (λ j. j.row.id) (λ j. j.now) c.args.jobs.now)) c.each_number.ensures
