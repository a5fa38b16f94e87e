use Rattle.std.proofs.Common.{ℕ, List, map, ap, ◌∙◌}
use Rattle.std.proofs.lemmas.Result.{IfOk-weaker}
use Rattle.br_jobs.specs.LocalTime.{blank_for_t}
use Rattle.br_jobs.proofs.local_time.clock_text.Goals as goal

pub returns : goal.returns
returns c =
    let shown = c.display_with_offset-text.ensures in
    let blank = ap (λ (bytes : List ℕ). map blank_for_t bytes) (c.as_bytes.ensures.value ∙ c.deref.ensures.0 ∙ shown.2) in
    IfOk-weaker c.with_blanks.result _ _ (λ text same. (shown.0, c.to_offset.result, c.to_offset.ensures, shown.1, same ∙ blank)) c.with_blanks.ensures
