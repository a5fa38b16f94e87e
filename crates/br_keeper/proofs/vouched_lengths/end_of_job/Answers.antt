use Rattle.std.proofs.Common.{◌≡◌, true, List, sym, subst}
use Rattle.std.specs.List.{list_all}
use Rattle.br_model.specs.Job.{Span, is_span}
use Rattle.br_model.proofs.GroupLaws.{rows_say}
use Rattle.br_keeper.proofs.vouched_lengths.end_of_job.Goals as goal

pub end_of_spans-requires : goal.end_of_spans-requires
end_of_spans-requires c =
    subst (λ (ss : List Span). list_all is_span ss ≡ true) (sym c.spans.ensures.same) (rows_say c.args.job.now c.spans.ensures.valid).spans_fit
