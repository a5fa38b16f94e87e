use Rattle.std.proofs.Common.{◌∙◌, sym, ap, subst, filter}
use Rattle.std.proofs.lemmas.List.Kept.{IsStrictlySortedBy-filter}
use Rattle.br_model.specs.Job.{Span}
use Rattle.br_plan.specs.Selected.{file_cmp}
use Rattle.br_plan.specs.Parts.{Rise, is_up_to, is_within}
use Rattle.br_plan.proofs.PartLaws.{within_is}
use Rattle.br_plan.proofs.part.part_of.Goals as goal

pub up_to_last-requires-clause-rise : goal.up_to_last-requires-clause-rise
up_to_last-requires-clause-rise c =
    subst Rise (sym c.from_first.ensures.files) (IsStrictlySortedBy-filter file_cmp _ c.args.all.files.now c.requires.rise)

pub returns-clause-files : goal.returns-clause-files
returns-clause-files c =
    let files = c.args.all.files.now in
    let job = c.args.job in
    c.up_to_last.ensures.files ∙ ap (filter (is_up_to job c.span.inside.last)) c.from_first.ensures.files
    ∙ within_is job (record { volume = c.args.span.now.volume; first = c.span.inside.first; last = c.span.inside.last; start = 0; end = 0; vol_index = 0 }) files
    ∙ ap (λ (s : Span). filter (is_within job s) files) c.span.view_is
