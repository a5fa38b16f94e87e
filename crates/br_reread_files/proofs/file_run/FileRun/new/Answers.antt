use Rattle.std.proofs.Common.{ap, sym, subst, ◌∙◌}
use Rattle.std.specs.Option.{option_copied}
use Rattle.br_reread_files.specs.FileHits.{FileHits, FitsFront}
use Rattle.br_reread_files.proofs.FileHitsLaws.{if_front}
use Rattle.br_reread_files.proofs.file_run.FileRun.new.Goals as goal

pub new-requires : goal.new-requires
new-requires c =
    let fits = subst (FitsFront c.args.fronts.now) (sym c.run.view_is) c.requires in
    if_front (option_copied c.of.result) c.run.inside.hits.now (λ f is. fits f (sym c.of.ensures ∙ is))

pub returns : goal.returns
returns c =
    ap (λ (f : FileHits). record { key = c.run.inside.key; path = option_copied c.run.inside.path; hits = f.hits }) c.new.ensures ∙ c.run.view_is
