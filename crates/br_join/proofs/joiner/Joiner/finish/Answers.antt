use Rattle.std.proofs.Common.{option_map, sym, ap, ◌∙◌}
use Rattle.std.specs.FinMap.{entries}
use Rattle.br_model.specs.Restored.{HitList, files, files_listed, planned_in}
use Rattle.br_join.specs.Joining.{Joining}
use Rattle.br_records.specs.Runs.{listed}
use Rattle.br_records.proofs.SortLaws.{listed_is}
use Rattle.br_join.proofs.joiner.Joiner.finish.Goals as goal

pub returns-in-Ok-clause-files : goal.returns-in-Ok-clause-files
unfolding files
returns-in-Ok-clause-files g c =
    let names = c.self.inside.names in
    let hits = c.in_ok-hits.hits.items in
    c.in-Ok.ensures ∙ (λ i. files_listed (listed (c.deref.ensures.value i)) (option_map planned_in (c.as_ref.ensures.value i)))
    ∙ ap (λ (es : HitList). files_listed es (option_map planned_in names)) (sym (listed_is hits c.in_ok-hits.ensures.listed) ∙ ap entries c.in_ok-hits.ensures.same)
    ∙ ap (λ (j : Joining). files j.hits (option_map planned_in j.names)) c.self.view_is
