use Rattle.std.proofs.Common.{Bool, List, ap, map, rules, ◌≡◌, ◌∙◌}
use Rattle.std.specs.List.{items_where_true}
use Rattle.br_model.specs.Restored.{Restored}
use Rattle.br_join.specs.Outcome.{restored}
use Rattle.br_types.specs.Newest.{is_newest, newest}
use Rattle.br_engine.proofs.KeptLaws.{flagged_pass}
use Rattle.br_types.specs.declared.wanted.Copies.TheVariants.{Newest}
use Rattle.br_engine.proofs.chosen_outcomes.flags_of.Goals as goal

pub returns-in_ok-flags_of_newest-in-Newest-clause-flags : goal.returns-in_ok-flags_of_newest-in-Newest-clause-flags
unfolding newest
returns-in_ok-flags_of_newest-in-Newest-clause-flags c =
    let os = c.args.outcomes.now in
    let rs : List Restored = map restored os in
    let wanted : c.args.copies ≡ Newest = search rules in
    rw wanted
    (ap (λ (flags : List Bool). map restored (items_where_true flags os)) c.in_ok-flags_of_newest-in-Newest.ensures
    ∙ flagged_pass restored (is_newest rs) os)
