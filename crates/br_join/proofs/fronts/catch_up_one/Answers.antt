use Rattle.std.proofs.Common.{◌≡◌, true, false, sym, ap, ◌∙◌}
use Rattle.std.specs.Prelude.{is_some}
use Rattle.br_join.proofs.fronts.catch_up_one.Goals as goal

pub catch_up_at-requires : goal.catch_up_at-requires
catch_up_at-requires c = λ none. let e : true ≡ false = sym c.if-not-contains_key.false ∙ c.contains_key.ensures ∙ ap is_some none in absurd cc
