-- Ways through directories, component by component.
use Rattle.std.proofs.Common.{◌≡◌, ℕ, ◌+◌, ◌<◌, ◌≤◌, List, length, drop, get_or, Option, Some, None, Ok, ap, sym, ◌∙◌}
use Rattle.std.proofs.lemmas.List.{at_drop_more, at_drop_all}
use Rattle.br_model.specs.Answer.{◌>>=◌, IsRefusal}
use Rattle.br_model.specs.Console.{step, walk}

module _ (all : List (List ℕ)) (i : ℕ) (x directory : List ℕ) (within : i < length all) (is : x ≡ get_or all i x) where
  first_step : walk directory (drop i all) ≡ (step directory x >>= λ next. walk next (drop (i + 1) all))
  unfolding walk
  first_step = at_drop_more (walk directory) all i x within ∙ ap (λ y. step directory y >>= λ next. walk next (drop (i + 1) all)) (sym is)

  -- a component more
  pub walk_more : (next : List ℕ) → step directory x ≡ Ok next → walk directory (drop i all) ≡ walk next (drop (i + 1) all)
  walk_more next steps = first_step ∙ ap (λ s. s >>= λ d. walk d (drop (i + 1) all)) steps

  -- a component that is refused
  pub walk_refused : (r : Option ℕ) (whole : _) → IsRefusal r (step directory x) → walk directory (drop i all) ≡ whole → IsRefusal r whole
  walk_refused None whole refused is_whole = tt
  walk_refused (Some n) whole refused is_whole = sym is_whole ∙ first_step ∙ ap (λ s. s >>= λ d. walk d (drop (i + 1) all)) refused

-- no component is left
pub walk_all : (all : List (List ℕ)) (i : ℕ) (directory : List ℕ) → length all ≤ i → walk directory (drop i all) ≡ Ok directory
unfolding walk
walk_all all i directory past = at_drop_all (walk directory) all i past
