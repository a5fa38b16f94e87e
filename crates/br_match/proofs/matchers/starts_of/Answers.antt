use Rattle.std.proofs.Common.{◌++◌, ◌∷◌, [], ℕ, List, ap, sym, ◌∙◌, append_assoc}
use Rattle.std.specs.Slice.Iter.{iter_rest}
use Rattle.br_model.specs.Bootstrap.{Group}
use Rattle.br_match.proofs.NearLaws.{starts_more}
use Rattle.br_match.proofs.matchers.starts_of.Goals as goal

pub loop-group-preserved : goal.loop-group-preserved
loop-group-preserved c =
    let l = c.loop-group in
    let i = l.invariant in
    let g : ℕ × Group = c.in-Some.group.now in
    let left : List (ℕ × Group) = iter_rest c.next.new.self.iter in (
      g ∷ i.0,
      rw (c.in_ok-push.ensures.items) (rw (c.min-least.ensures) (starts_more i.0 l.starts.items l.least c.first_address.result g c.first_address.ensures i.1)),
      sym (append_assoc left (g ∷ []) i.0) ∙ ap (λ (gs : List (ℕ × Group)). gs ++ i.0) (sym c.in-Some.ensures.steps) ∙ i.2,
    )
