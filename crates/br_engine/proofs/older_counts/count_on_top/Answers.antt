use Rattle.std.proofs.Common.{◌++◌, ◌∷◌, [], List, ap, map, rules, refl, sym, ◌∙◌, append_assoc}
use Rattle.std.specs.Slice.Iter.{iter_rest}
use Rattle.br_model.specs.Name.{FileKey}
use Rattle.br_join.specs.Outcome.{restored}
use Rattle.br_join.specs.declared.item.Outcome.{Outcome}
use Rattle.br_types.specs.Newest.{copies_of}
use Rattle.br_engine.proofs.older_counts.count_on_top.Goals as goal

pub loop-outcome-init : goal.loop-outcome-init
loop-outcome-init c = ([], record { noted = c.new.ensures; counted = refl }, search rules)

pub loop-outcome-preserved : goal.loop-outcome-preserved
loop-outcome-preserved c =
    let i = c.loop-outcome.invariant in
    let o : FileKey × Outcome = c.in-Some.outcome.now in
    let left : List (FileKey × Outcome) = iter_rest c.next.new.self.iter in (
      o ∷ i.0,
      c.in_ok-note_outcome.ensures (copies_of (map restored c.args.outcomes.now)) (map restored i.0) c.requires i.1,
      sym (append_assoc left (o ∷ []) i.0) ∙ ap (λ (os : List (FileKey × Outcome)). os ++ i.0) (sym c.in-Some.ensures.steps) ∙ i.2,
    )
