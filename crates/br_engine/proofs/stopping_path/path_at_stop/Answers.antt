use Rattle.std.proofs.Common.{◌≡◌, ◌∙◌, ℕ, Some, ap, option_map, slice_get, subst}
use Rattle.br_model.specs.File.{Item}
use Rattle.br_sink.specs.Delivery.{items_in}
use Rattle.br_engine.proofs.PathLaws.{path_at_file}
use Rattle.br_engine.proofs.stopping_path.path_at_stop.Goals as goal

pub returns-in-Ok : goal.returns-in-Ok
returns-in-Ok c =
    let outcomes = c.args.outcomes.now in
    let found = c.in_ok-item-in-Stopped in
    rw c.in-Stopped.is
    (subst (λ (n : ℕ). option_map (λ (i : Item). i.path) (slice_get (items_in outcomes) n) ≡ Some c.in-Ok.path) c.done.ensures
    (path_at_file outcomes c.done.result found.field-0-0 found.item.now c.in-Ok.path found.ensures.at_it (c.in-Ok.ensures ∙ ap (λ (i : Item). i.path) c.item.view_is)))
