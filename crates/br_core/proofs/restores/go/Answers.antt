use Rattle.std.proofs.Common.{Some, length, refl, sym, ap, ◌∙◌}
use Rattle.std.proofs.lemmas.Option.{slice_get_read}
use Rattle.br_core.specs.Moving.{asked, moved}
use Rattle.br_core.proofs.MovingLaws.{none_moves, one_moves, over_already}
use Rattle.br_core.proofs.restores.go.Goals as goal

pub returns-in_default-take : goal.returns-in_default-take
returns-in_default-take c =
    let before = c.args.restores.now.items in
    let there = slice_get_read before (length before) c.args.number c.in-Some.place.now refl c.in-Some.ensures.item.3.0 c.in-Some.ensures.item.1 in
    let over = over_already before c.args.number c.in-Some.place.now c.take.new.self there (sym c.take.ensures.value ∙ c.in_default-take.is) c.take.ensures.after in
    none_moves (asked c.args.what) (moved c.args.what) c.args.number before _ over.0 over.1

pub returns : goal.returns
returns c =
    let before = c.args.restores.now.items in
    let there = slice_get_read before (length before) c.args.number c.in-Some.place.now refl c.in-Some.ensures.item.3.0 c.in-Some.ensures.item.1 in
    one_moves (asked c.args.what) (moved c.args.what) c.args.number before _ c.in-Some-take.restore c.go-result.new.self c.go-result.result
    (there ∙ ap Some (sym c.take.ensures.value ∙ c.in-Some-take.is)) refl c.go-result.ensures
