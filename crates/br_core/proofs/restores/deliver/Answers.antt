use Rattle.std.proofs.Common.{Some, length, refl, sym, ap, subst, ◌∙◌, slice_set}
use Rattle.std.proofs.lemmas.Option.{slice_get_read}
use Rattle.br_core.specs.View.{TellsWhole}
use Rattle.br_core.proofs.MovingLaws.{kept_whole, none_delivers, not_whole, over_already}
use Rattle.br_core.proofs.restores.deliver.Goals as goal

pub returns-in_default-take : goal.returns-in_default-take
returns-in_default-take g c =
    let before = c.args.restores.now.items in
    let there = slice_get_read before (length before) c.args.number c.in-Some.place.now refl c.in-Some.ensures.item.3.0 c.in-Some.ensures.item.1 in
    let over = over_already before c.args.number c.in-Some.place.now c.take.new.self there (sym c.take.ensures.value ∙ c.in_default-take.is) c.take.ensures.after in
    none_delivers c.args.number before _ over.0 over.1

pub returns-then-not-is_whole : goal.returns-then-not-is_whole
returns-then-not-is_whole g c =
    let before = c.args.restores.now.items in
    let there = slice_get_read before (length before) c.args.number c.in-Some.place.now refl c.in-Some.ensures.item.3.0 c.in-Some.ensures.item.1 in
    not_whole c.args.number before c.in-Some-take.restore (there ∙ ap Some (sym c.take.ensures.value ∙ c.in-Some-take.is))
    (subst (TellsWhole c.in-Some-take.restore) c.if-not-is_whole.true c.is_whole.ensures)

pub returns-in-Ok : goal.returns-in-Ok
returns-in-Ok g c =
    let before = c.args.restores.now.items in
    let there = slice_get_read before (length before) c.args.number c.in-Some.place.now refl c.in-Some.ensures.item.3.0 c.in-Some.ensures.item.1 in (
      c.in-Some-take.restore,
      there ∙ ap Some (sym c.take.ensures.value ∙ c.in-Some-take.is),
      subst (TellsWhole c.in-Some-take.restore) c.if-not-is_whole.false c.is_whole.ensures,
      c.in-Ok.ensures.given,
      ap (slice_set before c.args.number) c.take.ensures.after,
    )

pub returns-in-Err : goal.returns-in-Err
returns-in-Err g c =
    let before = c.args.restores.now.items in
    let there = slice_get_read before (length before) c.args.number c.in-Some.place.now refl c.in-Some.ensures.item.3.0 c.in-Some.ensures.item.1 in
    kept_whole c.args.number before c.in-Some-take.restore c.in-Err.restore (there ∙ ap Some (sym c.take.ensures.value ∙ c.in-Some-take.is)) c.in-Err.ensures.back
