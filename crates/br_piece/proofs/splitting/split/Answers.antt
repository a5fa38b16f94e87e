use Rattle.std.proofs.Common.{◌≡◌, ◌<◌, ℕ, refl, sym, ap, subst, ◌∙◌, arith, length}
use Rattle.std.specs.Prelude.{IfSome, Vec}
use Rattle.std.specs.Global.{Global}
use Rattle.std.specs.Map.{lookup}
use Rattle.br_model.specs.Bootstrap.{Group}
use Rattle.br_piece.specs.Piece.{place_among, place_in}
use Rattle.br_piece.proofs.SplitLaws.{no_pieces, place_inside, put_length, split_step}
use Rattle.br_piece.proofs.PlaceLaws.{is_named, places_step}
use Rattle.br_piece.proofs.splitting.split.Goals as goal

pub loop-group-init : goal.loop-group-init
loop-group-init c =
    let e = c.new-pieces.ensures.items in (
      e ∙ sym no_pieces,
      rw e (omega arith),
      refl,
      λ name. ap (lookup (is_named (λ (k : Vec ℕ Global). k.items) name)) c.new-places.ensures.empty ∙ sym (ap (λ ps. place_among ps name) e),
    )

pub put_at-requires-clause-inside : goal.put_at-requires-clause-inside
put_at-requires-clause-inside c =
    let place : c.in_ok-place.place ≡ place_among c.loop-group.pieces.items c.group.inside.vol =
    c.in_ok-place.ensures.found ∙ c.loop-group.invariant.3 c.group.inside.vol in
    subst (λ o. IfSome o (λ k. k < length c.loop-group.pieces.items)) (sym place) (place_inside c.loop-group.pieces.items c.group.inside.vol)

pub loop-group-preserved : goal.loop-group-preserved
loop-group-preserved c =
    let group = c.group-item.result in
    let pieces = c.loop-group.pieces.items in
    let vol : c.group.inside.vol ≡ group.volume = ap (λ (g : Group). g.volume) c.group.view_is in
    let place : c.in_ok-place.place ≡ place_among pieces group.volume =
    c.in_ok-place.ensures.found ∙ c.loop-group.invariant.3 c.group.inside.vol ∙ ap (place_among pieces) vol in
    let put = c.in_ok-put_at.ensures in
    let next : c.len.result ≡ length pieces = omega (arith, c.len.ensures, c.loop-group.pieces.ok.0) in
    let i = c.loop-group.invariant in (
      put ∙ split_step c.groups-group-items.result.now c.loop-group.group-index group pieces c.loop-group.number c.in_ok-place.place c.loop-group-test.true c.group-item.is i.0 i.2 place,
      omega (arith, ap length put, put_length c.in_ok-place.place pieces (c.loop-group.number, group), i.1),
      omega (arith, i.2),
      places_step (place_in c.loop-group.places) (place_in c.place_for.new.places) c.in_ok-place.place pieces c.put_at.new.pieces.items (c.loop-group.number, group) c.group.inside.vol c.len.result
          i.3 c.in_ok-place.ensures.noted vol next place put,
    )
