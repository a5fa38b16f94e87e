use Rattle.std.proofs.Common.{◌≡◌, ℕ, None, sym, ap, ◌∙◌}
use Rattle.std.specs.Prelude.{Vec}
use Rattle.std.specs.Global.{Global}
use Rattle.std.specs.Map.{lookup}
use Rattle.br_piece.specs.Piece.{place_in}
use Rattle.br_piece.proofs.PlaceLaws.{is_named, lookup_put, noted_new}
use Rattle.br_piece.proofs.splitting.place_for.Goals as goal

pub returns-in_ok-insert-in-None-clause-noted : goal.returns-in_ok-insert-in-None-clause-noted
returns-in_ok-insert-in-None-clause-noted c = λ name.
    let places = c.args.places.now in
    let volume = c.args.vol.now in
    let key = c.in_ok-from_slice-in-None.field-0 in
    let none : place_in places volume ≡ None =
    ap (place_in places) (sym c.bytes.ensures.same) ∙ sym c.get.ensures.value ∙ sym c.copied.ensures ∙ c.in-None.is in
    ap (lookup (is_named (λ (k : Vec ℕ Global). k.items) name)) c.in_ok-insert-in-None.ensures.entries
    ∙ lookup_put (λ (k : Vec ℕ Global). k.items) places.entries key c.args.next name
    ∙ noted_new volume name key.items c.args.next (place_in places) (c.in_ok-from_slice-in-None.ensures.items ∙ c.bytes-in-None.ensures.same) none
