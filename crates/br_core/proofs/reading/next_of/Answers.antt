use Rattle.std.proofs.Common.{Some, refl, sym, ap, ◌∙◌, length}
use Rattle.std.proofs.lemmas.Option.{slice_get_read}
use Rattle.br_volume.specs.Memory.{volumes_of}
use Rattle.br_core.proofs.NextLaws.{if_ok, piece_next}
use Rattle.br_core.proofs.reading.next_of.Goals as goal

pub returns-in-Some-clause-given : goal.returns-in-Some-clause-given
returns-in-Some-clause-given c =
    let found = c.in-Some.ensures.lookup in
    piece_next c.args.pieces.now c.args.statuses.now c.args.number (volumes_of c.args.volumes.now) c.in-Some.piece.now c.in-Some-Claimed.addr c.next_block.result
    (slice_get_read c.args.pieces.now (length c.args.pieces.now) c.args.number c.in-Some.piece.now refl found.3.0 found.1)
    (sym c.status_at.ensures ∙ c.in-Some-Claimed.is ∙ ap Some c.in-Some-Claimed.field-0-is) c.next_block.ensures

pub returns-in-Some-clause-claimed : goal.returns-in-Some-clause-claimed
returns-in-Some-clause-claimed c =
    if_ok c.next_block.result (c.in-Some-Claimed.addr, sym c.status_at.ensures ∙ c.in-Some-Claimed.is ∙ ap Some c.in-Some-Claimed.field-0-is)
