use Rattle.std.proofs.Common.{sym, subst, ap, ◌∙◌, filter, not}
use Rattle.br_piece.specs.NearRanges.{AreSorted, is_asked, is_before, is_up_to}
use Rattle.br_piece.proofs.NearLaws.{part_has_asked, part_is_sorted}
use Rattle.br_piece.proofs.near_ranges.within.Goals as goal

pub up_to_high-requires : goal.up_to_high-requires
up_to_high-requires c =
    subst AreSorted (sym c.from_low.ensures) (part_is_sorted (λ k. not (is_before c.args.id c.args.time c.args.low k)) c.args.keys.now c.requires)

pub returns : goal.returns
returns c g names =
    ap (filter (is_asked g (record { low = c.args.low; high = c.args.high }))) (c.up_to_high.ensures ∙ ap (filter (is_up_to c.args.id c.args.time c.args.high)) c.from_low.ensures)
    ∙ part_has_asked g (record { low = c.args.low; high = c.args.high }) c.args.id c.args.time c.args.keys.now names.0 names.1
