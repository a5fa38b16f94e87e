use Rattle.std.proofs.Common.{length, ap, sym, ◌∙◌}
use Rattle.std.proofs.lemmas.List.Sums.{length-filter}
use Rattle.br_piece.specs.NearRanges.{is_asked}
use Rattle.br_piece.proofs.file_counts.count_in.Goals as goal

pub returns : goal.returns
returns c =
    let asked = is_asked c.args.group.now c.args.range in
    c.count_asked.ensures ∙ sym (length-filter asked c.near.result.now) ∙ ap length c.near.ensures ∙ length-filter asked c.args.keys.now
