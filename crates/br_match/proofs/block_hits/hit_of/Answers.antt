use Rattle.std.proofs.Common.{map, sym, ◌∙◌}
use Rattle.std.specs.Int.{is_positive}
use Rattle.br_match.proofs.GroupLaws.{label_not_hit, no_index}
use Rattle.br_match.proofs.block_hits.hit_of.Goals as goal

pub returns-in_default : goal.returns-in_default
returns-in_default c =
    let f = c.args.fragment.now in
    label_not_hit c.args.session.now (map (λ m. m.now) c.args.near.now) c.args.addr c.args.ordinal f (no_index (is_positive f.index) _ (sym c.in_default.is ∙ c.file_index.ensures))
