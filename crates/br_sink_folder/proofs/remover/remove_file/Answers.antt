use Rattle.br_sink_folder.proofs.BelowLaws.{outside_added, outside_then}
use Rattle.br_sink_folder.proofs.remover.remove_file.Goals as goal

pub returns-clause-outside : goal.returns-clause-outside
returns-clause-outside g c =
    let root = c.args.root.now in
    let before = g.M.FileMaker.nodes c.args.maker.now in
    let middle = g.M.FileMaker.nodes c.make_way.new.maker in
    outside_then root c.args.path.now before middle (g.M.FileMaker.nodes c.remove.new.maker)
    (outside_added root before middle c.make_way.ensures.added) c.requires.below c.remove.ensures.others
