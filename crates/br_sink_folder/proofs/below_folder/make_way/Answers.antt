use Rattle.br_sink_folder.proofs.BelowLaws.{adds_more}
use Rattle.br_sink_folder.proofs.WayLaws.{way_done, way_more}
use Rattle.br_sink_folder.proofs.below_folder.make_way.Goals as goal

pub loop-at-preserved : goal.loop-at-preserved
loop-at-preserved g c =
    let l = c.loop-at.invariant in
    let root = c.args.root.now in
    let before = g.M.FileMaker.nodes c.loop-at.maker in
    let after = g.M.FileMaker.nodes c.make_front.new.maker in
    record {
      added = adds_more root (g.M.FileMaker.nodes c.args.maker.now) before after l.added c.make_front.ensures.added;
      way = way_more root c.args.path.now c.loop-at.at before after l.way c.make_front.ensures.added c.in_ok-make_front.ensures.folder;
    }

pub returns-clause-way : goal.returns-clause-way
returns-clause-way g c =
    way_done c.args.root.now c.args.path.now c.loop-at.at (g.M.FileMaker.nodes c.loop-at.maker) c.loop-at.invariant.way c.loop-at-test.false
