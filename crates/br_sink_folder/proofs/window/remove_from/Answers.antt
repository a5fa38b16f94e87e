use Rattle.br_sink_folder.proofs.BelowLaws.{outside_more}
use Rattle.br_sink_folder.proofs.RemovalLaws.{removed_more}
use Rattle.br_sink_folder.proofs.StopLaws.{looked_at}
use Rattle.br_sink_folder.proofs.window.remove_from.Goals as goal

pub loop-one-preserved : goal.loop-one-preserved
loop-one-preserved g c =
    let l = c.loop-one.invariant in
    let before = g.M.FileMaker.nodes c.loop-one.maker in
    let after = g.M.FileMaker.nodes c.remove_one.new.maker in
    record {
      removed =
          removed_more g.M.Remover.is_refused c.args.root.now c.args.place c.args.made.now c.loop-one.one-index c.one-item.result before after
          l.removed c.loop-one-test.true c.one-item.is c.remove_one.ensures.others c.remove_one.ensures.removed;
      kept =
          looked_at c.args.root.now c.args.place c.args.made.now c.loop-one.one-index c.one-item.result (g.M.FileMaker.nodes c.args.maker.now)
          before after c.loop-one-test.true c.one-item.is l.kept c.remove_one.ensures.kept;
      outside = outside_more _ _ _ _ l.outside c.remove_one.ensures.outside;
    }
