use Rattle.std.proofs.Common.{◌≡◌, ◌<◌, ◌∙◌, ap, get_or, length, length-set, arith}
use Rattle.br_sink_folder.specs.declared.window.Made.{Made}
use Rattle.br_sink_folder.proofs.BelowLaws.{outside_more}
use Rattle.br_sink_folder.proofs.HeldLaws.{close_step}
use Rattle.br_sink_folder.proofs.RemovalLaws.{files_set}
use Rattle.br_sink_folder.proofs.WindowLaws.{below_set}
use Rattle.br_sink_folder.proofs.window.finish_each.Goals as goal

pub loop-i-preserved : goal.loop-i-preserved
loop-i-preserved g c =
    let l = c.loop-i.invariant in
    let made = c.loop-i.made in
    let was = get_or made c.loop-i.i c.index-made-i.result in
    let new = c.finish.new.self in
    let is : was ≡ get_or made c.loop-i.i was = ap (λ (o : Made _). get_or made c.loop-i.i o) c.index-made-i.is in
    let low : c.loop-i.i < length made = omega (arith, c.loop-i-test.true, l.long) in
    record {
      below = λ n below. below_set n c.loop-i.i made was new (l.below n below) is low c.finish.ensures.place;
      outside = outside_more _ _ _ _ l.outside c.finish.ensures.outside;
      files = files_set made c.loop-i.i was new is c.finish.ensures.place c.finish.ensures.item ∙ l.files;
      long = length-set made c.loop-i.i new ∙ l.long;
      held = λ items earlier held.
          close_step g.W.Write.contents c.args.root.now items made c.loop-i.i was new earlier
          (g.M.FileMaker.nodes c.loop-i.maker) (g.M.FileMaker.nodes c.finish.new.maker) low is c.finish.ensures.item c.finish.ensures.finished
          c.finish.ensures.others (l.held items earlier held);
    }
