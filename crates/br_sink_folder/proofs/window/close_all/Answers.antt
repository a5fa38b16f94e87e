use Rattle.std.proofs.Common.{ℕ, List, subst}
use Rattle.br_sink_folder.specs.Removed.{AreRemoved}
use Rattle.br_sink_folder.proofs.BelowLaws.{outside_more}
use Rattle.br_sink_folder.proofs.HeldLaws.{all_left}
use Rattle.br_sink_folder.proofs.StopLaws.{close_stops}
use Rattle.br_sink_folder.proofs.window.close_all.Goals as goal

pub returns-in-Ok-clause-left : goal.returns-in-Ok-clause-left
returns-in-Ok-clause-left g c = λ items nodes held.
    all_left g.W.Write.contents c.args.root.now items c.finish_each.new.made nodes (g.M.FileMaker.nodes c.finish_each.new.maker)
    c.in-Ok.ensures.answered (c.finish_each.ensures.left items nodes held)

pub returns-in-Err-clause-before : goal.returns-in-Err-clause-before
returns-in-Err-clause-before g c = λ items nodes held.
    let left = c.finish_each.ensures.left items nodes held in
    close_stops g.M.Remover.is_refused g.W.Write.contents c.args.root.now items c.args.made.now c.finish_each.new.made c.in-Err.stop nodes
    (g.M.FileMaker.nodes c.args.maker.now) (g.M.FileMaker.nodes c.finish_each.new.maker) (g.M.FileMaker.nodes c.remove_from.new.maker)
    c.finish_each.ensures.files held c.in-Err.ensures.one c.in-Err.ensures.first left.files (rw c.done.ensures at c.remove_from.ensures.kept)
    (rw c.done.ensures at c.remove_from.ensures.removed)

pub returns-in-Err-clause-stopped : goal.returns-in-Err-clause-stopped
returns-in-Err-clause-stopped g c = λ n below. c.in-Err.ensures.stopped n (c.finish_each.ensures.below n below)

pub returns-in-Err-clause-removed : goal.returns-in-Err-clause-removed
returns-in-Err-clause-removed g c =
    let refused = g.M.Remover.is_refused in
    let nodes = g.M.FileMaker.nodes c.remove_from.new.maker in
    subst (λ (files : List (ℕ × List ℕ)). AreRemoved refused c.args.root.now c.in-Err.stop.done files nodes) c.finish_each.ensures.files
    (rw c.done.ensures at c.remove_from.ensures.removed)

pub returns-in-Err-clause-outside : goal.returns-in-Err-clause-outside
returns-in-Err-clause-outside g c = outside_more _ _ _ _ c.finish_each.ensures.outside c.remove_from.ensures.outside
