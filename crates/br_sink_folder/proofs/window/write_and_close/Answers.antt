use Rattle.std.proofs.Common.{◌≡◌, ℕ, List, IfErr, length, rules, subst}
use Rattle.br_sink_folder.specs.Removed.{AreRemovedFrom}
use Rattle.br_sink_folder.proofs.HeldLaws.{files_written}
use Rattle.br_sink_folder.proofs.window.write_and_close.Goals as goal

pub returns-clause-removed : goal.returns-clause-removed
returns-clause-removed g c =
    let old = c.args.made.now in
    let new = c.write_each.new.made in
    let long : length new ≡ length old = search rules in
    let nodes = g.M.FileMaker.nodes c.close_all.new.maker in
    let files = files_written g.W.Write.contents c.args.root.now old new long c.write_each.ensures.written in
    subst (λ (l : List (ℕ × List ℕ)). IfErr c.close_all.result (AreRemovedFrom g.M.Remover.is_refused c.args.root.now l nodes)) files
    c.close_all.ensures.removed
