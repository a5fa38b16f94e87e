use Rattle.br_model.specs.View.{view_paths}
use Rattle.br_model.specs.Console.{apply, meant}
use Rattle.br_mark.proofs.MarkLaws.{meant_only, mark_answers}
use Rattle.br_mark.proofs.marks.mark.Goals as goal

pub returns-clause-answers : goal.returns-clause-answers
unfolding apply
returns-clause-answers c =
    let paths = view_paths c.args.tree.now.view in
    mark_answers c.args.tree.now c.args.directory.now (meant paths c.args.directory.now c.args.pattern.now) c.mark-count.new.self c.mark-count.result c.counted.result
    (meant_only paths c.args.directory.now c.args.pattern.now) c.mark-count.ensures.answer c.mark-count.ensures.marks c.counted.ensures.answers
