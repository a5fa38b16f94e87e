use Rattle.br_model.specs.View.{view_paths}
use Rattle.br_model.specs.Console.{apply, meant}
use Rattle.br_mark.proofs.MarkLaws.{meant_only, unmark_answers}
use Rattle.br_mark.proofs.marks.unmark.Goals as goal

pub returns-clause-answers : goal.returns-clause-answers
unfolding apply
returns-clause-answers c =
    let paths = view_paths c.args.tree.now.view in
    unmark_answers c.args.tree.now c.args.directory.now (meant paths c.args.directory.now c.args.pattern.now) c.unmark-count.new.self c.unmark-count.result c.counted.result
    (meant_only paths c.args.directory.now c.args.pattern.now) c.unmark-count.ensures.answer c.unmark-count.ensures.marks c.counted.ensures.answers
