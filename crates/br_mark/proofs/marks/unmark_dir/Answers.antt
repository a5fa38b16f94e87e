use Rattle.std.proofs.Common.{List, ℕ, Option, Ok, subst}
use Rattle.std.specs.Prelude.{option_map}
use Rattle.br_model.specs.Answer.{◌>>=◌}
use Rattle.br_model.specs.View.{view_paths}
use Rattle.br_model.specs.Console.{apply, meant_directories, without_marks}
use Rattle.br_tree.specs.Marking.{console_at}
use Rattle.br_mark.proofs.MarkLaws.{AnswersAs, meant_directories_only, unmark_answers}
use Rattle.br_mark.proofs.marks.unmark_dir.Goals as goal

pub returns-clause-answers : goal.returns-clause-answers
unfolding apply
returns-clause-answers c =
    let m = c.args.tree.now in
    let directory = c.args.directory.now in
    let paths = view_paths m.view in
    let pattern = option_map (λ p. p.now) c.bytes_of.result in
    subst (λ (o : Option (List ℕ)). AnswersAs (console_at directory c.unmark_dir-count.new.self) c.counted.result (meant_directories paths directory o >>= λ found. Ok (without_marks (console_at directory m) found)))
    c.bytes_of.ensures
    (unmark_answers m directory (meant_directories paths directory pattern) c.unmark_dir-count.new.self c.unmark_dir-count.result c.counted.result
    (meant_directories_only paths directory pattern) c.unmark_dir-count.ensures.answer c.unmark_dir-count.ensures.marks c.counted.ensures.answers)
