use Rattle.std.proofs.Common.{sym}
use Rattle.br_model.specs.Console.{begins_with}
use Rattle.br_tree.specs.Walk.{seen_paths}
use Rattle.br_tree.proofs.StepLaws.{run_any}
use Rattle.br_tree.proofs.tree.begin_so.Goals as goal

pub returns : goal.returns
returns c = sym (run_any (λ p. begins_with p c.args.text.now) (seen_paths c.args.entries.now) c.run_of-first.result.0 c.run_of-first.result.1 c.run_of-first.ensures)
