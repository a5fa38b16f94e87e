use Rattle.std.proofs.Common.{◌++◌, subst}
use Rattle.br_model.specs.Console.{begins_with}
use Rattle.br_tree.specs.Walk.{seen_paths, IsRun}
use Rattle.br_tree.proofs.AroundLaws.{run_is_around}
use Rattle.br_tree.proofs.meant_run.meant_run.Goals as goal

pub returns : goal.returns
returns c =
    run_is_around c.args.directory.now c.args.pattern.now (seen_paths c.args.entries.now) c.run_in.result.0 c.run_in.result.1
    (subst (λ text. IsRun (λ p. begins_with p (c.args.directory.now ++ text)) (seen_paths c.args.entries.now) c.run_in.result.0 c.run_in.result.1) c.plain_front.ensures c.run_in.ensures)
