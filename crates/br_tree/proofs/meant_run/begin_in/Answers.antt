use Rattle.std.proofs.Common.{◌++◌, ◌≤◌, subst}
use Rattle.br_model.specs.Console.{begins_with}
use Rattle.br_tree.specs.Walk.{seen_paths}
use Rattle.br_tree.proofs.RunLaws.{fronts_fall, seen_length}
use Rattle.br_tree.proofs.CutLaws.{falling}
use Rattle.br_tree.proofs.meant_run.begin_in.Goals as goal

pub cut-requires : goal.cut-requires
cut-requires c =
    let ps = seen_paths c.args.entries.now in
    falling (λ p. begins_with p (c.args.directory.now ++ c.args.text.now)) ps (fronts_fall (c.args.directory.now ++ c.args.text.now) ps c.requires.sorted c.requires.after)

pub returns-clause-bound : goal.returns-clause-bound
returns-clause-bound c = subst (λ n. c.cut.result ≤ n) (seen_length c.args.entries.now) c.cut.ensures.bound
