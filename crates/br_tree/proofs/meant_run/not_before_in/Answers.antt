use Rattle.std.proofs.Common.{◌++◌, ◌≤◌, subst}
use Rattle.std.specs.Ordering.{is_lt}
use Rattle.br_model.proofs.OrderLaws.{rank_cmp}
use Rattle.br_tree.specs.Walk.{seen_paths}
use Rattle.br_tree.proofs.RunLaws.{before_falls, seen_length}
use Rattle.br_tree.proofs.CutLaws.{falling}
use Rattle.br_tree.proofs.meant_run.not_before_in.Goals as goal

pub cut-requires : goal.cut-requires
cut-requires c =
    let ps = seen_paths c.args.entries.now in
    falling (λ p. is_lt (rank_cmp p (c.args.directory.now ++ c.args.text.now))) ps (before_falls (c.args.directory.now ++ c.args.text.now) ps c.requires)

pub returns-clause-bound : goal.returns-clause-bound
returns-clause-bound c = subst (λ n. c.cut.result ≤ n) (seen_length c.args.entries.now) c.cut.ensures.bound
