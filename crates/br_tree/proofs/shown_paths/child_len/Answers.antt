use Rattle.std.proofs.Common.{◌≤◌, subst}
use Rattle.std.specs.Prelude.{bytes_eq}
use Rattle.br_model.specs.Console.{child_of}
use Rattle.br_tree.specs.Walk.{seen_paths}
use Rattle.br_tree.proofs.RunLaws.{children_fall, seen_length}
use Rattle.br_tree.proofs.CutLaws.{falling}
use Rattle.br_tree.proofs.shown_paths.child_len.Goals as goal

pub cut-requires : goal.cut-requires
cut-requires c =
    let ps = seen_paths c.args.entries.now in
    falling (λ p. bytes_eq (child_of c.args.directory.now p) c.args.name.now) ps (children_fall c.args.directory.now c.args.name.now ps c.requires.sorted c.requires.below c.requires.first)

pub returns-clause-bound : goal.returns-clause-bound
returns-clause-bound c = subst (λ n. c.cut.result ≤ n) (seen_length c.args.entries.now) c.cut.ensures.bound
