use Rattle.std.proofs.Common.{sym, ◌∙◌}
use Rattle.br_model.specs.Console.{begins_with}
use Rattle.br_tree.specs.Walk.{seen_paths}
use Rattle.br_tree.proofs.RunLaws.{seen_length}
use Rattle.br_tree.proofs.ChildLaws.{run_flag}
use Rattle.br_tree.proofs.sign.begins_a_mark.Goals as goal

pub returns : goal.returns
returns c =
    c.counts_between.ensures
    ∙ sym (run_flag (λ p. begins_with p c.args.text.now) c.run_near-first.result.0 c.run_near-first.result.1 (seen_paths c.args.entries.now) c.args.flags.now c.run_near-first.ensures (c.requires.as_long ∙ sym (seen_length c.args.entries.now)))
