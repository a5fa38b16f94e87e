use Rattle.std.proofs.Common.{ap, sym, subst, ◌∙◌}
use Rattle.br_tree.specs.Walk.{seen_paths}
use Rattle.br_tree.specs.Cut.{passes, IsFalling}
use Rattle.br_tree.proofs.RunLaws.{seen_take, seen_drop}
use Rattle.br_tree.proofs.CutLaws.{falling_taken, falling_dropped}
use Rattle.br_tree.proofs.cut.is_cut.Goals as goal

pub last_passes-requires : goal.last_passes-requires
last_passes-requires c =
    let xs = c.args.entries.now in
    subst (IsFalling (passes c.args.test)) (sym (ap seen_paths c.split_at.ensures.front ∙ seen_take c.args.place xs)) (falling_taken (passes c.args.test) c.args.place (seen_paths xs) c.requires)

pub first_fails-requires : goal.first_fails-requires
first_fails-requires c =
    let xs = c.args.entries.now in
    subst (IsFalling (passes c.args.test)) (sym (ap seen_paths c.split_at.ensures.back ∙ seen_drop c.args.place xs)) (falling_dropped (passes c.args.test) c.args.place (seen_paths xs) c.requires)
