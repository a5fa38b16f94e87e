use Rattle.std.proofs.Common.{subst, sym, ◌∙◌}
use Rattle.br_types.specs.Newest.{IsNewestAt}
use Rattle.br_types.proofs.newest.NewestCopies.newest.Goals as goal

pub returns : goal.returns
returns c copies noted = subst (IsNewestAt copies c.args.path.now) (sym (c.copied.ensures ∙ c.get.ensures.value)) (noted c.args.path.now)
