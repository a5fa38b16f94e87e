use Rattle.std.proofs.Common.{sym, ◌∙◌}
use Rattle.br_types.proofs.newest.NewestCopies.has_newer.Goals as goal

pub returns : goal.returns
returns c copies noted = c.is_beaten.ensures ∙ sym ((c.newest.ensures copies noted).beats c.args.key)
