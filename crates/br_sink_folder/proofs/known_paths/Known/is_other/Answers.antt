use Rattle.std.proofs.Common.{not, ap, ◌∙◌}
use Rattle.br_sink_folder.proofs.known_paths.Known.is_other.Goals as goal

pub returns : goal.returns
returns c = λ paths has. ap not (c.contains.ensures ∙ has c.args.path.now)
