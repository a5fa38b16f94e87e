use Rattle.std.proofs.Common.{◌∙◌}
use Rattle.std.specs.Prelude.{codes}
use Rattle.clap.specs.Matches.{found_of}
use Rattle.clap.proofs.WalkLemmas.{raw_values-rows}
use Rattle.br_cli_args.proofs.restore_words.values_found.Goals as goal

pub returns : goal.returns
returns c = c.get_strs.ensures ∙ raw_values-rows (found_of c.args.found.now) (codes "pattern")
