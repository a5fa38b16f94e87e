use Rattle.br_types.proofs.BlankLaws.{first_blank}
use Rattle.br_mark.proofs.command.blank_in.Goals as goal

pub returns : goal.returns
returns c = first_blank c.args.text.now _ c.find_byteset.ensures
