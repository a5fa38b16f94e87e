use Rattle.br_types.proofs.SpaceLaws.{first_place, first_within}
use Rattle.br_types.proofs.bytes.place_of.Goals as goal

pub returns-clause-place : goal.returns-clause-place
returns-clause-place c = first_place c.args.byte c.args.text.now _ c.find_byte.ensures

pub returns-clause-inside : goal.returns-clause-inside
returns-clause-inside c = first_within c.args.byte c.args.text.now _ c.find_byte.ensures
