use Rattle.br_model.specs.Meaning.{hits_of}
use Rattle.std.proofs.Common.{[]}
use Rattle.br_join.proofs.FrontLaws.{known_first, none_known}
use Rattle.br_join.proofs.fronts.known_of.Goals as goal

pub returns : goal.returns
returns c = known_first c.args.hits.now c.with_noted.result (c.with_noted.ensures (hits_of []) (none_known c.no_files.result c.no_files.ensures))
