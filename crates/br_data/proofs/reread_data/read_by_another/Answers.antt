use Rattle.std.proofs.Common.{sym, subst}
use Rattle.br_data.specs.KnownBlocks.{IsKnown}
use Rattle.br_data.proofs.reread_data.read_by_another.Goals as goal

pub returns-in-Err-clause-known : goal.returns-in-Err-clause-known
returns-in-Err-clause-known g c = λ d at. subst (IsKnown (g.D.Drive.shows d)) (sym c.new.ensures) tt
