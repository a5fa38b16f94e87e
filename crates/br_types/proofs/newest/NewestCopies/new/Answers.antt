use Rattle.br_types.proofs.NewestLaws.{none_noted}
use Rattle.br_types.proofs.newest.NewestCopies.new.Goals as goal

pub returns : goal.returns
returns c path = rw c.new.ensures.empty (none_noted path)
