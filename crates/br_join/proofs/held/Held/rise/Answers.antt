use Rattle.br_model.specs.Meaning.{hits_of}
use Rattle.br_join.proofs.held.Held.rise.Goals as goal

pub invariant_of-self : goal.invariant_of-self
invariant_of-self c = c.rise.ensures (hits_of c.self.inside.hits.items) c.self.invariant
