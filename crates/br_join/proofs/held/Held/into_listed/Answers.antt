use Rattle.br_join.proofs.FirstLaws.{all_fronts}
use Rattle.br_join.proofs.held.Held.into_listed.Goals as goal

pub returns-clause-fronts : goal.returns-clause-fronts
returns-clause-fronts c =
    all_fronts c.settle.new.hits.items c.self.inside.fronts _ c.in_ok-settle.ensures.listed c.in_ok-settle.ensures.same c.self.invariant
