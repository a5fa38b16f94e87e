use Rattle.std.proofs.Common.{None, subst, sym}
use Rattle.br_join.specs.Joining.{Joining, IsMadeFor}
use Rattle.br_join.proofs.ReadyLaws.{begun_is_made}
use Rattle.br_test_pool.proofs.streams.joiner_of.Goals as goal

pub returns : goal.returns
returns c = subst (λ (j : Joining). IsMadeFor c.args.pieces.now j.pieces) (sym c.in_ok-joiner.ensures) (begun_is_made c.args.pieces.now None)
