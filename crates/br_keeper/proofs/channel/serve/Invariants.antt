use Rattle.br_keeper.specs.Outcomes.{lasting}
use Rattle.br_keeper.specs.Channel.{HasServed, IsLeftByCommits}
use Rattle.br_keeper.proofs.channel.serve.Given as goal

abbrev pub invariant-loop : goal.invariant-loop
invariant-loop g l =
    IsLeftByCommits (lasting g.C.JobStore g.W.VolumeStore) l.fn.keeper l.keeper
    × HasServed l.fn.keeper.list l.keeper.list
