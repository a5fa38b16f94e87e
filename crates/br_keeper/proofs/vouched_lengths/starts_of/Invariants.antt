use Rattle.std.proofs.Common.{◌≡◌, take}
use Rattle.br_keeper.specs.Vouching.{starts_of}
use Rattle.br_keeper.proofs.vouched_lengths.starts_of.Given as goal

-- the lengths so far
abbrev pub invariant-loop-place : goal.invariant-loop-place
invariant-loop-place l = l.starts.items ≡ starts_of l.vouches l.jobs (take l.place-index l.places)
