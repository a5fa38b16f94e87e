use Rattle.std.proofs.Common.{◌≡◌, take}
use Rattle.br_keeper.specs.Vouching.{new_entries}
use Rattle.br_keeper.proofs.vouched_lengths.new_entries.Given as goal

-- the entries so far
abbrev pub invariant-loop-start : goal.invariant-loop-start
invariant-loop-start l = l.entries.items ≡ new_entries l.vouches (take l.start-index l.starts)
