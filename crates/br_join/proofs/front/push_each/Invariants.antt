use Rattle.std.proofs.Common.{◌≡◌, ◌+◌, ◌++◌, length, take}
use Rattle.br_records.specs.Records.{fragments}
use Rattle.br_join.specs.Plain.{plain_bytes}
use Rattle.br_join.proofs.front.push_each.Given as goal

-- the hits so far were added
abbrev pub invariant-loop-hit : goal.invariant-loop-hit
invariant-loop-hit l =
    (l.front.read ≡ l.initial.front.read ++ plain_bytes (fragments (take l.hit-index l.hits)))
    × (l.front.count ≡ l.initial.front.count + length (take l.hit-index l.hits))
