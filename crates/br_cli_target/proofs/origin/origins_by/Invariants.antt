use Rattle.std.proofs.Common.{◌≡◌, take, map}
use Rattle.br_cli_target.specs.Origins.{origin_of}
use Rattle.br_cli_target.proofs.origin.origins_by.Given as goal

-- the files so far, with the groups that are asked for each
abbrev pub invariant-loop-key : goal.invariant-loop-key
invariant-loop-key l = (l.asking.groups.now ≡ l.groups) × (l.origins.items ≡ map (origin_of l.groups l.searched l.hits) (take l.key-index l.keys))
