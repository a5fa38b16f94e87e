use Rattle.std.proofs.Common.{◌≡◌, ◌++◌}
use Rattle.br_types.proofs.names.copied.Given as goal

-- the entries so far, and those that are left
abbrev pub invariant-loop-key : goal.invariant-loop-key
invariant-loop-key l = l.copy.entries ++ l.key-iterator ≡ l.paths.entries
