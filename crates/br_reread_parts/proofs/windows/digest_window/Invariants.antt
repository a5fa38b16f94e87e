use Rattle.std.proofs.Common.{◌≡◌, ◌++◌, take}
use Rattle.br_reread_parts.specs.Windows.{data_bytes}
use Rattle.br_reread_parts.proofs.windows.digest_window.Given as goal

-- the data so far were digested
abbrev pub invariant-loop-found : goal.invariant-loop-found
invariant-loop-found l = l.reading ≡ l.initial.reading ++ data_bytes (take l.found-index l.window)
