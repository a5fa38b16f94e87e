use Rattle.std.proofs.Common.{◌≡◌, take}
use Rattle.br_reread_parts.specs.Windows.{data_bytes}
use Rattle.br_reread_parts.proofs.windows.share_window.Given as goal

-- the data so far are shared
abbrev pub invariant-loop-found : goal.invariant-loop-found
invariant-loop-found l = data_bytes l.shared.items ≡ data_bytes (take l.found-index l.window)
