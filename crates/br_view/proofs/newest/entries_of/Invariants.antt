use Rattle.std.proofs.Common.{◌≡◌, ◌++◌, map, filter_map}
use Rattle.br_view.specs.Newest.{copy_of}
use Rattle.br_view.specs.Shown.{shown, shown_pair}
use Rattle.br_view.proofs.newest.entries_of.Given as goal

-- the entries so far, and those of the copies that are left
abbrev pub invariant-loop-copy : goal.invariant-loop-copy
invariant-loop-copy l = map shown_pair l.entries.items ++ filter_map (λ e. shown (copy_of e.1)) l.copy-iterator ≡ filter_map (λ e. shown (copy_of e.1)) l.kept.entries
