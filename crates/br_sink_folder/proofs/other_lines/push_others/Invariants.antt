use Rattle.std.proofs.Common.{◌≡◌, ◌++◌, map, take}
use Rattle.std.specs.Prelude.{string_bytes}
use Rattle.br_sink_folder.specs.OtherLines.{other_lines}
use Rattle.br_sink_folder.proofs.other_lines.push_others.Given as goal

-- the lines of the paths so far
abbrev pub invariant-loop-path : goal.invariant-loop-path
invariant-loop-path l = l.text.items ≡ l.initial.text.items ++ other_lines (map (λ p. string_bytes p) (take l.path-index l.paths))
