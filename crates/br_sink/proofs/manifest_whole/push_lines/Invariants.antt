use Rattle.std.proofs.Common.{◌≡◌, ◌++◌, map, take, flat_map}
use Rattle.br_model.specs.Manifest.{file_line}
use Rattle.br_join.specs.Outcome.{restored}
use Rattle.br_sink.proofs.manifest_whole.push_lines.Given as goal

abbrev pub invariant-loop-key : goal.invariant-loop-key
invariant-loop-key l = l.text.items ≡ l.initial.text.items ++ flat_map file_line (map restored (take l.key-index l.outcomes))
