use Rattle.std.proofs.Common.{◌≡◌, ◌++◌, take}
use Rattle.br_sink.specs.LeftOutLines.{left_lines}
use Rattle.br_sink.proofs.left_out_lines.push_left.Given as goal

-- the lines of the paths so far
abbrev pub invariant-loop-path : goal.invariant-loop-path
invariant-loop-path l = l.text.items ≡ l.initial.text.items ++ left_lines l.number (take l.path-index l.paths)
