use Rattle.std.proofs.Common.{◌++◌, map, take, flat_map}
use Rattle.br_model.specs.Manifest.{file_line}
use Rattle.br_join.specs.Outcome.{restored}
use Rattle.br_sink.specs.ManifestParts.{WritesPart}
use Rattle.br_sink.proofs.manifest_parts.write_lines.Given as goal

-- the lines so far are written, except for the last part
abbrev pub invariant-loop-key : goal.invariant-loop-key
invariant-loop-key g l =
    WritesPart (g.W.Write.contents l.initial.writer) (g.W.Write.contents l.writer) l.text.items
    (l.initial.text.items ++ flat_map file_line (map restored (take l.key-index l.outcomes)))
