use Rattle.std.proofs.Common.{◌≡◌, take, flat_map}
use Rattle.br_tree.specs.Seen.{seen_path}
use Rattle.br_mark.specs.Seen.{flagged_line}
use Rattle.br_mark.proofs.shows.found_lines.Given as goal

abbrev pub invariant-loop-path : goal.invariant-loop-path
invariant-loop-path l = l.text.items ≡ flat_map (λ p. flagged_line (seen_path p)) (take l.path-index l.found)
