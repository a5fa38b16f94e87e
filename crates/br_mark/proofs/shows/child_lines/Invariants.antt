use Rattle.std.proofs.Common.{◌≡◌, take, flat_map}
use Rattle.br_tree.specs.Seen.{seen_child}
use Rattle.br_mark.specs.Seen.{signed_line}
use Rattle.br_mark.proofs.shows.child_lines.Given as goal

abbrev pub invariant-loop-child : goal.invariant-loop-child
invariant-loop-child l = l.text.items ≡ flat_map (λ c. signed_line (seen_child c)) (take l.child-index l.children)
