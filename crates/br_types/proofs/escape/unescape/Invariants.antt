use Rattle.std.proofs.Common.{◌≡◌, length}
use Rattle.br_types.specs.Escape.{unescaped}
use Rattle.br_types.proofs.EscapeLaws.{behind}
use Rattle.br_types.proofs.escape.unescape.Given as goal

abbrev pub invariant-loop-bytes : goal.invariant-loop-bytes
invariant-loop-bytes l = unescaped l.text ≡ behind l.bytes.items (unescaped l.left)

abbrev pub decreases-loop-bytes : goal.decreases-loop-bytes
decreases-loop-bytes l = length l.left
