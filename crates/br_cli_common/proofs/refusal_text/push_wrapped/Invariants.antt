use Rattle.std.proofs.Common.{◌≡◌, ◌++◌, ◌+◌, ◌≤◌, length}
use Rattle.br_cli_common.specs.RefusalText.{wrapped}
use Rattle.br_cli_common.proofs.refusal_text.push_wrapped.Given as goal

abbrev pub invariant-loop-byte : goal.invariant-loop-byte
invariant-loop-byte l = record {
  so_far : l.text.items ++ wrapped l.column l.left ≡ l.initial.text.items ++ wrapped 9 l.words;
  room : l.column + length l.left ≤ length l.words + 9;
  left : length l.left ≤ length l.words;
}

abbrev pub decreases-loop-byte : goal.decreases-loop-byte
decreases-loop-byte l = length l.left
