use Rattle.std.proofs.Common.{◌≡◌, length}
use Rattle.br_data.specs.BodyParts.{joined}
use Rattle.br_data.proofs.file_bytes.let_go_all.Given as goal

-- for contracts the parts have the same bytes
abbrev pub invariant-loop-i : goal.invariant-loop-i
invariant-loop-i l = record {
  same : joined l.parts ≡ joined l.initial.parts;
  long : length l.parts ≡ length l.initial.parts;
}
