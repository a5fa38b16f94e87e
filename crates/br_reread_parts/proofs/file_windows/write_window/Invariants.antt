use Rattle.std.proofs.Common.{◌≡◌, ◌+◌, length, take}
use Rattle.std.specs.Io.KnownBytes.{Appends}
use Rattle.br_reread_parts.specs.Windows.{data_bytes}
use Rattle.br_reread_parts.proofs.file_windows.write_window.Given as goal

-- the data so far were written
abbrev pub invariant-loop-found : goal.invariant-loop-found
invariant-loop-found g l = record {
  written : Appends (g.W.Write.contents l.initial.writer) (g.W.Write.contents l.writer) (data_bytes (take l.found-index l.window));
  left : l.left + length (data_bytes (take l.found-index l.window)) ≡ l.initial.left;
}
