use Rattle.std.proofs.Common.{◌≡◌, ◌+◌, ◌≤◌, ◌<◌, ◌^◌, true, length, []}
use Rattle.std.specs.List.{list_all}
use Rattle.std.specs.Str.Lines.{lines}
use Rattle.br_model.specs.BootstrapText.{is_group, read_lines}
use Rattle.br_bsr.proofs.read.groups_in.Given as goal

abbrev pub invariant-loop-rest : goal.invariant-loop-rest
invariant-loop-rest l = record {
  reads : read_lines 1 [] (lines l.text) ≡ read_lines (l.number + 1) l.groups.items (lines l.rest);
  counts : l.number + length l.rest ≤ length l.text;
  few : length l.groups.items < 2 ^ 32;
  valid : list_all is_group l.groups.items ≡ true;
}

abbrev pub decreases-loop-rest : goal.decreases-loop-rest
decreases-loop-rest l = length l.rest
