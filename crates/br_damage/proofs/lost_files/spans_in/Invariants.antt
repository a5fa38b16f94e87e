use Rattle.std.proofs.Common.{◌≡◌, take, flat_map}
use Rattle.br_damage.specs.LostFiles.{spans_of}
use Rattle.br_damage.proofs.lost_files.spans_in.Given as goal

abbrev pub invariant-loop-group : goal.invariant-loop-group
invariant-loop-group l = l.spans.items ≡ flat_map spans_of (take l.group-index l.groups)
