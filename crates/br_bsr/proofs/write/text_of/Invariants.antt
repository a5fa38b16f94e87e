use Rattle.std.proofs.Common.{◌≡◌, take, flat_map}
use Rattle.br_model.specs.Bootstrap.{group_text}
use Rattle.br_bsr.proofs.write.text_of.Given as goal

abbrev pub invariant-loop-group : goal.invariant-loop-group
invariant-loop-group l = l.text.items ≡ flat_map group_text (take l.group-index l.groups)
