use Rattle.std.proofs.Common.{◌≡◌, ◌++◌, take, flat_map}
use Rattle.br_cli_common.specs.RefusalText.{refusal_text}
use Rattle.br_cli_common.proofs.refusal_text.push_refusals.Given as goal

abbrev pub invariant-loop-refusal : goal.invariant-loop-refusal
invariant-loop-refusal l = l.text.items ≡ l.initial.text.items ++ flat_map refusal_text (take l.refusal-index l.refusals)
