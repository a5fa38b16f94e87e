use Rattle.std.proofs.Common.{ap, ◌∙◌}
use Rattle.br_data.specs.KeptData.{Kept}
use Rattle.br_reread_parts.specs.Windows.{data_bytes}
use Rattle.br_reread_parts.proofs.WindowLaws.{flat_more}
use Rattle.br_reread_parts.proofs.windows.push_data.Goals as goal

pub returns : goal.returns
returns c = ap data_bytes c.in_ok-push.ensures.items ∙ flat_more (λ (d : Kept). d.bytes) c.args.window.now.items c.args.found
