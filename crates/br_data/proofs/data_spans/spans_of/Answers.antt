use Rattle.std.proofs.Common.{ℕ, List, subst}
use Rattle.std.specs.Prelude.{IfOk}
use Rattle.br_model.specs.Block.{fragments_of}
use Rattle.br_data.specs.DataSpans.{AreDataIn}
use Rattle.br_data.proofs.SpanLaws.{same_block}
use Rattle.br_data.proofs.data_spans.spans_of.Goals as goal

pub returns : goal.returns
returns c =
    subst (λ (bytes : List ℕ). IfOk c.spans_in.result (λ spans. AreDataIn bytes spans.items (fragments_of bytes)))
    (same_block c.args.bytes.now c.in-Ok.block c.requires c.in-Ok.ensures) c.spans_in.ensures
