use Rattle.std.proofs.Common.{sym, ap, ◌∙◌}
use Rattle.br_model.specs.Job.{Span}
use Rattle.br_history.proofs.RowLaws.{numbered_more, numbered_not, numbered_all}
use Rattle.br_history.proofs.rows.are_numbered.Goals as goal

pub returns-then-span-i : goal.returns-then-span-i
returns-then-span-i c =
    sym (numbered_not c.args.spans.now c.loop-i.i c.index-spans-i.result c.loop-i-test.true c.index-spans-i.is
    (λ e. c.if-span-i.true (ap (λ (s : Span). s.vol_index) c.span.view_is ∙ e)))

pub loop-i-preserved : goal.loop-i-preserved
loop-i-preserved c =
    numbered_more c.args.spans.now c.loop-i.i c.index-spans-i.result c.loop-i-test.true c.index-spans-i.is
    (ap (λ (s : Span). s.vol_index) (sym c.span.view_is) ∙ c.if-span-i.false) c.loop-i.invariant

pub returns : goal.returns
returns c = sym (numbered_all c.args.spans.now c.loop-i.i c.loop-i-test.false c.loop-i.invariant)
