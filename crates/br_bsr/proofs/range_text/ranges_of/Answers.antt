use Rattle.std.proofs.Common.{Ok, sym, ap, ◌∙◌}
use Rattle.std.specs.List.{slice_split}
use Rattle.br_model.specs.BootstrapText.{is_comma, read_items}
use Rattle.br_bsr.specs.Statement.{criterion_of, behind}
use Rattle.br_bsr.proofs.ItemLaws.{one_more, refused_here, last_item, last_refused}
use Rattle.br_bsr.proofs.range_text.ranges_of.Goals as goal

pub loop-item-preserved : goal.loop-item-preserved
loop-item-preserved c =
    c.loop-item.invariant
    ∙ one_more (criterion_of c.args.criterion) c.loop-item.ranges.items c.loop-item.rest.now c.in-Some.item.now c.in-Some.items.now c.in-Some-range_of.range
    c.in-Some.ensures.0 c.in-Some.ensures.1 c.in-Some.ensures.2 (sym c.in-Some-range_of.ensures)
    ∙ ap (λ ranges. behind ranges (read_items (criterion_of c.args.criterion) (slice_split is_comma c.in-Some.items.now))) (sym c.in_ok-push.ensures.items)

pub returns : goal.returns
returns c =
    c.loop-item.invariant
    ∙ last_item (criterion_of c.args.criterion) c.loop-item.ranges.items c.loop-item.rest.now c.in-Some-range_of-2.range c.in_default.ensures.0 (sym c.in-Some-range_of-2.ensures)
    ∙ ap Ok (sym c.in_ok-push-2.ensures.items)

pub returns-in_default-range_of : goal.returns-in_default-range_of
returns-in_default-range_of c =
    c.loop-item.invariant
    ∙ refused_here (criterion_of c.args.criterion) c.loop-item.ranges.items c.loop-item.rest.now c.in-Some.item.now 33
    c.in-Some.ensures.0 c.in-Some.ensures.1 (sym c.in_default-range_of.ensures)

pub returns-in_default-range_of-2 : goal.returns-in_default-range_of-2
returns-in_default-range_of-2 c =
    c.loop-item.invariant
    ∙ last_refused (criterion_of c.args.criterion) c.loop-item.ranges.items c.loop-item.rest.now 33 c.in_default.ensures.0 (sym c.in_default-range_of-2.ensures)
