use Rattle.std.proofs.Common.{List, sym, ap, subst, ◌∙◌}
use Rattle.std.specs.List.Sorted.{IsPermutation}
use Rattle.br_model.specs.Bootstrap.{Range}
use Rattle.br_model.specs.Text.{is_empty}
use Rattle.br_piece.proofs.CountLaws.{count_of_ranges, got_any, got_sorted}
use Rattle.br_piece.proofs.file_counts.got_by.Goals as goal

pub returns-then-is_empty : goal.returns-then-is_empty
returns-then-is_empty c =
    c.count_all.ensures ∙ got_any c.args.group.now c.args.keys.now (ap is_empty c.requires.own ∙ sym c.is_empty.ensures ∙ c.if-is_empty.true)

pub returns : goal.returns
returns c =
    c.count_by_ranges.ensures ∙ count_of_ranges c.args.group.now c.args.keys.now c.deref.ensures.value
    ∙ got_sorted c.args.group.now c.args.keys.now c.in_ok-ranges.ranges.items (ap is_empty c.requires.own ∙ sym c.is_empty.ensures ∙ c.if-is_empty.false)
    (subst (λ (rs : List Range). IsPermutation rs c.in_ok-ranges.ranges.items) (sym c.requires.own) c.in_ok-ranges.ensures.same)
