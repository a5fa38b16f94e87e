use Rattle.std.proofs.Common.{ℕ, eqb, sym, subst, ap, ◌∙◌}
use Rattle.br_damage.specs.LeftIndexes.{AreLeft}
use Rattle.br_damage.specs.LostFiles.{ranges_of}
use Rattle.br_damage.proofs.NarrowLaws.{narrowed_away, narrowed_to, none_in}
use Rattle.br_damage.proofs.ValidLaws.{valid_indexes, valid_with}
use Rattle.br_damage.proofs.narrowed_bootstrap.narrowed.Goals as goal

pub returns-then-is_empty-clause-left : goal.returns-then-is_empty-clause-left
returns-then-is_empty-clause-left c =
    let lost = c.args.lost.now.spans.items in
    let left = c.in_ok-indexes.indexes in
    let none = none_in left.items (ap (λ (n : ℕ). eqb n 0) (sym left.ok.0) ∙ sym c.is_empty.ensures ∙ c.if-is_empty.true) in
    narrowed_away lost c.args.group.now c.in-Some.session (sym c.session_of.ensures ∙ c.in-Some.is)
    (subst (AreLeft lost c.in-Some.session (ranges_of c.args.group.now)) none c.in_ok-indexes.ensures.left)

pub returns-clause-left : goal.returns-clause-left
returns-clause-left c =
    let lost = c.args.lost.now.spans.items in
    let left = c.in_ok-indexes.indexes in
    let some = ap (λ (n : ℕ). eqb n 0) (sym left.ok.0) ∙ sym c.is_empty.ensures ∙ c.if-is_empty.false in
    rw c.in_ok-with_indexes.ensures
    (narrowed_to lost c.args.group.now c.in-Some.session left.items (sym c.session_of.ensures ∙ c.in-Some.is) c.in_ok-indexes.ensures.left some)

pub returns-clause-valid : goal.returns-clause-valid
returns-clause-valid c valid =
    let g = c.args.group.now in
    rw c.in_ok-with_indexes.ensures
    (valid_with g c.in_ok-indexes.indexes.items valid (c.in_ok-indexes.ensures.valid (valid_indexes g valid)))
