use Rattle.std.proofs.Common.{ℕ, List, ◌++◌, sym, subst, ap, ◌∙◌}
use Rattle.br_model.specs.Bootstrap.{Range}
use Rattle.br_damage.specs.LostFiles.{span_of}
use Rattle.br_damage.specs.LeftIndexes.{LeavesOf, StayValid, indexes_without}
use Rattle.br_damage.specs.declared.lost_files.Span.{Span}
use Rattle.br_damage.proofs.IndexLaws.{leaves_of}
use Rattle.br_damage.proofs.ValidLaws.{stay_valid}
use Rattle.br_damage.proofs.left_indexes.push_left.Goals as goal

pub returns-clause-left : goal.returns-clause-left
returns-clause-left c =
    let lost = c.args.lost.now.spans.items in
    let near = c.before-near.result.now in
    let s = c.args.session in
    let r = c.args.range in
    let old = c.args.left.now.items in
    let files = c.span_of-files.ensures in
    let is =
    c.in_ok-push_without.ensures
    ∙ ap (λ (f : Span). old ++ indexes_without c.place_of.result f.low f.end near) files
    ∙ ap (λ (base : ℕ). old ++ indexes_without base (span_of s r).low (span_of s r).end near) c.place_of.ensures in
    subst (λ (new : List Range). LeavesOf lost s r old new) (sym is)
    (leaves_of lost near s r old c.before-near.ensures.rising
    (λ p low lt. c.before-near.ensures.same p (rw files lt) ∙ c.from.ensures.same p (rw files low)))

pub returns-clause-valid : goal.returns-clause-valid
returns-clause-valid c =
    let near = c.before-near.result.now in
    let s = c.args.session in
    let r = c.args.range in
    let old = c.args.left.now.items in
    let is =
    c.in_ok-push_without.ensures
    ∙ ap (λ (f : Span). old ++ indexes_without c.place_of.result f.low f.end near) c.span_of-files.ensures
    ∙ ap (λ (base : ℕ). old ++ indexes_without base (span_of s r).low (span_of s r).end near) c.place_of.ensures in
    subst (λ (new : List Range). StayValid r old new) (sym is) (stay_valid near s r old)
