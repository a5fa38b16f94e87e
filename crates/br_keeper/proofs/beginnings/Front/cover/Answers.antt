use Rattle.std.proofs.Common.{◌≡◌, ◌+◌, ◌≤◌, List, ◌∙◌, ap, subst, sym, length, arith}
use mathlib.Core.List.{IsPrefix}
use Rattle.br_model.specs.Job.{JobRows}
use Rattle.br_keeper.proofs.AddingLaws.{whole_moves}
use Rattle.br_keeper.proofs.BeginningLaws.{prefix_within}
use Rattle.br_keeper.proofs.beginnings.Front.cover.Goals as goal

pub compare_exchange-requires : goal.compare_exchange-requires
compare_exchange-requires c =
    let h = c.requires.book in
    let next = c.requires.next in
    let offer = c.plain-offer.ensures in
    let word = sym (ap (λ w. w.book) h) in
    let counted = c.self.invariant.0 in
    let key : c.args.pen.now.nib.key ≡ c.self.inside.count + 2 = omega (arith, next.key_is, counted, ap (λ b. length b.log) c.self.view_is) in (
      ap (λ w. w.tracked) h,
      c.learn.ensures.0 ∙ ap (λ s. s.book) c.again-seen.ensures ∙ ap (λ b. b.book) c.self.view_is ∙ word,
      next.book_is ∙ word,
      offer.0,
      rw (ap (λ w. w.key) h, offer.3)
          (whole_moves c.learn.new.self.log c.plain-offer.result.ask c.self.inside.count c.args.pen.now.nib next.right_is key),
    )

pub returns-clause-next : goal.returns-clause-next
returns-clause-next c =
    let next = c.requires.next in
    let step = c.compare_exchange.ensures in
    record { book_is = step.5 ∙ next.book_is; right_is = ap (λ n. n.right) step.7.1 ∙ next.right_is; key_is = ap (λ n. n.key) step.7.1 ∙ next.key_is }

pub returns-clause-begins : goal.returns-clause-begins
returns-clause-begins c =
    let both = c.learn.new.self.log in
    let final = c.compare_exchange.new.seen.log in
    let step = c.compare_exchange.ensures in
    let this : IsPrefix c.args.self.now.log both = subst (λ (l : List JobRows). IsPrefix l both) (ap (λ s. s.log) c.again-seen.ensures ∙ ap (λ b. b.log) c.self.view_is) c.learn.ensures.2 in
    let that : IsPrefix c.args.other.now.log both = subst (λ (l : List JobRows). IsPrefix l both) (ap (λ b. b.log) c.other.view_is) c.learn.ensures.3 in
    let few : length final ≤ length c.args.self.now.log = omega (arith, step.7.0, c.self.invariant.0, ap (λ b. length b.log) c.self.view_is) in
    prefix_within c.args.other.now.log c.args.self.now.log both final that this step.6 few
