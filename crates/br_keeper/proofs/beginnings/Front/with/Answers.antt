use Rattle.std.proofs.Common.{rules, ◌≡◌, ◌+◌, ◌++◌, ◌∷◌, [], sym, ◌∙◌, ap, length, arith}
use Rattle.br_model.specs.Job.{JobRow}
use Rattle.br_keeper.proofs.AddingLaws.{adds_moves}
use Rattle.br_keeper.proofs.BeginningLaws.{front_of_added}
use Rattle.br_keeper.proofs.beginnings.Front.with.Goals as goal

pub compare_exchange-requires : goal.compare_exchange-requires
compare_exchange-requires c =
    let h = c.requires.book in
    let next = c.requires.next in
    let offer = c.plain-offer.ensures in
    let word = sym (ap (λ w. w.book) h) in
    let counted = c.self.invariant.0 in
    let key : c.args.pen.now.nib.key ≡ c.self.inside.count + 2 = omega (arith, next.key_is, counted, ap (λ b. length b.log) c.self.view_is) in (
      ap (λ w. w.tracked) h,
      ap (λ s. s.book) c.again-seen.ensures ∙ ap (λ b. b.book) c.self.view_is ∙ word,
      next.book_is ∙ word,
      offer.0,
      rw (ap (λ w. w.key) h, offer.1, offer.3)
          (adds_moves c.again-seen.result.log c.args.rows.now c.self.inside.count c.args.pen.now.nib (ap (λ s. length s.log) c.again-seen.ensures ∙ sym counted) next.right_is key),
    )

pub invariant_of-result : goal.invariant_of-result
invariant_of-result c =
    let new : c.compare_exchange.new.seen.log ≡ c.self.inside.seen.log ++ c.args.rows.now ∷ [] = search rules in
    front_of_added c.self.inside.count c.self.inside.seen.log c.compare_exchange.new.seen.log c.args.rows.now c.behind-rows.inside.id c.self.invariant.0 new
    (ap (λ (r : JobRow). r.id) (c.behind-rows.view_is ∙ c.row.ensures.same))
