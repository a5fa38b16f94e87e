use Rattle.std.proofs.Common.{ap, sym, ◌∙◌}
use Rattle.br_keeper.proofs.AddingLaws.{cell_moves}
use Rattle.br_keeper.proofs.beginnings.Front.next_cell.Goals as goal

pub compare_exchange-found-requires : goal.compare_exchange-found-requires
compare_exchange-found-requires c =
    let h = c.requires.book in
    let offer = c.plain-offer.ensures in
    let pen = c.no_pen-pen.ensures in
    let book = ap (λ s. s.book) c.again-seen.ensures ∙ ap (λ b. b.book) c.self.view_is ∙ sym (ap (λ w. w.book) h) in (
      ap (λ w. w.tracked) h,
      book,
      pen.0 ∙ book,
      offer.0,
      rw (ap (λ w. w.key) h, pen.1, offer.3) (cell_moves c.again-seen.result.log c.plain-offer.result.ask c.args.count),
    )
