use Rattle.std.proofs.Common.{◌≡◌, ℕ, ◌+◌, List, [], ◌∷◌, ◌++◌, take, ap, sym, ◌∙◌, append_assoc, append-nil}
use Rattle.br_model.specs.File.{Item}
use Rattle.br_sink.specs.Delivery.{items_in}
use Rattle.br_sink.proofs.DeliveryLaws.{items_file, items_fault, items_one_more}
use Rattle.br_sink.proofs.left_out.add_files.Goals as goal
use Rattle.br_sink.proofs.left_out.add_files.Goals.{in-File, in_default}

pub loop-outcome-preserved : goal.loop-outcome-preserved
loop-outcome-preserved c =
    let os = c.args.outcomes.now in
    let i : ℕ = c.loop-outcome.outcome-index in
    let o = c.loop-outcome-item.result in
    let first = c.args.files.now.items in
    let before : List Item = items_in (take i os) in
    let one_more : items_in (take (i + 1) os) ≡ before ++ items_in (o ∷ []) = items_one_more os i o c.loop-outcome-test.true (sym c.loop-outcome-item.is) in
    elim c.match-outcome.branch [
      | in-File w ↦
          let item : Item = w.in-File.item in
          let more : items_in (take (i + 1) os) ≡ before ++ item ∷ [] = one_more ∙ ap (λ (is : List Item). before ++ is) (items_file o item w.in-File.is) in
          rw w.files-is
          (w.and.ensures ∙ ap (λ (is : List Item). is ++ item ∷ []) c.loop-outcome.invariant ∙ append_assoc first before (item ∷ []) ∙ sym (ap (λ (is : List Item). first ++ is) more))
      | in_default w ↦
          let same : items_in (take (i + 1) os) ≡ before =
          one_more ∙ ap (λ (is : List Item). before ++ is) (items_fault o w.in_default.field-0 w.in_default.field-1 w.in_default.is) ∙ append-nil before in
          rw w.files-is (c.loop-outcome.invariant ∙ sym (ap (λ (is : List Item). first ++ is) same))
    ]
