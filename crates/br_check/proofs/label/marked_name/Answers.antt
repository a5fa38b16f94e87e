use Rattle.std.proofs.Common.{◌≡◌, ◌∙◌, Some, List, ℕ, ap, bytes_eq, sym, take, true}
use Rattle.br_check.specs.Label.{before_zero, mark}
use Rattle.br_check.proofs.label.marked_name.Goals as goal

pub returns-then-is_mark : goal.returns-then-is_mark
returns-then-is_mark c =
    let e : bytes_eq (take 21 c.args.label.now) mark ≡ true = ap (λ (front : List ℕ). bytes_eq front mark) (sym c.front.ensures) ∙ sym c.is_mark.ensures ∙ c.if-is_mark.true in
    rw e (ap Some (c.before_zero.ensures ∙ ap before_zero c.rest.ensures))
