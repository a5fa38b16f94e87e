use Rattle.std.proofs.Common.{rules, ◌≡◌, ◌++◌, ◌∙◌, ap, get_or, OnOk, subst, ℤ, pos, w64, to_z, of_z}
use Rattle.br_model.specs.Number.{write_number}
use Rattle.br_attr.proofs.WritingLaws.{stat_joined}
use Rattle.br_attr.proofs.stat.Stat.push.Goals as goal

pub returns : goal.returns
returns c =
    let text = c.args.text.now.items in
    let n : ℤ = get_or c.numbers-numbers.result 0 (pos 0) in
    let as_it_is : to_z w64 (of_z w64 n) ≡ n = search rules in
    let first = c.in_ok-write_number.ensures.ok ∙ ap (λ m. text ++ write_number m) as_it_is in
    let same = stat_joined c.args.self.now c.numbers-numbers.result text c.write_number.new.text.items c.numbers-numbers.ensures first in
    subst (λ t. OnOk c.push_numbers.result (c.push_numbers.new.text.items ≡ t)) same c.push_numbers.ensures
