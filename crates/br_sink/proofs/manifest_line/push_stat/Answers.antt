use Rattle.std.proofs.Common.{rules, ◌≡◌, ◌++◌, ◌∙◌, ap, get_or, OnOk, subst, ℤ, pos, w64, to_z, of_z}
use Rattle.br_model.specs.Text.{signed_decimal}
use Rattle.br_sink.proofs.LineLaws.{stat_joined}
use Rattle.br_sink.proofs.manifest_line.push_stat.Goals as goal

pub returns : goal.returns
returns c =
    let text = c.args.text.now.items in
    let n : ℤ = get_or c.numbers_of-numbers.result 0 (pos 0) in
    let as_it_is : to_z w64 (of_z w64 n) ≡ n = search rules in
    let first = c.in_ok-push_signed.ensures ∙ ap (λ m. text ++ signed_decimal m) as_it_is in
    let same = stat_joined c.args.stat.now c.numbers_of-numbers.result text c.push_signed.new.text.items c.numbers_of-numbers.ensures first in
    subst (λ t. OnOk c.push_more_numbers.result (c.push_more_numbers.new.text.items ≡ t)) same c.push_more_numbers.ensures
