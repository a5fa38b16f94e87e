use Rattle.std.proofs.Common.{◌≡◌, take, eqb, arith}
use Rattle.std.specs.List.{before_first}
use Rattle.std.proofs.lemmas.Grind.{common_steps}
use Rattle.br_attr.proofs.ReadingLaws.{none_before}
use Rattle.br_attr.proofs.attr.before_nul.Goals as goal

pub returns-in-None-clause-no_nul : goal.returns-in-None-clause-no_nul
returns-in-None-clause-no_nul c =
    let text = c.args.text.now in
    let same : text ≡ before_first (λ b. eqb b 0) text = grind (arith, common_steps) in
    rw same (none_before (λ b. eqb b 0) text)

pub returns-in-Some-clause-no_nul : goal.returns-in-Some-clause-no_nul
returns-in-Some-clause-no_nul c =
    let text = c.args.text.now in
    let same : take c.in-Some.i text ≡ before_first (λ b. eqb b 0) text = grind (arith, common_steps) in
    rw same (none_before (λ b. eqb b 0) text)
