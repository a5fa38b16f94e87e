use Rattle.std.proofs.Common.{◌≡◌, ◌-◌, ℕ, List, [], length, take, drop, ap, ◌∙◌, arith}
use Rattle.std.specs.Str.Lines.{strip_carriage_return}
use Rattle.std.proofs.lemmas.Grind.{common_steps}
use Rattle.br_bsr.proofs.LineLaws.{first_ended, first_open}
use Rattle.br_bsr.proofs.scan.first_line.Goals as goal

nothing_behind : (text : List ℕ) → take (length text - length text) (drop (length text) text) ≡ []
nothing_behind text = grind (arith, common_steps)

pub returns-in-Some-clause-first : goal.returns-in-Some-clause-first
returns-in-Some-clause-first c =
    first_ended c.args.text.now c.without_return.result.now c.in-Some.rest.now c.in-Some.ensures.0
    (c.without_return.ensures ∙ ap strip_carriage_return c.in-Some.ensures.1) c.in-Some.ensures.2

pub returns-in-None-clause-first : goal.returns-in-None-clause-first
returns-in-None-clause-first c = first_open c.args.text.now _ c.in-None.ensures.0 c.requires (nothing_behind c.args.text.now)
