use Rattle.std.proofs.Common.{◌≡◌, ap, sym, ◌∙◌, arith}
use Rattle.std.specs.Option.{option_copied}
use Rattle.br_model.specs.Bootstrap.{Range}
use Rattle.br_match.proofs.RangeLaws.{none_below}
use Rattle.br_match.proofs.admitted.least.Goals as goal

pub returns-in-Some : goal.returns-in-Some
returns-in-Some c = λ n below.
    let end : c.range.inside.low ≡ c.in-Some.range.now.low = ap (λ (r : Range). r.low) c.range.view_is in
    none_below c.args.ranges.now c.in-Some.range.now n c.requires (sym c.first.ensures.value ∙ ap option_copied c.in-Some.is) (omega (arith, end, below))
