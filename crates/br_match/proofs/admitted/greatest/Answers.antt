use Rattle.std.proofs.Common.{◌≡◌, ap, sym, ◌∙◌, arith}
use Rattle.std.specs.Option.{option_copied}
use Rattle.br_model.specs.Bootstrap.{Range}
use Rattle.br_match.proofs.RangeLaws.{none_above}
use Rattle.br_match.proofs.admitted.greatest.Goals as goal

pub returns-in-Some : goal.returns-in-Some
returns-in-Some c = λ n above fits.
    let end : c.range.inside.high ≡ c.in-Some.range.now.high = ap (λ (r : Range). r.high) c.range.view_is in
    none_above c.args.ranges.now c.in-Some.range.now n c.requires (sym c.last.ensures.value ∙ ap option_copied c.in-Some.is) (omega (arith, end, above))
