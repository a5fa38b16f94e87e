use Rattle.std.proofs.Common.{ℕ, List, filter, ap, ◌∙◌}
use Rattle.std.proofs.lemmas.List.{take_all}
use Rattle.br_model.specs.Bootstrap.{Group}
use Rattle.br_match.specs.Groups.{admits_block}
use Rattle.br_match.proofs.NearLaws.{admitting_around}
use Rattle.br_match.proofs.matchers.near.Goals as goal

pub returns : goal.returns
returns c =
    let l = c.loop-matcher in
    let around = c.around-around.result.now in
    l.invariant ∙ ap (λ (gs : List (ℕ × Group)). filter (λ (m : ℕ × Group). admits_block m.1 c.args.addr c.args.session.now) gs) (take_all l.matcher-index around c.loop-matcher-test.false)
    ∙ admitting_around c.args.addr c.args.session.now c.args.matchers.now around c.around-around.ensures
