use Rattle.std.proofs.Common.{◌≡◌, take, map, filter, ℕ}
use Rattle.br_model.specs.Bootstrap.{Group}
use Rattle.br_match.specs.Groups.{admits_block}
use Rattle.br_match.proofs.matchers.near.Given as goal

abbrev pub invariant-loop-matcher : goal.invariant-loop-matcher
invariant-loop-matcher l = map (λ m. m.now) l.near.items ≡ filter (λ (m : ℕ × Group). admits_block m.1 l.addr l.session) (take l.matcher-index l.around)
