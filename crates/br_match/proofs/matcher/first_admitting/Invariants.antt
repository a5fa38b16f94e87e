use Rattle.std.proofs.Common.{◌≡◌, drop, map}
use Rattle.br_match.specs.Groups.{first_admitting}
use Rattle.br_match.proofs.matcher.first_admitting.Given as goal

abbrev pub invariant-loop-matcher : goal.invariant-loop-matcher
invariant-loop-matcher l =
    first_admitting l.own l.index l.stream (map (λ m. m.now) (drop l.matcher-index l.near)) ≡ first_admitting l.own l.index l.stream (map (λ m. m.now) l.near)
