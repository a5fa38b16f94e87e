use Rattle.std.proofs.Common.{rules, ◌≡◌, ◌+◌, ◌-◌, ◌^◌, Some, None, sym}
use Rattle.std.specs.Prelude.{bytes_eq, min, position}
use Rattle.br_keeper.specs.declared.vouched_lengths.Vouch.{Vouch}
use Rattle.br_keeper.specs.Vouching.{longer}
use Rattle.br_keeper.proofs.VouchLaws.{grown_where_found, none_changed}
use Rattle.br_keeper.proofs.vouched_lengths.grow.Goals as goal

pub returns-in-Some : goal.returns-in-Some
returns-in-Some c =
    let found : position (λ (v : Vouch). bytes_eq v.vol c.args.vol.now) c.args.vouches.now ≡ Some c.in-Some.at = cc in
    let sum : c.saturating_add.result ≡ min (c.index-vouches-at.result.bytes + c.args.by) (2 ^ 64 - 1) = search rules in
    grown_where_found c.args.by c.args.vol.now c.args.vouches.now c.in-Some.at c.index-vouches-at.result c.index-vouches-at-in-Some.result c.saturating_add.result found
    c.index-vouches-at.is sum

pub returns-in-None : goal.returns-in-None
returns-in-None c =
    let none : position (λ (v : Vouch). bytes_eq v.vol c.args.vol.now) c.args.vouches.now ≡ None = cc in
    sym (none_changed (longer c.args.by) c.args.vol.now c.args.vouches.now none)
