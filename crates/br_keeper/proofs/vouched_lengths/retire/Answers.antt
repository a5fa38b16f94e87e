use Rattle.std.proofs.Common.{◌≡◌, Some, None, sym, ap, slice_index_or}
use Rattle.std.specs.Prelude.{bytes_eq, position}
use Rattle.br_keeper.specs.declared.vouched_lengths.Vouch.{Vouch}
use Rattle.br_keeper.specs.Vouching.{retired}
use Rattle.br_keeper.proofs.VouchLaws.{changed_where_found, none_changed}
use Rattle.br_keeper.proofs.vouched_lengths.retire.Goals as goal

pub returns-in-Some : goal.returns-in-Some
returns-in-Some c =
    let vs = c.args.vouches.now in
    let found : position (λ (v : Vouch). bytes_eq v.vol c.args.vol.now) vs ≡ Some c.in-Some.at = cc in
    changed_where_found retired c.args.vol.now vs c.in-Some.at (slice_index_or vs c.in-Some.at c.index-vouches-at.result) found
    (ap (λ (d : Vouch). slice_index_or vs c.in-Some.at d) c.index-vouches-at.is)

pub returns-in-None : goal.returns-in-None
returns-in-None c =
    let none : position (λ (v : Vouch). bytes_eq v.vol c.args.vol.now) c.args.vouches.now ≡ None = cc in
    sym (none_changed retired c.args.vol.now c.args.vouches.now none)
