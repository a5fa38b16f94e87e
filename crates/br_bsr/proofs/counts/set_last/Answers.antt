use Rattle.std.proofs.Common.{◌≡◌, ◌<◌, ◌-◌, length, vec_len, arith}
use Rattle.br_bsr.proofs.CountLaws.{last_set}
use Rattle.br_bsr.proofs.counts.set_last.Goals as goal

pub returns-in-Some : goal.returns-in-Some
returns-in-Some c =
    let some : 0 < length c.args.counts.now.items = c.in-Some.ensures.item.3.0 in
    let whole : vec_len c.args.counts.now ≡ length c.args.counts.now.items = c.args.counts.now.ok.0 in
    last_set c.args.number c.args.counts.now.items (vec_len c.args.counts.now - 1) (omega (arith, some, whole))
