use Rattle.std.proofs.Common.{◌≡◌, arith, eqb-true, rules}
use Rattle.std.proofs.lemmas.Int.{ints, to_z-of_z}
use Rattle.br_store.proofs.LookMoments.{same_time}
use Rattle.br_store.proofs.look_stamp.FileTime.is_same.Goals as goal

pub returns-then-self-other : goal.returns-then-self-other
returns-then-self-other c = λ same.
    let seconds : c.args.self.seconds ≡ c.args.other.seconds =
    let test = c.if-self-other.true in first_of (search (rules, ints, to_z-of_z), grind (arith, ints, to_z-of_z)) in
    let nanos : c.args.self.nanos ≡ c.args.other.nanos =
    let test = eqb-true _ _ same in first_of (search (rules, ints, to_z-of_z), grind (arith, ints, to_z-of_z)) in
    same_time c.args.self c.args.other seconds nanos
