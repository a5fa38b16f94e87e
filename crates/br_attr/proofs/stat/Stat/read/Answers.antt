use Rattle.std.proofs.Common.{◌≡◌, ltb, false, length, take, refl, arith}
use Rattle.std.proofs.lemmas.Bool.{le-ltb}
use Rattle.std.proofs.lemmas.List.{length-take}
use Rattle.br_model.specs.Attribute.{read_stat}
use Rattle.br_attr.proofs.ReadingLaws.{stat_from_read}
use Rattle.br_attr.proofs.stat.Stat.read.Goals as goal

pub returns : goal.returns
unfolding read_stat
returns c =
    let numbers = c.in_ok-numbers.numbers in
    let count = c.in_ok-numbers.count in
    let enough : ltb (length (take count numbers)) 13 ≡ false = le-ltb (length (take count numbers)) 13 (omega (arith, length-take count numbers, c.in_ok-numbers.ensures.within, c.if-count-lt-NEEDED.false)) in
    let same = stat_from_read numbers count c.in_ok-numbers.ensures.zeros in
    rw (c.in_ok-numbers.ensures.read, enough, same, ← c.from_numbers.ensures) refl
