use Rattle.std.proofs.Common.{◌≡◌, ◌+◌, ◌-◌, ◌<◌, ◌==◌, ℕ, List, length, take, drop, ap, sym, arith}
use Rattle.std.proofs.lemmas.Grind.{common_steps}
use Rattle.br_bsr.proofs.ScanLaws.{place_found, place_none}
use Rattle.br_bsr.proofs.scan.cut.Goals as goal

rest_is : (text : List ℕ) (i n : ℕ) → i < length text → n ≡ i → take (length text - (i + 1)) (drop (i + 1) text) ≡ drop (n + 1) text
rest_is text i n below e = rw e (grind (arith, common_steps))

rest_falls : (text : List ℕ) (i : ℕ) → i < length text → length (take (length text - (i + 1)) (drop (i + 1) text)) < length text
rest_falls text i below = grind (arith, common_steps)

pub returns-in-Some : goal.returns-in-Some
returns-in-Some c =
    let found = place_found (λ b. b == c.args.end) c.args.text.now c.in-Some.i (sym c.in-Some.ensures.place) in (
      found.any,
      ap (λ n. take n c.args.text.now) (sym found.place),
      rest_is c.args.text.now c.in-Some.i _ found.within found.place,
      rest_falls c.args.text.now c.in-Some.i found.within,
    )

pub returns-in-None : goal.returns-in-None
returns-in-None c = place_none (λ b. b == c.args.end) c.args.text.now (sym c.in-None.ensures.place)
