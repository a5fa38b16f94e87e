use Rattle.std.proofs.Common.{◌≡◌, ◌+◌, ◌-◌, ◌*◌, ◌^◌, ◌<◌, fold, take}
use Rattle.br_bsr.proofs.digits.spelled.Given as goal

abbrev pub invariant-loop-byte : goal.invariant-loop-byte
invariant-loop-byte l = (l.value ≡ fold (λ n c. 10 * n + (c - 48)) 0 (take l.byte-index l.digits)) × (l.value < 10 ^ l.byte-index)
