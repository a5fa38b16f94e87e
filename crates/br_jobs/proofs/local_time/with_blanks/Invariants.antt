use Rattle.std.proofs.Common.{◌≡◌, take, map}
use Rattle.br_jobs.specs.LocalTime.{blank_for_t}
use Rattle.br_jobs.proofs.local_time.with_blanks.Given as goal

abbrev pub invariant-loop-byte : goal.invariant-loop-byte
invariant-loop-byte l = l.blank.items ≡ map blank_for_t (take l.byte-index l.text)
