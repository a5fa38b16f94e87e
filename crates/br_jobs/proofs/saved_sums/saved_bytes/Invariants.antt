use Rattle.std.proofs.Common.{◌≡◌, ◌≤◌, ◌*◌, ◌^◌, take, sum_by}
use Rattle.br_jobs.specs.ListingLine.{bytes_of}
use Rattle.br_jobs.proofs.saved_sums.saved_bytes.Given as goal

-- the bytes so far, of this number of files that each have fewer than 2^63
abbrev pub invariant-loop-file : goal.invariant-loop-file
invariant-loop-file l = (l.bytes ≡ sum_by bytes_of (take l.file-index l.files)) × (l.bytes ≤ l.file-index * 2 ^ 63)
