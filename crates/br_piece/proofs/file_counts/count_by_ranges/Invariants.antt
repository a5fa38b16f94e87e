use Rattle.std.proofs.Common.{◌≡◌, ◌+◌, ◌*◌, ◌^◌, ◌≤◌, drop}
use Rattle.br_piece.specs.FileCounts.{got_by}
use Rattle.br_piece.proofs.file_counts.count_by_ranges.Given as goal

-- the files so far, and those by the ranges that are left
abbrev pub invariant-loop-range : goal.invariant-loop-range
invariant-loop-range l = record {
  all : l.found + got_by l.group l.keys l.next (drop l.range-index l.ranges) ≡ got_by l.group l.keys 0 l.ranges;
  few : l.found ≤ l.range-index * 2 ^ 64;
}
