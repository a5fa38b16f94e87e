use Rattle.std.proofs.Common.{rules, tests, arith}
use Rattle.std.proofs.lemmas.List.Sorted.{IsPartitionPoint-from_clause}
use Rattle.br_piece.specs.NearRanges.{is_up_to}
use Rattle.br_piece.proofs.NearLaws.{parted, parts_at, up_to_down}
use Rattle.br_piece.proofs.near_ranges.up_to_high.Goals as goal

pub returns : goal.returns
returns c =
    let keys = c.args.keys.now in
    let i = c.partition_point.result in
    let test = is_up_to c.args.id c.args.time c.args.high in
    let at =
    IsPartitionPoint-from_clause test keys i c.partition_point.ensures.partitioned (parted test (up_to_down c.args.id c.args.time c.args.high) keys c.requires) (λ a r f k. search (rules, tests)) in
    (parts_at test keys i (λ k d lt. at.0 k d (omega arith) lt) (λ k d ge lt. at.1 k d ge lt) c.partition_point.ensures.bound).0
