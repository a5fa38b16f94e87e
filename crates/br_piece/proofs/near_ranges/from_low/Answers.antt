use Rattle.std.proofs.Common.{◌≡◌, ℕ, List, ◌∙◌, rules, tests, ◌-◌, length, take, drop, length-drop, arith}
use Rattle.std.proofs.lemmas.List.{take_all}
use Rattle.std.proofs.lemmas.List.Sorted.{IsPartitionPoint-from_clause}
use Rattle.br_model.specs.Name.{FileKey}
use Rattle.br_piece.specs.NearRanges.{is_before}
use Rattle.br_piece.proofs.NearLaws.{parted, parts_at, before_down}
use Rattle.br_piece.proofs.near_ranges.from_low.Goals as goal

whole : (keys : List FileKey) (i : ℕ) → take (length keys - i) (drop i keys) ≡ drop i keys
whole keys i = take_all (length keys - i) (drop i keys) (omega (arith, length-drop i keys))

pub returns : goal.returns
returns c =
    let keys = c.args.keys.now in
    let i = c.partition_point.result in
    let test = is_before c.args.id c.args.time c.args.low in
    let at =
    IsPartitionPoint-from_clause test keys i c.partition_point.ensures.partitioned (parted test (before_down c.args.id c.args.time c.args.low) keys c.requires) (λ a r f k. search (rules, tests)) in
    whole keys i ∙ (parts_at test keys i (λ k d lt. at.0 k d (omega arith) lt) (λ k d ge lt. at.1 k d ge lt) c.partition_point.ensures.bound).1
