use Rattle.std.proofs.Common.{◌≡◌, length}
use Rattle.std.specs.List.{slice_split}
use Rattle.br_model.specs.BootstrapText.{is_comma, read_items}
use Rattle.br_bsr.specs.Statement.{criterion_of, behind}
use Rattle.br_bsr.proofs.range_text.ranges_of.Given as goal

abbrev pub invariant-loop-item : goal.invariant-loop-item
invariant-loop-item l =
    read_items (criterion_of l.criterion) (slice_split is_comma l.text) ≡ behind l.ranges.items (read_items (criterion_of l.criterion) (slice_split is_comma l.rest))

abbrev pub decreases-loop-item : goal.decreases-loop-item
decreases-loop-item l = length l.rest
