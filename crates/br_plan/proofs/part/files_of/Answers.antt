use Rattle.std.proofs.Common.{◌∙◌, sym}
use Rattle.std.proofs.lemmas.List.Filters.{dedup_is}
use Rattle.br_view.specs.Shown.{shown_pair}
use Rattle.br_plan.specs.Selected.{file_of}
use Rattle.br_plan.proofs.FileLaws.{same_file, sorted_are_files}
use Rattle.br_plan.proofs.part.files_of.Goals as goal
use mathlib.Core.List.{map, map-map}

pub returns : goal.returns
returns c =
    sorted_are_files (map shown_pair c.args.entries.now) c.in_ok-files.files.items c.sort_unstable.new.self.items c.dedup.new.self.items
    (c.in_ok-files.ensures ∙ sym (map-map file_of shown_pair c.args.entries.now)) c.sort_unstable.ensures.permutation c.sort_unstable.ensures.sorted
    (dedup_is same_file c.sort_unstable.new.self.items c.dedup.new.self.items c.dedup.ensures.filtered)
