use Rattle.std.proofs.Common.{List, ℕ, ◌++◌, ◌∙◌, ap, sym, subst, flat_map}
use Rattle.br_piece.specs.MissingLines.{count_lines, gap_text, report}
use Rattle.br_piece.specs.Missing as model
use Rattle.br_piece.specs.NearRanges.{AreSorted}
use Rattle.br_piece.proofs.CountLaws.{counts_permuted}
use Rattle.br_piece.proofs.MissingLaws.{missing_permuted}
use Rattle.br_piece.proofs.NearLaws.{sorted_are}
use Rattle.br_piece.proofs.missing_lines.report.Goals as goal

pub missing_of-requires : goal.missing_of-requires
missing_of-requires c =
    subst AreSorted (sym c.deref.ensures.value) (sorted_are c.sort_unstable.new.self.items c.sort_unstable.ensures.sorted)

pub push_counts-requires : goal.push_counts-requires
push_counts-requires c =
    subst AreSorted (sym c.deref-3.ensures.value) (sorted_are c.sort_unstable.new.self.items c.sort_unstable.ensures.sorted)

pub returns : goal.returns
unfolding report
returns c =
    let groups = c.args.groups.now in
    let counts = c.args.counts.now in
    let keys = c.args.keys.items in
    let sorted = c.sort_unstable.new.self.items in
    let moved = c.sort_unstable.ensures.permutation in
    let gaps = c.deref-2.ensures.value ∙ c.in_ok-gaps.ensures ∙ ap (model.missing groups) c.deref.ensures.value ∙ missing_permuted groups keys sorted moved in
    let last = ap (count_lines groups counts) c.deref-3.ensures.value ∙ counts_permuted groups counts keys sorted moved in
    c.in_ok-push_counts.ensures
    ∙ ap (λ (front : List ℕ). front ++ count_lines groups counts c.deref-3.result.now) (c.in_ok-text.ensures ∙ ap (flat_map (gap_text groups)) gaps)
    ∙ ap (λ (lines : List ℕ). flat_map (gap_text groups) (model.missing groups keys) ++ lines) last
