use Rattle.std.proofs.Common.{◌≡◌, ◌-◌, ap, sym, ◌∙◌, take, length, arith}
use Rattle.std.proofs.lemmas.List.{length-map, take_all}
use Rattle.br_model.specs.View.{Entry, view_paths}
use Rattle.br_tree.specs.Marking.{Marking}
use Rattle.br_tree.specs.Sums.{set_in}
use Rattle.br_tree.proofs.MarkLaws.{marks_counted}
use Rattle.br_tree.proofs.tree.Tree.count.Goals as goal

pub returns-clause-marked : goal.returns-clause-marked
returns-clause-marked c =
    let view = c.self.inside.shown in
    let fs = c.self.inside.is_marked in
    let n = c.len-paths.result in
    let all : take (n - 0) fs ≡ fs = take_all (n - 0) fs (omega (arith, c.self.invariant.1, c.len-paths.ensures)) in
    c.count.ensures ∙ ap set_in all
    ∙ sym (marks_counted (view_paths view) fs (c.self.invariant.1 ∙ sym (length-map view (λ (e : Entry). e.path))))
    ∙ ap (λ (m : Marking). length m.marked) c.self.view_is
