use Rattle.std.proofs.Common.{ℕ, List, Bool, sym, ap, subst, ◌∙◌, ◌≡◌, length}
use Rattle.std.proofs.lemmas.List.{length-map}
use Rattle.br_model.specs.View.{Entry, view_paths}
use Rattle.br_tree.specs.Change.{is_chosen, chosen, flag_of, after_change, newly_changed}
use Rattle.br_tree.specs.Marking.{Marking, paths_of}
use Rattle.br_tree.specs.Walk.{seen_paths, set_where, changes, IsRising}
use Rattle.br_tree.proofs.SetLaws.{as_many}
use Rattle.br_tree.proofs.ChangeLaws.{chosen_is, marks_changed, changed_now}
use Rattle.br_tree.proofs.MarkLaws.{seen}
use Rattle.br_tree.proofs.tree.Tree.change.Goals as goal

pub returns-clause-marks : goal.returns-clause-marks
returns-clause-marks c =
    let view = c.self.inside.shown in
    let fs = c.self.inside.is_marked in
    let ps = view_paths view in
    let d = c.args.directory.now in
    let meant = c.args.meant in
    let value = flag_of c.args.change in
    let test : List ℕ → Bool = is_chosen meant d in
    let rises : IsRising ps = subst IsRising c.rows.ensures.paths c.rows.ensures.rising in
    let long : length fs ≡ length ps = c.self.invariant.1 ∙ sym (length-map view (λ (e : Entry). e.path)) in
    let set : c.change_meant.new.flags ≡ set_where test value ps fs =
    c.change_meant.ensures.flags ∙ ap (λ qs. set_where test value qs fs) c.rows.ensures.paths in
    ap (seen view) set ∙ marks_changed c.args.change test view fs rises long (chosen ps d meant) (chosen_is ps d meant)
    ∙ ap (λ (m : Marking). after_change c.args.change m (chosen (paths_of m) d meant)) c.self.view_is

pub returns-clause-answer : goal.returns-clause-answer
returns-clause-answer c =
    let view = c.self.inside.shown in
    let fs = c.self.inside.is_marked in
    let ps = view_paths view in
    let d = c.args.directory.now in
    let meant = c.args.meant in
    let value = flag_of c.args.change in
    let test : List ℕ → Bool = is_chosen meant d in
    let rises : IsRising ps = subst IsRising c.rows.ensures.paths c.rows.ensures.rising in
    let long : length fs ≡ length ps = c.self.invariant.1 ∙ sym (length-map view (λ (e : Entry). e.path)) in
    c.change_meant.ensures.answer ∙ ap (λ qs. changes test value qs fs) c.rows.ensures.paths
    ∙ changed_now c.args.change test view fs rises long (chosen ps d meant) (chosen_is ps d meant)
    ∙ ap (λ (m : Marking). newly_changed c.args.change m (chosen (paths_of m) d meant)) c.self.view_is

pub invariant_of-self : goal.invariant_of-self
invariant_of-self c =
    let fs = c.self.inside.is_marked in
    let test : List ℕ → Bool = is_chosen c.args.meant c.args.directory.now in
    (c.self.invariant.0, ap length c.change_meant.ensures.flags ∙ as_many test (flag_of c.args.change) (seen_paths c.rows.result.now) fs ∙ c.self.invariant.1)
