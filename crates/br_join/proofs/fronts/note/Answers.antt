use Rattle.std.proofs.Common.{◌≡◌, true, false, None, sym, ap, ◌∙◌}
use Rattle.std.specs.Prelude.{is_some}
use Rattle.std.specs.BTreeMap.{get_by}
use Rattle.br_model.specs.Name.{FileKey, key_cmp}
use Rattle.br_model.specs.Meaning.{Hit}
use Rattle.br_join.proofs.FrontLaws.{none_if, noted}
use Rattle.br_join.proofs.fronts.note.Goals as goal

pub note_known-requires : goal.note_known-requires
note_known-requires c = λ none.
    let key : c.hit.inside.key ≡ c.args.hit.now.key = ap (λ (h : Hit). h.key) c.hit.view_is in
    let e : true ≡ false = sym c.if-contains_key.true ∙ c.contains_key.ensures ∙ ap is_some (ap (λ (k : FileKey). get_by (key_cmp k) c.args.tree.now) key ∙ none) in
    absurd cc

pub returns-then-contains_key : goal.returns-then-contains_key
returns-then-contains_key c = λ held known. c.note_known.ensures held known

pub returns : goal.returns
returns c =
    let key = c.hit.inside.key in
    let none : get_by (key_cmp key) c.args.tree.now ≡ None = none_if (get_by (key_cmp key) c.args.tree.now) (sym c.contains_key.ensures ∙ c.if-contains_key.false) in
    λ held known.
    noted held c.args.hit.now key c.args.tree.now c.insert.new.self c.first_known.result None (ap (λ (h : Hit). h.key) c.hit.view_is) c.in_ok-insert.ensures.updates.0 (sym none)
    (λ before. c.first_known.ensures held before) known
