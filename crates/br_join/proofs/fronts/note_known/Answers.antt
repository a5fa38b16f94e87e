use Rattle.std.proofs.Common.{◌≡◌, None, Some, refl, sym, ap, subst, ◌∙◌}
use Rattle.std.specs.Option.{option_copied_mut, IsSome}
use Rattle.std.specs.BTreeMap.{get_by}
use Rattle.br_model.specs.Name.{FileKey, key_cmp}
use Rattle.br_model.specs.Meaning.{Hit}
use Rattle.br_join.proofs.FrontLaws.{noted}
use Rattle.br_join.proofs.fronts.note_known.Goals as goal

pub returns-in-Some : goal.returns-in-Some
returns-in-Some c =
    let key = c.hit.inside.key in
    let there : option_copied_mut (Some c.in-Some.known) ≡ get_by (key_cmp key) c.args.tree.now = sym (ap option_copied_mut c.in-Some.is) ∙ c.get_mut.ensures.value in
    let now = c.take_known.new.known in
    λ held known.
    noted held c.args.hit.now key c.args.tree.now (c.get_mut.follows.lender now) now (Some c.in-Some.known.now) (ap (λ (h : Hit). h.key) c.hit.view_is)
    ((c.get_mut.follows.holds now).3 (subst IsSome there refl)).0 there (λ before. c.take_known.ensures held before) known

pub returns-in_default : goal.returns-in_default
returns-in_default c =
    let none : get_by (key_cmp c.hit.inside.key) c.args.tree.now ≡ None = sym c.get_mut.ensures.value ∙ ap option_copied_mut c.in_default.is in
    absurd (c.requires (ap (λ (k : FileKey). get_by (key_cmp k) c.args.tree.now) (ap (λ (h : Hit). h.key) (sym c.hit.view_is)) ∙ none))
