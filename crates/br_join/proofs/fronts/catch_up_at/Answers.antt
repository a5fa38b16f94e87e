use Rattle.std.proofs.Common.{◌≡◌, None, Some, refl, sym, ap, subst, ◌∙◌}
use Rattle.std.specs.Option.{option_copied_mut, IsSome}
use Rattle.std.specs.BTreeMap.{get_by}
use Rattle.br_model.specs.Name.{key_cmp}
use Rattle.br_join.proofs.FrontLaws.{kept}
use Rattle.br_join.proofs.fronts.catch_up_at.Goals as goal

pub returns-in-Some : goal.returns-in-Some
returns-in-Some c =
    let key = c.args.key in
    let there : option_copied_mut (Some c.in-Some.known) ≡ get_by (key_cmp key) c.args.tree.now = sym (ap option_copied_mut c.in-Some.is) ∙ c.get_mut.ensures.value in
    let now = c.catch_up_known.new.known in
    λ held known.
    kept held key c.args.tree.now (c.get_mut.follows.lender now) now (Some c.in-Some.known.now) ((c.get_mut.follows.holds now).3 (subst IsSome there refl)).0 there
    (λ before. c.catch_up_known.ensures held key before) known

pub returns-in-None : goal.returns-in-None
returns-in-None c =
    let none : get_by (key_cmp c.args.key) c.args.tree.now ≡ None = sym c.get_mut.ensures.value ∙ ap option_copied_mut c.in-None.is in
    absurd (c.requires none)
