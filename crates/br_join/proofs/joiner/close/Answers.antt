use Rattle.std.proofs.Common.{◌≡◌, None, Some, true, refl, sym, ap, subst, ◌∙◌}
use Rattle.std.specs.Option.{option_copied_mut, IsSome}
use Rattle.std.specs.BTreeMap.{get_by}
use Rattle.std.specs.Ordering.{nat_cmp}
use Rattle.br_join.proofs.PieceLaws.{get_number, number_put}
use Rattle.br_join.proofs.joiner.close.Goals as goal

pub returns-in-Some : goal.returns-in-Some
returns-in-Some c =
    let there : option_copied_mut (Some c.in-Some.closed) ≡ get_by (nat_cmp c.args.piece) c.args.pieces.now = sym (ap option_copied_mut c.in-Some.is) ∙ c.get_mut.ensures.value in
    number_put c.args.pieces.now (c.get_mut.follows.lender true) c.args.piece true ((c.get_mut.follows.holds true).3 (subst IsSome there refl)).0

pub returns-in_default : goal.returns-in_default
returns-in_default c =
    let none : get_by (nat_cmp c.args.piece) c.args.pieces.now ≡ None = sym c.get_mut.ensures.value ∙ ap option_copied_mut c.in_default.is in
    absurd (c.requires (get_number c.args.pieces.now c.args.piece ∙ none))
