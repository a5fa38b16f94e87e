use Rattle.std.proofs.Common.{◌≡◌, true, subst}
use Rattle.std.specs.Prelude.{IfSome, Option}
use Rattle.br_model.specs.Bootstrap.{Group}
use Rattle.br_model.specs.BootstrapText.{is_group}
use Rattle.br_damage.specs.NarrowedBootstrap.{IsNarrowed}
use Rattle.br_damage.proofs.NarrowLaws.{leaves_some}
use Rattle.br_damage.proofs.ValidLaws.{adds_some}
use Rattle.br_damage.proofs.narrowed_bootstrap.push_narrowed.Goals as goal

pub returns-clause-left : goal.returns-clause-left
returns-clause-left c =
    let lost = c.args.lost.now.spans.items in
    let g = c.args.group.now in
    rw c.in_ok-push.ensures.items
    (leaves_some lost g c.in-Some.narrow c.args.left.now.items (subst (IsNarrowed lost g) c.in-Some.is c.in_ok-narrow.ensures.left))

pub returns-clause-valid : goal.returns-clause-valid
returns-clause-valid c =
    let g = c.args.group.now in
    rw c.in_ok-push.ensures.items
    (adds_some g c.in-Some.narrow c.args.left.now.items
    (λ is. subst (λ (left : Option Group). IfSome left (λ n. is_group n ≡ true)) c.in-Some.is (c.in_ok-narrow.ensures.valid is)))
