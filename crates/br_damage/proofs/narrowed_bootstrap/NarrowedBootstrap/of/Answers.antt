use Rattle.std.proofs.Common.{◌≡◌, ◌<◌, ◌≤◌, ◌^◌, true, false, List, length, sym, subst, ap, ◌∙◌, arith}
use Rattle.std.specs.List.{list_all}
use Rattle.br_model.specs.BootstrapText.{is_group}
use Rattle.std.specs.List.Sorted.{IsPermutation}
use Rattle.br_model.specs.Bootstrap.{Group}
use Rattle.br_damage.specs.LostFiles.{spans}
use Rattle.br_damage.specs.NarrowedBootstrap.{LeaveBySpans, Leaves, with_flag}
use Rattle.br_damage.proofs.NarrowLaws.{leaves_by}
use Rattle.br_damage.proofs.ValidLaws.{with_flag_few, with_flag_valid}
use Rattle.br_damage.proofs.narrowed_bootstrap.NarrowedBootstrap.of.Goals as goal

pub returns-clause-left : goal.returns-clause-left
returns-clause-left c =
    let flags = c.args.flags.now in
    let groups = c.args.bootstrap.now in
    let ss = c.in_ok-of.field-0.spans.items in
    let left = c.in_ok-left.left.items in
    let lost_is = c.deref-2.ensures.value ∙ c.in_ok-lost.ensures ∙ ap (with_flag true flags) c.groups.ensures.same in
    let others_is = c.deref.ensures.value ∙ c.in_ok-others.ensures ∙ ap (with_flag false flags) c.groups-2.ensures.same in
    subst (λ (gs : List Group). Leaves (with_flag true flags groups) (with_flag false flags groups) gs) (sym c.from_valid.ensures)
    (leaves_by (with_flag true flags groups) (with_flag false flags groups) left ss
    (subst (λ (gs : List Group). IsPermutation (spans gs) ss) lost_is c.in_ok-of.ensures)
    (subst (λ (gs : List Group). LeaveBySpans ss gs left) others_is c.in_ok-left.ensures.left))

pub from_valid-requires-clause-few : goal.from_valid-requires-clause-few
from_valid-requires-clause-few c =
    let flags = c.args.flags.now in
    let groups = c.args.bootstrap.now in
    let left = c.in_ok-left.left.items in
    let others_is = c.deref.ensures.value ∙ c.in_ok-others.ensures ∙ ap (with_flag false flags) c.groups-2.ensures.same in
    let most : length left ≤ length (with_flag false flags groups) = subst (λ (gs : List Group). length left ≤ length gs) others_is c.in_ok-left.ensures.few in
    let fewer = with_flag_few false flags groups in
    let bound : length groups < 2 ^ 32 = c.groups.ensures.few in
    omega (arith, most, fewer, bound)

pub from_valid-requires-clause-valid : goal.from_valid-requires-clause-valid
from_valid-requires-clause-valid c =
    let flags = c.args.flags.now in
    let groups = c.args.bootstrap.now in
    let left = c.in_ok-left.left.items in
    let others_is = c.deref.ensures.value ∙ c.in_ok-others.ensures ∙ ap (with_flag false flags) c.groups-2.ensures.same in
    subst (λ (gs : List Group). list_all is_group gs ≡ true → list_all is_group left ≡ true) others_is c.in_ok-left.ensures.valid
    (with_flag_valid false flags groups c.groups.ensures.valid)
