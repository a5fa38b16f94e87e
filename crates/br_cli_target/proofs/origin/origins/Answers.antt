use Rattle.std.proofs.Common.{◌≡◌, ◌∙◌, List}
use Rattle.br_model.specs.Bootstrap.{Group}
use Rattle.br_cli_target.specs.Origins.{searched_for}
use Rattle.br_cli_target.proofs.OriginLaws.{come_from, come_from_none, none_listed, searched_are}
use Rattle.br_cli_target.proofs.origin.origins.Goals as goal

pub returns-in-Some : goal.returns-in-Some
returns-in-Some g c =
    let groups = c.args.bootstrap.now in
    let given = c.groups-groups.result.now in
    let keys = c.args.keys.now in
    let sorted = c.in_ok-sorted.sorted.items in
    let searched : List Group = c.groups.result.now in
    let are : searched ≡ searched_for keys groups =
    searched_are groups given searched keys sorted c.deref.result.now c.groups-groups.ensures.same c.deref.ensures.value c.in_ok-sorted.ensures.same
    (c.groups.ensures.same ∙ c.in-Some.ensures.value ∙ c.in_ok-narrowed_to.ensures) in
    come_from (λ v. v.items) groups given searched keys c.deref-in-Some-3.result.now c.origins_by.result c.groups-groups.ensures.same are c.origins_by.ensures

pub origins_by-requires-in-None : goal.origins_by-requires-in-None
origins_by-requires-in-None g c = none_listed

pub returns : goal.returns
returns g c = come_from_none (λ v. v.items) c.args.bootstrap.now c.groups-groups.result.now c.args.keys.now c.origins_by-in-None.result c.groups-groups.ensures.same c.origins_by-in-None.ensures
