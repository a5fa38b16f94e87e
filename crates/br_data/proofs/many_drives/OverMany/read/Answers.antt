use Rattle.std.proofs.Common.{◌≡◌, ◌≤◌, ℕ, Some, arith, length, refl, sym, ap, subst, ◌∙◌}
use Rattle.std.specs.Prelude.{slice_get}
use Rattle.std.proofs.lemmas.Bool.{ltb-false}
use Rattle.std.proofs.lemmas.Option.{slice_get_read}
use Rattle.std.proofs.lemmas.Result.{IfOk-weaker}
use Rattle.br_model.specs.Meaning.{Spot}
use Rattle.br_data.specs.StandingHits.{place_on}
use Rattle.br_data.specs.ManyDrives.{GivesMany, GoOn, HaveFailed, RereadingMany, driven_by}
use Rattle.br_data.proofs.GoOnLaws.{go_itself}
use Rattle.br_data.proofs.ManyLaws.{failed_driven, given_by_group, given_have, not_none, on_driven}
use Rattle.br_data.proofs.many_drives.OverMany.read.Goals as goal

pub returns-in_err-share-clause-on : goal.returns-in_err-share-clause-on
returns-in_err-share-clause-on g c = go_itself c.args.self.now

pub returns-then-is_held-clause-on : goal.returns-then-is_held-clause-on
returns-then-is_held-clause-on g c = go_itself c.args.self.now

pub returns-in-None-2-clause-on : goal.returns-in-None-2-clause-on
returns-in-None-2-clause-on g c = go_itself c.args.self.now

pub returns-in-None-2-clause-changed : goal.returns-in-None-2-clause-changed
returns-in-None-2-clause-changed g c = λ is given.
    let many = c.args.self.now in
    let some = not_none many.drives (λ none. c.if-count-eq0.false (c.count.ensures ∙ none)) in
    let within = given_by_group many.groups c.args.spot c.args.found.now.bytes many.drives given some in
    let same : length c.self.inside.groups.now ≡ length many.groups = ap (λ (m : RereadingMany). length m.groups) c.self.view_is in
    let at : c.spot.inside.group ≡ c.args.spot.group = ap (λ (s : Spot). s.group) c.spot.view_is in
    let past : length c.self.inside.groups.now ≤ c.spot.inside.group = ltb-false _ _ (sym c.in-None-2.ensures.lookup.0) in
    absurd (omega (arith, within, at, same, past))

pub returns-in-Some-clause-changed : goal.returns-in-Some-clause-changed
returns-in-Some-clause-changed g c = λ is given.
    let groups = c.self.inside.groups.now in
    let group = c.in-Some.group.now in
    let there = c.in-Some.ensures.lookup in
    let of = subst (λ (n : ℕ). slice_get groups n ≡ Some group) (ap (λ (s : Spot). s.group) c.spot.view_is)
    (slice_get_read groups (length groups) c.spot.inside.group group refl there.3.0 there.1) in
    c.read_again.ensures.changed is
    (given_have g.D.Drive.shows g.D.Drive.failures groups c.args.spot c.args.found.now.bytes group _ c.self.inside.drives.items of
    (λ i. place_on (c.group.view_is i).volume (c.spot.view_is i))
    (subst (λ (m : RereadingMany). GivesMany m c.args.spot c.args.found.now.bytes) (sym c.self.view_is) given))

pub returns-in-None-clause-on : goal.returns-in-None-clause-on
returns-in-None-clause-on g c = go_itself c.args.self.now

pub returns-in-Some-clause-same : goal.returns-in-Some-clause-same
returns-in-Some-clause-same g c =
    let groups = c.self.inside.groups.now in
    let group = c.in-Some.group.now in
    let there = c.in-Some.ensures.lookup in
    let of = subst (λ (n : ℕ). slice_get groups n ≡ Some group) (ap (λ (s : Spot). s.group) c.spot.view_is)
    (slice_get_read groups (length groups) c.spot.inside.group group refl there.3.0 there.1) in
    IfOk-weaker c.read_again.result _ _
    (λ read same given.
    same
    (given_have g.D.Drive.shows g.D.Drive.failures groups c.args.spot c.args.found.now.bytes group _ c.self.inside.drives.items of
    (λ i. place_on (c.group.view_is i).volume (c.spot.view_is i))
    (subst (λ (m : RereadingMany). GivesMany m c.args.spot c.args.found.now.bytes) (sym c.self.view_is) given)))
    c.read_again.ensures.same

pub returns-in-Some-clause-on : goal.returns-in-Some-clause-on
returns-in-Some-clause-on g c =
    subst (λ (m : RereadingMany). GoOn m (record { drives = driven_by g.D.Drive.shows g.D.Drive.failures c.read_again.new.drives.items; groups = c.self.inside.groups.now }))
    c.self.view_is
    (refl, on_driven g.D.Drive.shows g.D.Drive.failures c.self.inside.drives.items c.read_again.new.drives.items c.read_again.ensures.stay)

pub returns-in-Some-clause-failed : goal.returns-in-Some-clause-failed
returns-in-Some-clause-failed g c = λ is.
    subst (λ (m : RereadingMany). HaveFailed m (record { drives = driven_by g.D.Drive.shows g.D.Drive.failures c.read_again.new.drives.items; groups = c.self.inside.groups.now }))
    c.self.view_is
    (failed_driven g.D.Drive.shows g.D.Drive.failures c.self.inside.drives.items c.read_again.new.drives.items (c.read_again.ensures.failed is))
