use Rattle.std.proofs.Common.{List, refl, sym, ap, ◌∙◌, arith}
use Rattle.std.proofs.lemmas.Option.{slice_get_within}
use Rattle.std.specs.Prelude.{slice_get}
use Rattle.br_core.specs.Statuses.{address_in}
use Rattle.br_core.specs.declared.piece_status.Status.{Status}
use Rattle.br_core.specs.declared.piece_status.Status.TheVariants.{Waiting, Claimed}
use Rattle.br_core.proofs.MoveLaws.{address_is, address_none}
use Rattle.br_core.proofs.PartLaws.{parts_go}
use Rattle.br_core.proofs.ViewLaws.{fails, not_claimed}
use Rattle.br_core.proofs.open_restore.OpenRestore.fail.Goals as goal

pub index_mut-requires : goal.index_mut-requires
index_mut-requires c =
    let items = c.args.self.now.statuses.items in
    let told = ap (λ (ss : List Status). address_in (slice_get ss c.args.piece)) (sym c.deref.ensures.value) ∙ sym c.address_at.ensures ∙ c.in-Some.is in
    let within = slice_get_within items c.args.piece (Claimed c.in-Some.field-0) (address_is (slice_get items c.args.piece) c.in-Some.field-0 told) in
    omega (arith, within, c.args.self.now.statuses.ok.0)

pub invariant_of-self : goal.invariant_of-self
invariant_of-self c =
    let told = ap (λ (ss : List Status). address_in (slice_get ss c.args.piece)) (sym c.deref.ensures.value) ∙ sym c.address_at.ensures ∙ c.in-Some.is in
    record { parts = parts_go _ _ _ _ _ c.args.piece (Claimed c.in-Some.field-0) Waiting (address_is _ c.in-Some.field-0 told) refl c.args.self.now.parts }

pub returns-in-Some : goal.returns-in-Some
returns-in-Some c jobs stages always =
    let told = ap (λ (ss : List Status). address_in (slice_get ss c.args.piece)) (sym c.deref.ensures.value) ∙ sym c.address_at.ensures ∙ c.in-Some.is in
    fails c.args.self.now c.args.piece c.in-Some.field-0 (address_is _ c.in-Some.field-0 told) jobs stages

pub returns-in-None : goal.returns-in-None
returns-in-None c =
    let told = ap (λ (ss : List Status). address_in (slice_get ss c.args.piece)) (sym c.deref.ensures.value) ∙ sym c.address_at.ensures ∙ c.in-None.is in
    not_claimed c.args.self.now c.args.piece (address_none _ told)
