use Rattle.std.proofs.Common.{List, refl, sym, ap, ◌∙◌, arith}
use Rattle.std.proofs.lemmas.Option.{slice_get_within}
use Rattle.std.specs.Prelude.{slice_get}
use Rattle.br_core.specs.Statuses.{is_waiting}
use Rattle.br_core.specs.declared.piece_status.Status.{Status}
use Rattle.br_core.specs.declared.piece_status.Status.TheVariants.{Waiting, Claimed}
use Rattle.br_core.proofs.MoveLaws.{waiting_is, waiting_not}
use Rattle.br_core.proofs.PartLaws.{parts_go}
use Rattle.br_core.proofs.ViewLaws.{claims, not_waiting}
use Rattle.br_core.proofs.open_restore.OpenRestore.claim.Goals as goal

pub index_mut-requires : goal.index_mut-requires
index_mut-requires c =
    let items = c.args.self.now.statuses.items in
    let tested = ap (λ (ss : List Status). is_waiting (slice_get ss c.args.piece)) (sym c.deref.ensures.value) ∙ sym c.waits.ensures ∙ c.if-waits.true in
    let within = slice_get_within items c.args.piece Waiting (waiting_is (slice_get items c.args.piece) tested) in
    omega (arith, within, c.args.self.now.statuses.ok.0)

pub invariant_of-self : goal.invariant_of-self
invariant_of-self c =
    let tested = ap (λ (ss : List Status). is_waiting (slice_get ss c.args.piece)) (sym c.deref.ensures.value) ∙ sym c.waits.ensures ∙ c.if-waits.true in
    record { parts = parts_go _ _ _ _ _ c.args.piece Waiting (Claimed 0) (waiting_is _ tested) refl c.args.self.now.parts }

pub returns-then-waits : goal.returns-then-waits
returns-then-waits c jobs stages always =
    let tested = ap (λ (ss : List Status). is_waiting (slice_get ss c.args.piece)) (sym c.deref.ensures.value) ∙ sym c.waits.ensures ∙ c.if-waits.true in
    claims c.args.self.now c.args.piece (waiting_is _ tested) jobs stages

pub returns-else-waits : goal.returns-else-waits
returns-else-waits c =
    let tested = ap (λ (ss : List Status). is_waiting (slice_get ss c.args.piece)) (sym c.deref.ensures.value) ∙ sym c.waits.ensures ∙ c.if-waits.false in
    not_waiting c.args.self.now c.args.piece (waiting_not _ tested)
