use Rattle.std.proofs.Common.{ℕ, ◌<◌, List, sym, subst, arith}
use Rattle.std.proofs.lemmas.Option.{slice_get_read}
use Rattle.br_match.specs.declared.hit.Batch.{Batch}
use Rattle.br_join.specs.Joining.{Joining}
use Rattle.br_core.specs.Parts.{AreParts}
use Rattle.br_core.proofs.PartLaws.{parts_taken}
use Rattle.br_core.proofs.PlaceLaws.{without}
use Rattle.br_core.proofs.ViewLaws.{takes}
use Rattle.br_core.proofs.open_restore.OpenRestore.take.Goals as goal

pub invariant_of-self : goal.invariant_of-self
invariant_of-self c =
    let r = c.args.self.now in
    let left = subst (λ (j : Joining). AreParts r.plan r.pieces.items r.statuses.items (without c.args.place r.transit.items) j) (sym c.in-Ok.ensures.ok)
    (parts_taken r.plan r.pieces.items r.statuses.items r.transit.items r.joiner c.args.place c.remove-piece.result.1.hits.items r.parts) in
    record { parts = subst (λ (t : List (ℕ × Batch)). AreParts r.plan r.pieces.items r.statuses.items t c.take_batch.new.self) (sym c.remove-piece.ensures.by_index.2) left }

pub returns-in-Ok : goal.returns-in-Ok
returns-in-Ok c jobs stages always =
    let r = c.args.self.now in
    let within : c.args.place < r.transit.len = omega (arith, c.if-place-len.false, c.len.ensures) in
    let there = slice_get_read r.transit.items r.transit.len c.args.place c.remove-piece.result r.transit.ok.0 within c.remove-piece.ensures.value in
    takes r c.args.place c.remove-piece.result c.remove-piece.new.self.items c.take_batch.new.self there c.remove-piece.ensures.by_index.2 c.in-Ok.ensures.ok jobs stages
