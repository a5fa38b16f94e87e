use Rattle.std.proofs.Common.{◌≡◌, ℕ, List, Option, Err, ap, refl, subst, sym, take, ◌∙◌}
use Rattle.std.proofs.lemmas.Result.{err_from_is_err_and}
use Rattle.br_model.specs.Job.{Span}
use Rattle.br_model.specs.Volume.{Volume}
use Rattle.br_volume.specs.Store.{IsDurableIn}
use Rattle.br_volume.proofs.SyncLaws.{lasts_itself, lasts_more}
use Rattle.br_keeper.specs.Writing.{AreDurable, SyncsOne, shelf}
use Rattle.br_keeper.proofs.WritingLaws.{all_durable_on, all_next, unsynced_at}
use Rattle.br_keeper.proofs.appending.sync_all.Goals as goal

pub loop-at-init : goal.loop-at-init
loop-at-init g c = (refl, tt, lasts_itself _)

pub returns-in_err-sync_one-clause-synced : goal.returns-in_err-sync_one-clause-synced
returns-in_err-sync_one-clause-synced g c =
    let p = err_from_is_err_and c.from_residual.result c.from_residual.ensures.1 in
    let holds = g.W.VolumeStore.holds in
    let failures = g.W.VolumeStore.failures in
    let s = c.index-spans-at.result in
    let why = c.in_err-sync_one.field-0.0 in
    let vol : c.span.inside.vol ≡ s.volume = ap (λ (t : Span). t.volume) c.span.view_is in
    let old = shelf (holds c.args.volumes.now) (failures c.args.volumes.now) c.args.vouches.now in
    let middle = shelf (holds c.loop-at.volumes) (failures c.loop-at.volumes) c.loop-at.vouches in
    let new = shelf (holds c.sync_one.new.volumes) (failures c.sync_one.new.volumes) c.sync_one.new.vouches in
    rw (p.1, p.2)
    (unsynced_at c.args.spans.now c.loop-at.at s old middle new why c.loop-at-test.true c.index-spans-at.is c.loop-at.invariant.0
    (subst (λ (v : List ℕ). SyncsOne v middle new (Err why)) vol c.in_err-sync_one.ensures.synced))

pub returns-in_err-sync_one-clause-lasts : goal.returns-in_err-sync_one-clause-lasts
returns-in_err-sync_one-clause-lasts g c = lasts_more _ _ _ c.loop-at.invariant.2 c.sync_one.ensures.lasts

pub loop-at-preserved : goal.loop-at-preserved
loop-at-preserved g c =
    let holds = g.W.VolumeStore.holds in
    let durable = g.W.VolumeStore.durable in
    let inv = c.loop-at.invariant in
    let s = c.index-spans-at.result in
    let vol : c.span.inside.vol ≡ s.volume = ap (λ (t : Span). t.volume) c.span.view_is in
    let so_far = take c.loop-at.at c.args.spans.now in (
      c.in_ok-sync_one.ensures.synced ∙ inv.0,
      all_next (λ (x : Span). IsDurableIn (holds c.sync_one.new.volumes) (durable c.sync_one.new.volumes) x.volume) c.args.spans.now c.loop-at.at s c.loop-at-test.true
          c.index-spans-at.is
          (all_durable_on so_far (holds c.sync_one.new.volumes) (durable c.loop-at.volumes) (durable c.sync_one.new.volumes) c.sync_one.ensures.lasts
          (subst (λ (told : Option (List Volume)). AreDurable so_far told (durable c.loop-at.volumes)) (sym c.sync_one.ensures.same) inv.1))
          (subst (λ (v : List ℕ). IsDurableIn (holds c.sync_one.new.volumes) (durable c.sync_one.new.volumes) v) vol (c.in_ok-sync_one.ensures.durable inv.1)),
      lasts_more _ _ _ inv.2 c.sync_one.ensures.lasts,
    )
