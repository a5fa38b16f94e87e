use Rattle.std.proofs.Common.{List, Option, subst, ◌∙◌, arith}
use Rattle.std.proofs.lemmas.Result.{err_from_is_err_and}
use Rattle.br_model.specs.Volume.{Volume}
use Rattle.br_keeper.specs.Writing.{IsVouched}
use Rattle.br_keeper.proofs.WritingLaws.{all_next, refused_at}
use Rattle.br_keeper.proofs.appending.check_volumes.Goals as goal

pub returns-in_err-check_volume-clause-checked : goal.returns-in_err-check_volume-clause-checked
returns-in_err-check_volume-clause-checked g c =
    let p = err_from_is_err_and c.from_residual.result c.from_residual.ensures.1 in
    let inv = c.loop-start.invariant in
    let failures = g.W.VolumeStore.failures in
    rw (p.1, p.2)
    (refused_at c.args.vouches.now _ _ c.args.starts.now c.loop-start.start-index c.start-item.result (failures c.args.volumes.now) (failures c.loop-start.volumes) _ c.in_err-check_volume.field-0.0 c.loop-start-test.true c.start-item.is inv.2 inv.0
    inv.1 c.in_err-check_volume.ensures.checked)

pub loop-start-preserved : goal.loop-start-preserved
loop-start-preserved g c =
    let inv = c.loop-start.invariant in
    let e = c.in_ok-check_volume.ensures in (
      e.same ∙ inv.0,
      omega (arith, inv.1, e.counted),
      all_next (IsVouched c.args.vouches.now (g.W.VolumeStore.holds c.args.volumes.now)) c.args.starts.now c.loop-start.start-index c.start-item.result c.loop-start-test.true c.start-item.is inv.2
          (subst (λ (v : Option (List Volume)). IsVouched c.args.vouches.now v c.start-item.result) inv.0 e.checked),
      e.settled ∙ inv.3,
      e.clean ∙ inv.4,
    )
