use Rattle.std.proofs.Common.{rules, ◌≡◌, ℕ, length, refl, ap, ◌∙◌}
use Rattle.br_keeper.specs.Vouching.{changed, longer}
use Rattle.br_keeper.specs.Writing.{shelf}
use Rattle.br_volume.proofs.SyncLaws.{lasts_itself, lasts_more}
use Rattle.br_keeper.proofs.WritingLaws.{cut_off, written_next, written_none}
use Rattle.br_keeper.proofs.appending.append_all.Goals as goal

pub returns-in-Err-clause-appended : goal.returns-in-Err-clause-appended
returns-in-Err-clause-appended g c =
    let holds = g.W.VolumeStore.holds in
    let failures = g.W.VolumeStore.failures in (
      refl,
      cut_off c.args.blocks.now c.loop-block.block-index c.block-item.result (shelf (holds c.args.volumes.now) (failures c.args.volumes.now) c.args.vouches.now)
          (shelf (holds c.loop-block.volumes) (failures c.loop-block.volumes) c.loop-block.vouches) (shelf (holds c.append.new.self) (failures c.append.new.self) c.retire.new.vouches)
          c.loop-block-test.true c.block-item.is c.loop-block.invariant.0 (rw c.deref.ensures.value at c.in-Err.ensures.refused) c.retire.ensures c.in-Err.ensures.failed,
    )

pub loop-block-preserved : goal.loop-block-preserved
loop-block-preserved g c =
    let holds = g.W.VolumeStore.holds in
    let failures = g.W.VolumeStore.failures in
    let len : c.len.result ≡ length c.block-item.result.1.items = search rules in (
      written_next c.args.blocks.now c.loop-block.block-index c.block-item.result (shelf (holds c.args.volumes.now) (failures c.args.volumes.now) c.args.vouches.now)
          (shelf (holds c.loop-block.volumes) (failures c.loop-block.volumes) c.loop-block.vouches) (shelf (holds c.append.new.self) (failures c.append.new.self) c.grow.new.vouches)
          c.loop-block-test.true c.block-item.is c.loop-block.invariant.0 (rw c.deref.ensures.value at c.in-Ok.ensures.appended)
          (c.grow.ensures ∙ ap (λ (n : ℕ). changed (longer n) c.block-item.result.0 c.loop-block.vouches) len) c.in-Ok.ensures.clean,
      lasts_more _ _ _ c.loop-block.invariant.1 c.append.ensures.lasts,
    )

pub returns-in-Err-clause-lasts : goal.returns-in-Err-clause-lasts
returns-in-Err-clause-lasts g c = lasts_more _ _ _ c.loop-block.invariant.1 c.append.ensures.lasts

pub loop-block-init : goal.loop-block-init
loop-block-init g c = (written_none _, lasts_itself _)
