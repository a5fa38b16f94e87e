use Rattle.std.proofs.Common.{arith}
use Rattle.br_model.specs.BootstrapText.{is_group}
use Rattle.br_damage.proofs.NarrowLaws.{leaves_more}
use Rattle.br_damage.proofs.ValidLaws.{kept_more}
use Rattle.br_damage.proofs.narrowed_bootstrap.without.Goals as goal

pub loop-group-preserved : goal.loop-group-preserved
loop-group-preserved c =
    let groups = c.args.groups.now in
    let old = c.loop-group.left.items in
    let new = c.push_narrowed.new.left.items in
    let at = c.loop-group.group-index in
    let so_far = c.loop-group.invariant.few in
    let more = c.in_ok-push_narrowed.ensures.valid.few in
    record {
      left =
          leaves_more c.args.lost.now.spans.items groups old new at c.group-item.result
          c.loop-group-test.true c.group-item.is c.loop-group.invariant.left c.in_ok-push_narrowed.ensures.left;
      few = omega (arith, so_far, more);
      valid =
          kept_more is_group is_group groups old new at c.group-item.result
          c.loop-group-test.true c.group-item.is c.loop-group.invariant.valid c.in_ok-push_narrowed.ensures.valid.valid;
    }
