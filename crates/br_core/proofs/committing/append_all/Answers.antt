use Rattle.std.proofs.Common.{ℕ, ◌≤◌, List, length, map, subst, rules}
use Rattle.std.proofs.lemmas.List.{take_all}
use Rattle.std.specs.Global.{Vec}
use Rattle.br_volume.specs.Store.{AreAppendedInTurn}
use Rattle.br_core.proofs.BackupLaws.{turn_more}
use Rattle.br_core.proofs.committing.append_all.Goals as goal

pub loop-block-preserved : goal.loop-block-preserved
loop-block-preserved c =
    turn_more c.args.blocks.now c.loop-block.block-index c.block-item.result c.args.store.now.volumes c.loop-block.store.volumes c.append.new.self.volumes c.loop-block-test.true c.block-item.is
    c.loop-block.invariant (rw c.deref.ensures.value at c.in-Ok.ensures.appended)

pub returns : goal.returns
returns c =
    let i = c.loop-block.block-index in
    let blocks = c.args.blocks.now in
    let end : length blocks ≤ i = search rules in
    subst (λ (bs : List (List ℕ × Vec ℕ)). AreAppendedInTurn (map (λ (b : List ℕ × Vec ℕ). (b.0, b.1.items)) bs) c.args.store.now.volumes c.loop-block.store.volumes) (take_all i blocks end)
    c.loop-block.invariant
