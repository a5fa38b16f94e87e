use Rattle.std.proofs.Common.{ℕ, List, map, take}
use Rattle.std.specs.Global.{Vec}
use Rattle.br_volume.specs.Store.{AreAppendedInTurn}
use Rattle.br_core.proofs.committing.append_all.Given as goal

-- the blocks so far are appended
abbrev pub invariant-loop-block : goal.invariant-loop-block
invariant-loop-block l = AreAppendedInTurn (map (λ (b : List ℕ × Vec ℕ). (b.0, b.1.items)) (take l.block-index l.blocks)) l.initial.store.volumes l.store.volumes
