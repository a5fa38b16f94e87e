use Rattle.std.proofs.Common.{◌≡◌, ◌<◌, ◌^◌, List, length}
use Rattle.br_model.specs.Record.{Record}
use Rattle.br_model.specs.Session.{block_size}
use Rattle.br_session.specs.Packing.{Packs, IsUnderWay}
use Rattle.br_session.proofs.packing.Packer.add.Given as goal

abbrev pub invariant-loop-left : goal.invariant-loop-left
invariant-loop-left l =
    (length l.left < 2 ^ 32) × (0 < length l.left → block_size l.self.current.fragments ≡ l.self.limit)
    × (l.self.session ≡ l.fn.self.session) × (l.self.limit ≡ l.fn.self.limit)
    × ((records : List Record) → Packs l.fn.self records → IsUnderWay l.self records (record { index = l.index; stream = l.fn.stream; bytes = l.fn.bytes }) l.left)

abbrev pub decreases-loop-left : goal.decreases-loop-left
decreases-loop-left l = length l.left
