use Rattle.std.proofs.Common.{◌≡◌, take}
use Rattle.br_session.specs.Packing.{Packs}
use Rattle.br_session.proofs.packing.pack.Given as goal

abbrev pub invariant-loop-record : goal.invariant-loop-record
invariant-loop-record l = Packs l.packer (take l.record-index l.records) × (l.packer.session ≡ l.fn.session) × (l.packer.limit ≡ l.limit)
