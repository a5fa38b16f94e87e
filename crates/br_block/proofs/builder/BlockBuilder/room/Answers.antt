use Rattle.std.proofs.Common.{arith}
use Rattle.br_block.proofs.BuildingLaws.{size_is}
use Rattle.br_block.proofs.builder.BlockBuilder.room.Goals as goal

pub returns : goal.returns
returns c =
    let size = size_is c.self.inside.session c.self.inside.limit c.self.inside.number c.self.inside.bytes.items c.self.invariant in
    rw (← c.self.view_is) (omega (arith, size, c.self.invariant.most, c.self.inside.bytes.ok))
