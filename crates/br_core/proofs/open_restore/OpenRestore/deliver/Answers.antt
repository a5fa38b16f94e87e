use Rattle.std.proofs.Common.{ap}
use Rattle.br_join.specs.declared.room.Room.{Room}
use Rattle.br_core.proofs.WholeLaws.{joiner_is_ready}
use Rattle.br_core.proofs.open_restore.OpenRestore.deliver.Goals as goal

pub finish-requires-clause-ready : goal.finish-requires-clause-ready
finish-requires-clause-ready g c κs within = joiner_is_ready c.args.self c.requires

-- no data were let go: there is room for all
pub finish-requires-clause-held : goal.finish-requires-clause-held
finish-requires-clause-held g c κs within = ap (λ (r : Room). r.holds_all) c.args.self.parts.room_is
