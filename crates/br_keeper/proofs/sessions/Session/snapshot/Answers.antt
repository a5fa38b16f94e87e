use Rattle.left_right.specs.Sides.{view}
use Rattle.br_keeper.proofs.ShowingLaws.{enters}
use Rattle.br_keeper.proofs.sessions.Session.snapshot.Goals as goal

pub enter_as-requires : goal.enter_as-requires
enter_as-requires c x = enters c.self.inside.reader.place.id (view c.self.inside.reader.place) x
