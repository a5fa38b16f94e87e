use Rattle.left_right.specs.Sides.{view}
use Rattle.br_keeper.proofs.ShowingLaws.{admits, forks, merges}
use Rattle.br_keeper.proofs.sessions.Session.open.Goals as goal

pub reader-requires : goal.reader-requires
reader-requires c = admits

pub tell-note-requires : goal.tell-note-requires
tell-note-requires c = forks c.args.writer.now.desk.place.id (view c.args.writer.now.desk.place)

pub learn-requires-clause-rule : goal.learn-requires-clause-rule
learn-requires-clause-rule c = merges c.in_ok-reader.reader.place.id (view c.in_ok-reader.reader.place) c.tell-note.result.id (view c.tell-note.result)
