-- The fields of a session and of a snapshot, as callers see them.
use Rattle.std.specs.Prelude.{◌≡◌, ◌++◌}
use Rattle.left_right.specs.Sides.{view}
use Rattle.br_keeper.specs.declared.sessions.Session.TheInside.{Inside as SessionInside}
use Rattle.br_keeper.specs.declared.sessions.Snapshot.TheInside.{Inside as SnapshotInside}
use Rattle.br_keeper.specs.Keeps.{knowing}
use Rattle.br_keeper.specs.Sessions.{Known}

abbrev pub session_view : SessionInside → Known
session_view s = record { book = s.front.book; opening = (view s.reader.place).opening; list = s.front.log }

abbrev pub IsSession : SessionInside → Type 0
IsSession s = view s.reader.place ≡ knowing s.front.book (view s.reader.place).opening

abbrev pub snapshot_view : SnapshotInside → Known
snapshot_view s = record { book = s.front.book; opening = (view s.reading.place).opening; list = s.front.log }

abbrev pub IsSnapshot : SnapshotInside → Type 0
IsSnapshot s = (view s.reading.place ≡ knowing s.front.book (view s.reading.place).opening) × (s.reading.part.value.history ≡ (view s.reading.place).opening ++ s.front.log)
