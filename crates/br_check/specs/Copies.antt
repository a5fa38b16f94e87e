-- Files as copies of paths, in sets that have the newest of each.
use Rattle.std.specs.Prelude.{List, ◌++◌, filter}
use Rattle.br_types.specs.Newest.{AreNoted, Copy, is_outdated}
use Rattle.br_types.specs.declared.newest.NewestCopies.{NewestCopies}
use Rattle.br_records.specs.Outline.{Outlined}
use Rattle.br_check.specs.Findings.{copies_at}

-- for any copies that were noted, these are noted before them
abbrev pub NotesFirst : NewestCopies → NewestCopies → List Copy → Type 0
NotesFirst before after cs = (copies : List Copy) → AreNoted before copies → AreNoted after (cs ++ copies)

-- a file as a copy of its path, if there is a newer one among the copies
abbrev pub outdated_at : List Copy → Outlined → List Copy
outdated_at copies o = filter (is_outdated copies) (copies_at o)
