-- The fields of a publisher, as callers see them.
use Rattle.std.specs.Prelude.{◌≡◌, ◌++◌, MatchOption}
use Rattle.br_keeper.specs.declared.publisher.Publisher.TheInside.{Inside}
use Rattle.br_keeper.specs.Publishing.{Publishing}
use Rattle.br_keeper.specs.Writers.{Shows, listed, waiting_in}

abbrev pub publisher_view : Inside → Publishing
publisher_view p = record { book = p.jobs.book; opening = p.opening.value; published = p.shown.log; added = p.jobs.log }

abbrev pub IsPublisher : Inside → Type 0
IsPublisher p = (p.shown.book ≡ p.jobs.book)
    × MatchOption p.writer ⊥ (λ w. Shows w (waiting_in w ++ listed p.unsent) p.opening.value p.shown p.jobs)
