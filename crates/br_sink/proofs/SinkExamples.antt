-- What a sink has after more files, by example.
use Rattle.std.proofs.Common.{ℕ, List, [], ◌∷◌, None, Some, refl}
use Rattle.std.specs.Prelude.{codes}
use Rattle.br_model.specs.Attribute.{stat_from}
use Rattle.br_model.specs.File.{Item}
use Rattle.br_sink.specs.Sink.{HasMore}

abbrev file : List ℕ → Item
file path = record { path = path; kind = 3; stat = stat_from []; link = []; bytes = []; skipped = 0 }

more_files_come_last : HasMore (file (codes "/b") ∷ []) (Some (file (codes "/a") ∷ [])) (Some (file (codes "/a") ∷ file (codes "/b") ∷ []))
more_files_come_last = refl

-- a sink that reports no files reports none later, and nothing else is said of it
nothing_is_reported : HasMore (file (codes "/a") ∷ []) None None
nothing_is_reported = tt

never_reports_later : HasMore [] None (Some []) → ⊥
never_reports_later said = said

always_reports : HasMore [] (Some []) None → ⊥
always_reports said = said
