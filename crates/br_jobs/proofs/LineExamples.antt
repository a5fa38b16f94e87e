-- The lines of jobs, by example.
use Rattle.std.proofs.Common.{◌≡◌, ℕ, true, false, List, [], ◌∷◌, ◌++◌, None, refl, inl, inr}
use Rattle.std.specs.Prelude.{codes}
use Rattle.std.specs.Fmt.{digits}
use Rattle.br_model.specs.Job.{FileRow, JobRows, Span}
use Rattle.br_model.specs.Text.{escaped, hexadecimal, words}
use Rattle.br_model.specs.Attribute.{read_numbers, read_stat, stat_from}
use Rattle.br_model.specs.Moment.{is_moment, is_moment_text, read_moment, seconds_of}
use Rattle.br_model.specs.Number.{digit64, magnitude, read_number}
use Rattle.br_jobs.specs.ListingLine.{IsLine, IsMoment, bytes_of, later_text, volumes_text}
use Rattle.br_jobs.specs.LocalTime.{IsLineIn, IsLocal, IsLocalLine}
use Rattle.br_jobs.specs.declared.time_zones.Zones.TheVariants.{Utc}

-- a row of a file of five bytes, or of a deletion if the index is 0
abbrev row : List ℕ → ℕ → FileRow
row path index = record { path = path; index = index; lstat = codes "A A A A A A A F A A A A A"; digest = None }

abbrev span : List ℕ → Span
span volume = record { volume = volume; first = 0; last = 99; start = 1; end = 3; vol_index = 0 }

-- a file, a directory and a deletion; three spans on two volumes
job : JobRows
job = record {
  row = record {
    id = 7;
    kind = 66;
    level = 70;
    status = 84;
    start = 250;
    session = record { id = 1; time = 100 };
    client = codes "c";
    fileset = codes "f s";
  };
  files = row (codes "/a") 1 ∷ row (codes "/b/") 2 ∷ row (codes "/c") 0 ∷ [];
  spans = span (codes "V") ∷ span (codes "V") ∷ span (codes "W") ∷ [];
}

-- ---- parts

bytes_of_a_file : bytes_of (row (codes "/a") 1) ∷ bytes_of (row (codes "/b/") 2) ∷ bytes_of (row (codes "/c") 0) ∷ [] ≡ 5 ∷ 0 ∷ 0 ∷ []
unfolding read_numbers stat_from words digit64 magnitude read_number read_stat
bytes_of_a_file = refl

no_volumes : volumes_text [] ≡ codes "-"
no_volumes = refl

repeated_volumes_come_once : volumes_text (span (codes "V") ∷ span (codes "V") ∷ span (codes "W") ∷ span (codes "V") ∷ []) ≡ codes "V,W,V"
unfolding later_text escaped hexadecimal
repeated_volumes_come_once = refl

moment_is_a_moment : IsMoment 250 (codes "1970-01-01 00:04:10")
unfolding is_moment is_moment_text read_moment seconds_of
moment_is_a_moment = inl refl

moment_after_9999 : IsMoment 253402300800 (codes "@253402300800")
unfolding digits
moment_after_9999 = inr refl

-- ---- lines

line_of_a_job : IsLine true job (codes "* 7 F T 1970-01-01 00:04:10 c f\\x20s 2 5 V,W" ++ 10 ∷ [])
unfolding job is_moment is_moment_text read_moment seconds_of read_numbers stat_from words digit64 magnitude read_number read_stat later_text escaped hexadecimal digits
line_of_a_job = (codes "1970-01-01 00:04:10", inl refl, refl)

line_of_another_job : IsLine false job (codes "- 7 F T 1970-01-01 00:04:10 c f\\x20s 2 5 V,W" ++ 10 ∷ [])
unfolding job is_moment is_moment_text read_moment seconds_of read_numbers stat_from words digit64 magnitude read_number read_stat later_text escaped hexadecimal digits
line_of_another_job = (codes "1970-01-01 00:04:10", inl refl, refl)

moment_of_no_zone : IsLocal None 250 (codes "- -")
moment_of_no_zone = refl

line_without_a_zone : IsLocalLine None true job (codes "* 7 F T 1970-01-01 00:04:10 - - c f\\x20s 2 5 V,W" ++ 10 ∷ [])
unfolding job is_moment is_moment_text read_moment seconds_of read_numbers stat_from words digit64 magnitude read_number read_stat later_text escaped hexadecimal digits
line_without_a_zone = (codes "1970-01-01 00:04:10", codes "- -", inl refl, refl, refl)

line_in_utc : IsLineIn Utc false job (codes "- 7 F T 1970-01-01 00:04:10 c f\\x20s 2 5 V,W" ++ 10 ∷ [])
unfolding job is_moment is_moment_text read_moment seconds_of read_numbers stat_from words digit64 magnitude read_number read_stat later_text escaped hexadecimal digits
line_in_utc = (codes "1970-01-01 00:04:10", inl refl, refl)
