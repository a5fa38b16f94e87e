-- The line of a job with its moment also in a time zone.
use Rattle.std.specs.Prelude.{◌≡◌, ◌⊎◌, ℕ, ◌==◌, ◌*◌, ℤ, pos, ◌+ℤ◌, Bool, true, false, List, ◌∷◌, ◌++◌, flat_map, if◌then◌else◌, map, codes, Option, Some, None, option_map}
use Rattle.std.specs.Borrow.{Bor}
use Rattle.std.specs.List.{AllZip}
use Rattle.br_model.specs.Job.{JobRows}
use Rattle.br_jobs.specs.JobFilter.{is_listed}
use Rattle.jiff.specs.Types.{DateTime, Offset, TimeZone}
use Rattle.jiff.specs.Words.{civil_nanos, iso_datetime_text, nanos_of_seconds, offset_at, offset_text, plain_zone, IsTimestampNanos}
use Rattle.br_jobs.specs.ListingLine.{IsLine, IsMoment, is_chosen, rest_text, start_text}
use Rattle.br_jobs.specs.declared.job_filter.Filter.{Filter}
use Rattle.br_jobs.specs.declared.time_zones.Zones.{Zones}
use Rattle.br_jobs.specs.declared.time_zones.Zones.TheVariants.{Utc, UtcAndLocal}

-- the nanoseconds from the beginning of 1970 to a moment
abbrev pub nanos_at : ℕ → ℤ
nanos_at seconds = pos (seconds * 1_000_000_000)

-- a blank in place of a T
abbrev pub blank_for_t : ℕ → ℕ
blank_for_t byte = if byte == 84 then 32 else byte

-- date and time on the zone's clock with a blank between them, and the zone's offset then, as
-- 2026-11-22 00:15:33+01:00
abbrev pub IsOnClock : TimeZone → ℤ → List ℕ → Type 0
IsOnClock zone nanos text =
    (clock : DateTime) × (offset : Offset) × (offset.seconds ≡ offset_at zone nanos)
    × (civil_nanos clock ≡ nanos +ℤ nanos_of_seconds offset.seconds) × (text ≡ map blank_for_t (iso_datetime_text clock ++ offset_text offset))

-- no instant is this number of nanoseconds from the beginning of 1970: the last second of all is
-- 9999-12-30 22:00:00 in UTC
abbrev pub IsBeyond : ℤ → Type 0
IsBeyond nanos = IsTimestampNanos nanos → ⊥

-- the text of a moment in a zone; two - if the moment is beyond the last instant
abbrev pub IsShownIn : TimeZone → ℕ → List ℕ → Type 0
IsShownIn zone seconds text =
    (IsTimestampNanos (nanos_at seconds) × IsOnClock zone (nanos_at seconds) text) ⊎ (IsBeyond (nanos_at seconds) × (text ≡ codes "- -"))

-- the text of a moment in a zone; two - if the zone is not known
abbrev pub IsLocal : Option TimeZone → ℕ → List ℕ → Type 0
IsLocal None seconds text = text ≡ codes "- -"
IsLocal (Some zone) seconds text = IsShownIn zone seconds text

-- the line of a job with its moment in a zone after that in UTC
abbrev pub IsLocalLine : Option TimeZone → Bool → JobRows → List ℕ → Type 0
IsLocalLine zone chosen j line =
    (moment : List ℕ) × (local : List ℕ) × IsMoment j.row.start moment × IsLocal zone j.row.start local
    × (line ≡ start_text chosen j ++ moment ++ 32 ∷ local ++ rest_text j)

-- the line of a job with its moment in these zones
abbrev pub IsLineIn : Zones → Bool → JobRows → List ℕ → Type 0
IsLineIn Utc chosen j line = IsLine chosen j line
IsLineIn (UtcAndLocal zone) chosen j line = IsLocalLine (option_map plain_zone zone) chosen j line

-- a line for each job with its moment in these zones; these jobs are chosen
abbrev pub AreLinesIn : Zones → List (Bor JobRows) → List JobRows → List ℕ → Type 0
AreLinesIn zones chosen jobs text =
    (lines : List (List ℕ)) × AllZip (λ j line. IsLineIn zones (is_chosen chosen j) j line) jobs lines × (text ≡ flat_map (λ line. line) lines)

-- the line of a job was appended if the job is listed, else nothing was
abbrev pub AppendsLineIn : Zones → Bool → Bool → JobRows → List ℕ → List ℕ → Type 0
AppendsLineIn zones true chosen j before after = (line : List ℕ) × IsLineIn zones chosen j line × (after ≡ before ++ line)
AppendsLineIn zones false chosen j before after = after ≡ before

-- the line of a job was appended if the filter lists the job
abbrev pub AppendsJob : Zones → Filter → Bool → JobRows → List ℕ → List ℕ → Type 0
AppendsJob zones f chosen j before after = AppendsLineIn zones (is_listed f j) chosen j before after
