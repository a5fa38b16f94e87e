-- Jiff's calendar is the model's.
use Rattle.std.proofs.Common.{◌≡◌, ℕ, zero, suc, ◌+◌, ◌-◌, ◌<◌, ◌≤◌, Bool, true, false, ◌||◌, cond, eqb, ltb, leb, nat_lt, [], ◌∷◌, get_or, take, sum, refl, sym, ap, ◌∙◌, arith, ℤ, pos, ◌+ℤ◌, ◌*ℤ◌, ◌^◌, unsigned_abs, to_z, of_z, w8, w16, w64}
use Rattle.std.specs.Prelude.{slice_index}
use Rattle.std.specs.Int.{is_in_range}
use Rattle.std.proofs.lemmas.Bool.{and_parts, leb-true, ltb-true, le-leb, lt-ltb}
use Rattle.jiff_core.specs.Calendar.{days_in_month, days_of_months, day_count, days_from_civil, IsDate}
use Rattle.jiff_core.specs.Date.{IsYmd}
use Rattle.jiff_core.specs.DateTime.{civil_seconds, IsCivilNanos}
use Rattle.jiff_core.specs.Time.{IsTime, IsHms}
use Rattle.jiff_core.specs.declared.civil.datetime.DateTime.{DateTime}
use Rattle.jiff_core.proofs.CalendarLemmas.{days_from_civil-day_count, day_count-day_of_year, days_of_months_table}
use Rattle.jiff_core.proofs.MarchLemmas.{day_count-early}
use Rattle.jiff_core.proofs.SignedLemmas.{signed_arith, signed_casts, back_small}
use Rattle.br_model.specs.Moment.{Moment, is_leap, month_lengths, days_before_year, days_before_month, is_moment, seconds_of}
use Rattle.br_plan.specs.Moment.{IsWritten}

-- ---- days

months_table : (leap : Bool) (n : ℕ) → n < 12
    → get_or (0 ∷ 31 ∷ 59 ∷ 90 ∷ 120 ∷ 151 ∷ 181 ∷ 212 ∷ 243 ∷ 273 ∷ 304 ∷ 334 ∷ []) n 0 + cond (nat_lt 1 n) (cond leap 1 0) 0
    ≡ sum (take n (31 ∷ cond leap 29 28 ∷ 31 ∷ 30 ∷ 31 ∷ 30 ∷ 31 ∷ 31 ∷ 30 ∷ 31 ∷ 30 ∷ 31 ∷ []))
months_table leap zero lt = refl
months_table leap (suc zero) lt = refl
months_table true (suc (suc zero)) lt = refl
months_table true (suc (suc (suc zero))) lt = refl
months_table true (suc (suc (suc (suc zero)))) lt = refl
months_table true (suc (suc (suc (suc (suc zero))))) lt = refl
months_table true (suc (suc (suc (suc (suc (suc zero)))))) lt = refl
months_table true (suc (suc (suc (suc (suc (suc (suc zero))))))) lt = refl
months_table true (suc (suc (suc (suc (suc (suc (suc (suc zero)))))))) lt = refl
months_table true (suc (suc (suc (suc (suc (suc (suc (suc (suc zero))))))))) lt = refl
months_table true (suc (suc (suc (suc (suc (suc (suc (suc (suc (suc zero)))))))))) lt = refl
months_table true (suc (suc (suc (suc (suc (suc (suc (suc (suc (suc (suc zero))))))))))) lt = refl
months_table false (suc (suc zero)) lt = refl
months_table false (suc (suc (suc zero))) lt = refl
months_table false (suc (suc (suc (suc zero)))) lt = refl
months_table false (suc (suc (suc (suc (suc zero))))) lt = refl
months_table false (suc (suc (suc (suc (suc (suc zero)))))) lt = refl
months_table false (suc (suc (suc (suc (suc (suc (suc zero))))))) lt = refl
months_table false (suc (suc (suc (suc (suc (suc (suc (suc zero)))))))) lt = refl
months_table false (suc (suc (suc (suc (suc (suc (suc (suc (suc zero))))))))) lt = refl
months_table false (suc (suc (suc (suc (suc (suc (suc (suc (suc (suc zero)))))))))) lt = refl
months_table false (suc (suc (suc (suc (suc (suc (suc (suc (suc (suc (suc zero))))))))))) lt = refl
months_table leap (suc (suc (suc (suc (suc (suc (suc (suc (suc (suc (suc (suc n)))))))))))) lt = absurd (omega (arith, lt))

-- the days before a month
pub months_same : (year month : ℕ) → 1 ≤ month → month ≤ 12 → days_of_months (pos year) (month - 1) ≡ days_before_month year month
months_same year month low high =
    let lt : month - 1 < 12 = omega (arith, low, high) in
    days_of_months_table (pos year) (month - 1) lt ∙ months_table (is_leap year) (month - 1) lt

-- and before a year
years_same : (year : ℕ) → 1970 ≤ year → day_count (pos year) 1 1 ≡ 4_371_953 + days_before_year year
years_same year from =
    let shifted : pos year +ℤ pos 10000 ≡ pos (suc (year + 9999)) = omega (arith, signed_arith) in
    omega (arith, day_count-early (pos year) (year + 9999) 1 1 shifted (omega arith) (omega arith) (omega arith), from)

-- jiff's day number of a day from 1970 on is the days from the beginning of 1970 to it
pub days_same : (year month day : ℕ) → 1970 ≤ year → 1 ≤ month → month ≤ 12 → 1 ≤ day
    → days_from_civil (pos year) month day ≡ pos (days_before_year year + days_before_month year month + (day - 1))
days_same year month day from low high first =
    let counted = days_from_civil-day_count (pos year) month day in
    let placed = day_count-day_of_year (pos year) month day first in
    let years = years_same year from in
    let months = months_same year month low high in
    omega (arith, signed_arith, counted, placed, years, months, first)

-- ---- which numbers are a moment

-- a day of the calendar from 1970 on, and a time of it
abbrev pub IsOfCalendar : Moment → Type 0
IsOfCalendar m =
    (1970 ≤ m.year) × (1 ≤ m.month) × (m.month ≤ 12) × (1 ≤ m.day) × (m.day ≤ slice_index (month_lengths m.year) (m.month - 1))
    × (m.hour < 24) × (m.minute < 60) × (m.second < 60)

pub calendar_of : (m : Moment) → is_moment m ≡ true → IsOfCalendar m
unfolding is_moment
calendar_of m e =
    let second = and_parts _ (ltb m.second 60) e in
    let minute = and_parts _ (ltb m.minute 60) second.0 in
    let hour = and_parts _ (ltb m.hour 24) minute.0 in
    let day = and_parts _ (is_in_range 1 (slice_index (month_lengths m.year) (m.month - 1)) m.day) hour.0 in
    let month = and_parts (leb 1970 m.year) (is_in_range 1 12 m.month) day.0 in
    let days = and_parts (leb 1 m.day) (leb m.day (slice_index (month_lengths m.year) (m.month - 1))) day.1 in
    let months = and_parts (leb 1 m.month) (leb m.month 12) month.1 in (
      leb-true 1970 m.year month.0,
      leb-true 1 m.month months.0,
      leb-true m.month 12 months.1,
      leb-true 1 m.day days.0,
      leb-true m.day _ days.1,
      ltb-true m.hour 24 hour.1,
      ltb-true m.minute 60 minute.1,
      ltb-true m.second 60 second.1,
    )

pub of_calendar : (m : Moment) → IsOfCalendar m → is_moment m ≡ true
unfolding is_moment
of_calendar m (year, low, high, first, last, hour, minute, second) =
    rw (
      le-leb 1970 m.year year,
      le-leb 1 m.month low,
      le-leb m.month 12 high,
      le-leb 1 m.day first,
      le-leb m.day (slice_index (month_lengths m.year) (m.month - 1)) last,
      lt-ltb m.hour 24 hour,
      lt-ltb m.minute 60 minute,
      lt-ltb m.second 60 second,
    ) refl

lengths_table : (leap : Bool) (month : ℕ) → 1 ≤ month → month ≤ 12
    → slice_index (31 ∷ cond leap 29 28 ∷ 31 ∷ 30 ∷ 31 ∷ 30 ∷ 31 ∷ 31 ∷ 30 ∷ 31 ∷ 30 ∷ 31 ∷ []) (month - 1)
    ≡ cond (eqb month 2) (cond leap 29 28) (cond (eqb month 4 || eqb month 6 || eqb month 9 || eqb month 11) 30 31)
lengths_table leap zero low high = absurd (omega (arith, low))
lengths_table leap (suc zero) low high = refl
lengths_table leap (suc (suc zero)) low high = refl
lengths_table leap (suc (suc (suc zero))) low high = refl
lengths_table leap (suc (suc (suc (suc zero)))) low high = refl
lengths_table leap (suc (suc (suc (suc (suc zero))))) low high = refl
lengths_table leap (suc (suc (suc (suc (suc (suc zero)))))) low high = refl
lengths_table leap (suc (suc (suc (suc (suc (suc (suc zero))))))) low high = refl
lengths_table leap (suc (suc (suc (suc (suc (suc (suc (suc zero)))))))) low high = refl
lengths_table leap (suc (suc (suc (suc (suc (suc (suc (suc (suc zero))))))))) low high = refl
lengths_table leap (suc (suc (suc (suc (suc (suc (suc (suc (suc (suc zero)))))))))) low high = refl
lengths_table leap (suc (suc (suc (suc (suc (suc (suc (suc (suc (suc (suc zero))))))))))) low high = refl
lengths_table leap (suc (suc (suc (suc (suc (suc (suc (suc (suc (suc (suc (suc zero)))))))))))) low high = refl
lengths_table leap (suc (suc (suc (suc (suc (suc (suc (suc (suc (suc (suc (suc (suc n))))))))))))) low high = absurd (omega (arith, high))

-- the days of a month
pub lengths_same : (year month : ℕ) → 1 ≤ month → month ≤ 12 → slice_index (month_lengths year) (month - 1) ≡ days_in_month (pos year) month
lengths_same year month low high = lengths_table (is_leap year) month low high

-- a moment of the calendar is one that jiff has
pub jiff_has : (m : Moment) → IsWritten m → is_moment m ≡ true → IsDate (pos m.year) (pos m.month) (pos m.day) × IsTime (pos m.hour) (pos m.minute) (pos m.second) (pos 0)
jiff_has m written e =
    let (year, low, high, first, last, hour, minute, second) = calendar_of m e in
    let days = lengths_same m.year m.month low high in
    let most = written.0 in
    ((omega (arith, signed_arith), omega (arith, signed_arith), omega (arith, signed_arith)), (omega (arith, signed_arith), omega (arith, signed_arith), omega (arith, signed_arith), omega (arith, signed_arith)))

-- and one from 1970 on that jiff has is of the calendar
pub jiff_lacks : (m : Moment) → 1970 ≤ m.year → IsDate (pos m.year) (pos m.month) (pos m.day) × IsTime (pos m.hour) (pos m.minute) (pos m.second) (pos 0) → is_moment m ≡ true
jiff_lacks m from has =
    let ((year, month, day), (hour, minute, second, subsec)) = has in
    let low : 1 ≤ m.month = omega (arith, signed_arith) in
    let high : m.month ≤ 12 = omega (arith, signed_arith) in
    let days = lengths_same m.year m.month low high in
    of_calendar m (from, low, high, omega (arith, signed_arith), omega (arith, signed_arith), omega (arith, signed_arith), omega (arith, signed_arith), omega (arith, signed_arith))

-- jiff's seconds since 1970 are the model's
pub seconds_same : (m : Moment) (dt : DateTime) → is_moment m ≡ true → IsYmd (pos m.year) (pos m.month) (pos m.day) dt.date → IsHms (pos m.hour) (pos m.minute) (pos m.second) (pos 0) dt.time
    → civil_seconds dt ≡ pos (seconds_of m)
unfolding civil_seconds seconds_of
seconds_same m dt e date time =
    let (from, low, high, first, last, hour, minute, second) = calendar_of m e in
    let days = days_same m.year m.month m.day from low high first in
    rw (date.0, number date.1, number date.2, number time.0, number time.1, number time.2, days) (omega (arith, signed_arith))
  where
    number : {a b : ℕ} → pos a ≡ pos b → a ≡ b
    number e = ap unsigned_abs e

-- ---- the numbers as they are handed over

small_year : (n : ℕ) → n ≤ 9999 → to_z w16 n ≡ pos n
small_year n le = omega (arith, signed_casts)

small_part : (n : ℕ) → n ≤ 99 → to_z w8 n ≡ pos n
small_part n le = omega (arith, signed_casts)

-- what jiff is asked for
abbrev pub IsHanded : Moment → Type 0
IsHanded m = IsDate (to_z w16 m.year) (to_z w8 m.month) (to_z w8 m.day) × IsTime (to_z w8 m.hour) (to_z w8 m.minute) (to_z w8 m.second) (pos 0)

-- and what it gives
abbrev pub IsGiven : Moment → DateTime → Type 0
IsGiven m dt = IsYmd (to_z w16 m.year) (to_z w8 m.month) (to_z w8 m.day) dt.date × IsHms (to_z w8 m.hour) (to_z w8 m.minute) (to_z w8 m.second) (pos 0) dt.time

-- jiff has the moments of the calendar
pub handed : (m : Moment) → IsWritten m → is_moment m ≡ true → IsHanded m
handed m (year, month, day, hour, minute, second) e =
    rw (small_year m.year year, small_part m.month month, small_part m.day day, small_part m.hour hour, small_part m.minute minute, small_part m.second second)
    (jiff_has m (year, month, day, hour, minute, second) e)

-- and no others from 1970 on
pub is_handed : (m : Moment) → IsWritten m → 1970 ≤ m.year → IsHanded m → is_moment m ≡ true
is_handed m (year, month, day, hour, minute, second) from has =
    jiff_lacks m from
    (rw (small_year m.year year, small_part m.month month, small_part m.day day, small_part m.hour hour, small_part m.minute minute, small_part m.second second) at has)

-- its seconds come back from their bits
pub seconds_given : (m : Moment) (dt : DateTime) (z : ℤ) → IsWritten m → is_moment m ≡ true → IsGiven m dt → z ≡ civil_seconds dt → IsCivilNanos (z *ℤ pos 1_000_000_000)
    → (to_z w64 (of_z w64 z) ≡ pos (seconds_of m)) × (seconds_of m < 2 ^ 63)
seconds_given m dt z (year, month, day, hour, minute, second) e given is bound =
    let parts : IsYmd (pos m.year) (pos m.month) (pos m.day) dt.date × IsHms (pos m.hour) (pos m.minute) (pos m.second) (pos 0) dt.time =
    rw (small_year m.year year, small_part m.month month, small_part m.day day, small_part m.hour hour, small_part m.minute minute, small_part m.second second) at given in
    let same : z ≡ pos (seconds_of m) = is ∙ seconds_same m dt e parts.0 parts.1 in
    let small : unsigned_abs z < 2 ^ 63 = omega (arith, signed_arith) in
    (back_small w64 z small ∙ same, omega (arith, ap unsigned_abs same, small))

-- a test is false if its truth makes it false
pub lacks : (b : Bool) → (b ≡ true → false ≡ true) → b ≡ false
lacks true h = sym (h refl)
lacks false h = refl
