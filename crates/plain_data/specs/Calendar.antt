-- The days of the proleptic Gregorian calendar (ISO 8601), and the moments of its years 0001 to 9999.
use Rattle.std.specs.Prelude.{ℕ, ◌+◌, ◌-◌, ◌*◌, ◌/◌, ◌^◌, ℤ, pos, neg_ℤ, ◌≤ℤ◌}

-- the days from 0001-01-01 to the first day of a year: 365 a year, and one more for each year that is divisible by 4, but by 100 only where also by 400
abbrev pub days_before : ℕ → ℕ
days_before year = 365 * (year - 1) + (year - 1) / 4 - (year - 1) / 100 + (year - 1) / 400

-- the nanoseconds of so many days of 86,400 seconds
abbrev pub nanos_in_days : ℕ → ℕ
nanos_in_days days = days * 86400 * 10 ^ 9

-- 0001-01-01T00:00:00Z, as nanoseconds from 1970-01-01T00:00:00Z
abbrev pub first_moment : ℤ
first_moment = neg_ℤ (pos (nanos_in_days (days_before 1970)))

-- 9999-12-31T23:59:59.999999999Z, one nanosecond before the year 10000
abbrev pub last_moment : ℤ
last_moment = pos (nanos_in_days (days_before 10000 - days_before 1970) - 1)

-- a number of nanoseconds from 1970 lies in the years 0001 to 9999
pub record IsMoment (nanos : ℤ) : Type 0 where
  pub from_first : first_moment ≤ℤ nanos
  pub to_last : nanos ≤ℤ last_moment
