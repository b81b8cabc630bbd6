-- The moment that the parts of a time mean: a civil date and a time of day of ISO 8601, on a clock with an offset from UTC.
use Rattle.std.specs.Prelude.{ℕ, ◌+◌, ◌*◌, ◌^◌, ◌&&◌, nat_le, nat_lt, Bool, if◌then◌else◌, Option, Some, None, option_map, option_and_then, ℤ, pos, neg_ℤ, int_le, ◌≤ℤ◌, ◌+ℤ◌, ◌-ℤ◌, ◌*ℤ◌}
use Rattle.jiff_core.specs.Calendar.{days_from_civil, days_in_month}
use Rattle.plain_data.specs.Calendar.{first_moment, last_moment}
use Rattle.event_json.specs.TimeText.{day_nanos}
use Rattle.event_times.specs.declared.moment.TimeParts.{TimeParts}
pub use Rattle.event_json.specs.TimeText.{year_of}

-- the calendar has this date, in the years 0 to 9999
abbrev pub is_date : ℕ → ℕ → ℕ → Bool
is_date year month day = nat_le year 9999 && (nat_le 1 month && (nat_le month 12 && (nat_le 1 day && nat_le day (days_in_month (pos year) month))))

-- a clock shows this time of day
abbrev pub is_clock : TimeParts → Bool
is_clock p = nat_lt p.hour 24 && (nat_lt p.minute 60 && (nat_lt p.second 60 && nat_lt p.nanos (10 ^ 9)))

-- the nanoseconds since midnight
abbrev pub clock_nanos : TimeParts → ℕ
clock_nanos p = (p.hour * 3600 + p.minute * 60 + p.second) * 10 ^ 9 + p.nanos

-- the day of a date, counted from 1970-01-01
abbrev pub day_number : ℕ → ℕ → ℕ → Option ℤ
day_number year month day = if is_date year month day then Some (days_from_civil (pos year) month day) else None

abbrev pub clock_of : TimeParts → Option ℕ
clock_of p = if is_clock p then Some (clock_nanos p) else None

-- the nanoseconds from 1970 to what such a clock shows in this year
abbrev pub shown_in : TimeParts → ℕ → Option ℤ
shown_in p year =
    option_and_then (λ day. option_map (λ nanos. day *ℤ day_nanos +ℤ pos nanos) (clock_of p)) (day_number year p.month p.day)

-- within the days that jiff's calendar has
abbrev pub IsShown : ℤ → Type 0
IsShown nanos = (neg_ℤ (pos (10 ^ 21)) ≤ℤ nanos) × (nanos ≤ℤ pos (10 ^ 21))

-- a moment in the years 0001 to 9999
abbrev pub moment_in_years : ℤ → Option ℤ
moment_in_years nanos = if int_le first_moment nanos && int_le nanos last_moment then Some nanos else None

abbrev pub offset_or : ℤ → Option ℤ → ℤ
offset_or offset None = offset
offset_or offset (Some own) = own

-- the moment at which a clock with the offset shows the parts; their own offset comes first
abbrev pub moment_of : TimeParts → ℤ → Option ℤ
moment_of p offset =
    option_and_then (λ shown. moment_in_years (shown -ℤ offset_or offset p.offset *ℤ pos (10 ^ 9))) (option_and_then (shown_in p) p.year)
