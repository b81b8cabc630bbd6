-- The text of an instant: a date-time of RFC 3339, section 5.6, in UTC, with three, six or nine decimals.
use Rattle.std.specs.Prelude.{ℕ, zero, suc, ◌+◌, ◌-◌, ◌*◌, ◌/◌, ◌%◌, ◌^◌, ◌==◌, ℤ, pos, unsigned_abs, List, [], ◌∷◌, ◌++◌, length, take, drop, if◌then◌else◌, int_le, ◌+ℤ◌, ◌-ℤ◌, ◌*ℤ◌}
use Rattle.event_tree.specs.Characters.{colon, digit_zero, minus, point}
use Rattle.std.specs.Int.{int_div_euclid, int_rem_euclid}
use Rattle.jiff_core.specs.Calendar.{days_from_civil}

-- the digit of n at the place that p, a power of ten, names
abbrev pub digit : ℕ → ℕ → ℕ
digit p n = digit_zero + n / p % 10

abbrev pub two_digits : ℕ → List ℕ
two_digits n = digit 10 n ∷ digit 1 n ∷ []

abbrev pub four_digits : ℕ → List ℕ
four_digits n = digit 1000 n ∷ digit 100 n ∷ digit 10 n ∷ digit 1 n ∷ []

abbrev pub nine_digits : ℕ → List ℕ
nine_digits n =
    digit 100000000 n ∷ digit 10000000 n ∷ digit 1000000 n
    ∷ digit 100000 n ∷ digit 10000 n ∷ digit 1000 n
    ∷ digit 100 n ∷ digit 10 n ∷ digit 1 n ∷ []

-- of the years 1 to n the last one that begins on the day or before it: 0 where none does
unfoldable pub last_year : ℕ → ℤ → ℕ
last_year zero day = 0
last_year (suc n) day = if int_le (days_from_civil (pos (suc n)) 1 1) day then suc n else last_year n day

-- of the first n months of a year the last one that begins on the day or before it
unfoldable pub last_month : ℕ → ℤ → ℤ → ℕ
last_month zero year day = 0
last_month (suc n) year day = if int_le (days_from_civil year (suc n) 1) day then suc n else last_month n year day

abbrev pub day_nanos : ℤ
day_nanos = pos 86400000000000

-- the day of an instant, from 1970-01-01
abbrev pub day_of : ℤ → ℤ
day_of nanos = int_div_euclid nanos day_nanos

-- the nanoseconds since its day began
abbrev pub nanos_in_day : ℤ → ℕ
nanos_in_day nanos = unsigned_abs (int_rem_euclid nanos day_nanos)

abbrev pub year_of : ℤ → ℕ
year_of nanos = last_year 9999 (day_of nanos)

abbrev pub month_of : ℤ → ℕ
month_of nanos = last_month 12 (pos (year_of nanos)) (day_of nanos)

-- the place of the day in its month, from 1
abbrev pub day_in_month : ℤ → ℕ
day_in_month nanos = unsigned_abs (day_of nanos -ℤ days_from_civil (pos (year_of nanos)) (month_of nanos) 1) + 1

-- year-month-day
abbrev pub date_text : ℕ → ℕ → ℕ → List ℕ
date_text year month day = four_digits year ++ minus ∷ (two_digits month ++ minus ∷ two_digits day)

-- hour:minute:second
abbrev pub clock_text : ℕ → ℕ → ℕ → List ℕ
clock_text hour minute second = two_digits hour ++ colon ∷ (two_digits minute ++ colon ∷ two_digits second)

-- how many decimals hold these nanoseconds of a second: three, six or nine, the least that do
abbrev pub decimals_of : ℕ → ℕ
decimals_of nanos = if nanos % 1000000 == 0 then 3 else (if nanos % 1000 == 0 then 6 else 9)

-- the nanoseconds of a second, behind the point
abbrev pub fraction_text : ℕ → List ℕ
fraction_text nanos = take (decimals_of nanos) (nine_digits nanos)

-- `T` and `Z`
abbrev pub capital_t : ℕ
capital_t = 84

abbrev pub capital_z : ℕ
capital_z = 90

-- a date, a time of day and the nanoseconds of its second, in UTC
abbrev pub date_time_text : List ℕ → List ℕ → List ℕ → List ℕ
date_time_text date clock fraction = date ++ capital_t ∷ (clock ++ point ∷ (fraction ++ capital_z ∷ []))

-- the text of an instant in years 1 to 9999
unfoldable pub time_text_of : ℤ → List ℕ
time_text_of nanos =
    let time = nanos_in_day nanos in
    date_time_text (date_text (year_of nanos) (month_of nanos) (day_in_month nanos))
    (clock_text (time / 3600000000000) (time / 60000000000 % 60) (time / 1000000000 % 60))
    (fraction_text (time % 1000000000))

-- the number that decimal digits write, behind those that write n
abbrev pub digits_value : ℕ → List ℕ → ℕ
digits_value n [] = n
digits_value n (b ∷ bs) = digits_value (10 * n + (b - 48)) bs

-- the number that so many digits of a text write, from a place on
abbrev pub number_in : List ℕ → ℕ → ℕ → ℕ
number_in text from count = digits_value 0 (take count (drop from text))

-- the moment that a date-time in UTC names (RFC 3339, section 5.6), whose seconds have decimals, up to nine: the day by jiff's calendar, and the time of day
unfoldable pub moment_in : List ℕ → ℤ
moment_in text =
    let decimals = length text - 21 in
    let seconds = number_in text 11 2 * 3600 + number_in text 14 2 * 60 + number_in text 17 2 in
    days_from_civil (pos (number_in text 0 4)) (number_in text 5 2) (number_in text 8 2) *ℤ day_nanos
    +ℤ pos (seconds * 1000000000 + number_in text 20 decimals * 10 ^ (9 - decimals))
