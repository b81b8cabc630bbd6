-- The year, month and day that the text of an instant names are those of the calendar's date.
use Rattle.std.proofs.Common.{◌≡◌, ◌==◌, ℕ, zero, suc, ◌+◌, ◌-◌, ◌/◌, ◌%◌, ◌<◌, ◌≤◌, ◌⊎◌, Bool, true, false, if◌then◌else◌, inl, inr, refl, sym, ap, subst, ◌∙◌, arith, rules, ℤ, pos, negsuc, ◌+ℤ◌, ◌-ℤ◌, ◌≤ℤ◌, ◌<ℤ◌, unsigned_abs, to_z, of_z, to_z-of_z}
use Rattle.std.specs.Int.{w128}
use Rattle.std.proofs.lemmas.Bool.{cases_order}
use Rattle.std.proofs.lemmas.Int.{ints, by_lt_z}
use borrow.Rule.Slice.PartMut.{put_mid}
use Rattle.std.proofs.Math.ListN.{replicate}
use Rattle.std.specs.Prelude.{int_le, List, ◌++◌, take, slice_set}
use Rattle.jiff_core.specs.declared.civil.date.Date.{Date}
use Rattle.jiff_core.specs.declared.civil.datetime.DateTime.{DateTime}
use Rattle.jiff_core.specs.Calendar.{days_from_civil, day_count, days_of_years, days_of_months}
use Rattle.jiff_core.specs.Date.{epoch_day}
use Rattle.jiff_core.specs.Time.{time_nanos}
use Rattle.jiff_core.specs.DateTime.{civil_nanos}
use Rattle.jiff_core.proofs.SignedLemmas.{signed_arith, fits_between}
use Rattle.jiff_core.proofs.CalendarLemmas.{days_in_month_bounds, days_from_civil-day_count}
use Rattle.jiff_core.proofs.MarchLemmas.{days_of_years-march_days}
use Rattle.jiff_core.proofs.DateLemmas.{epoch_day-lt, days_from_civil-day}
use Rattle.jiff_core.proofs.IsoWeekLemmas.{epoch_day-year}
use Rattle.jiff_core.proofs.DateTimeLemmas.{civil_nanos-parts, epoch_day-civil_nanos, time_nanos_bound}
use Rattle.plain_data.specs.Calendar.{IsMoment, first_moment}
use Rattle.event_json.specs.TimeText.{date_time_text, fraction_text, date_text, clock_text, nine_digits, decimals_of, time_text_of, last_year, last_month, year_of, month_of, day_in_month, nanos_in_day, day_of}

le_is : (a b : ℤ) → a ≤ℤ b → int_le a b ≡ true
le_is a b h = grind (arith, ints)

gt_is : (a b : ℤ) → b <ℤ a → int_le a b ≡ false
gt_is a b h = grind (arith, ints)

year_begin : (y : ℕ) → 1 ≤ y → y ≤ 9999 → Date
year_begin y low high = record { year = pos y; month = 1; day = 1; year_in = omega (arith, signed_arith); month_in = search rules; day_in = search rules }

month_begin : (d : Date) (m : ℕ) → 1 ≤ m → m ≤ 12 → Date
month_begin d m low high = record { year = d.year; month = m; day = 1; year_in = d.year_in; month_in = (low, high); day_in = omega (arith, days_in_month_bounds d.year m) }

-- a later year begins after the day
later_year : (d : Date) (y : ℕ) → d.year <ℤ pos y → y ≤ 9999 → 1 ≤ y → epoch_day d <ℤ days_from_civil (pos y) 1 1
unfolding year_begin
later_year d y later high low = epoch_day-lt d (year_begin y low high) (inl later)

later_month : (d : Date) (m : ℕ) → d.month < m → m ≤ 12 → epoch_day d <ℤ days_from_civil d.year m 1
unfolding month_begin
later_month d m later high = epoch_day-lt d (month_begin d m (omega arith) high) (inr (refl, inl later))

-- a date's own year begins on the day or before it, and so does its own month
own_year : (d : Date) (y : ℕ) → pos y ≡ d.year → days_from_civil (pos y) 1 1 ≤ℤ epoch_day d
own_year d y e = subst (λ z. days_from_civil z 1 1 ≤ℤ epoch_day d) (sym e) (epoch_day-year d (d.year +ℤ pos 1) refl).0

own_month : (d : Date) → days_from_civil d.year d.month 1 ≤ℤ epoch_day d
own_month d = omega (arith, signed_arith, days_from_civil-day d.year d.month 1 d.day (omega arith) d.day_in.0, d.day_in)

pub last_year-date : (n y : ℕ) (d : Date) → pos y ≡ d.year → 1 ≤ y → y ≤ n → n ≤ 9999 → last_year n (epoch_day d) ≡ y
unfolding last_year
last_year-date zero y d e low most high = absurd (omega arith)
last_year-date (suc n) y d e low most high = elim (cases_order y (suc n)) [
  | inl same ↦ let t : int_le (days_from_civil (pos (suc n)) 1 1) (epoch_day d) ≡ true = le_is _ _ (own_year d (suc n) (ap pos (sym same) ∙ e)) in rw t (sym same)
  | inr (inl less) ↦ let t : int_le (days_from_civil (pos (suc n)) 1 1) (epoch_day d) ≡ false = gt_is _ _ (later_year d (suc n) (omega (arith, signed_arith)) high (omega arith)) in rw t (last_year-date n y d e low (omega arith) (omega arith))
  | inr (inr more) ↦ absurd (omega arith)
]

pub last_month-date : (n : ℕ) (d : Date) → d.month ≤ n → n ≤ 12 → last_month n d.year (epoch_day d) ≡ d.month
unfolding last_month
last_month-date zero d most high = absurd (omega (arith, d.month_in))
last_month-date (suc n) d most high = elim (cases_order d.month (suc n)) [
  | inl same ↦ let t : int_le (days_from_civil d.year (suc n) 1) (epoch_day d) ≡ true = le_is _ _ (subst (λ m. days_from_civil d.year m 1 ≤ℤ epoch_day d) same (own_month d)) in rw t (sym same)
  | inr (inl less) ↦ let t : int_le (days_from_civil d.year (suc n) 1) (epoch_day d) ≡ false = gt_is _ _ (later_month d (suc n) less high) in rw t (last_month-date n d (omega arith) (omega arith))
  | inr (inr more) ↦ absurd (omega arith)
]

-- 0001-01-01 is day -719162
first_count : day_count (pos 1) 1 1 ≡ days_of_years 10001
unfolding day_count days_of_months
first_count = omega arith

first_day : days_from_civil (pos 1) 1 1 ≡ negsuc 719161
first_day = omega (arith, signed_arith, days_from_civil-day_count (pos 1) 1 1, first_count, days_of_years-march_days 10001)

-- so a day from then on has a year from 1 on
pub year_low : (d : Date) → negsuc 719162 <ℤ epoch_day d → pos 1 ≤ℤ d.year
unfolding year_begin
year_low d h = by_lt_z d.year (pos 1) (λ low. absurd (omega (arith, signed_arith, first_day, epoch_day-lt d (year_begin 1 (omega arith) (omega arith)) (inl low)))) (λ high. omega (arith, signed_arith))

pub instant_year : (dt : DateTime) → first_moment ≤ℤ civil_nanos dt → pos 1 ≤ℤ dt.date.year
instant_year dt low = year_low dt.date (omega (arith, signed_arith, civil_nanos-parts dt, time_nanos_bound dt.time))

-- the parts of an instant's text are those of the date and of the clock
pub record Shown (nanos : ℤ) (dt : DateTime) : Type 0 where
  pub year : year_of nanos ≡ unsigned_abs dt.date.year
  pub month : month_of nanos ≡ dt.date.month
  pub day : day_in_month nanos ≡ dt.date.day
  pub hour : nanos_in_day nanos / 3600000000000 ≡ dt.time.hour
  pub minute : nanos_in_day nanos / 60000000000 % 60 ≡ dt.time.minute
  pub second : nanos_in_day nanos / 1000000000 % 60 ≡ dt.time.second
  pub fraction : nanos_in_day nanos % 1000000000 ≡ dt.time.subsec_nanosecond

pub pos_abs : (z : ℤ) → pos 1 ≤ℤ z → pos (unsigned_abs z) ≡ z
pos_abs (pos n) h = refl
pos_abs (negsuc n) h = absurd (omega (arith, signed_arith))

pub year_bounds : (z : ℤ) → pos 1 ≤ℤ z → z ≤ℤ pos 9999 → (1 ≤ unsigned_abs z) × (unsigned_abs z ≤ 9999)
year_bounds (pos n) low high = omega (arith, signed_arith)
year_bounds (negsuc n) low high = absurd (omega (arith, signed_arith))

time_is : (dt : DateTime) → nanos_in_day (civil_nanos dt) ≡ time_nanos dt.time
time_is dt = omega (arith, signed_arith, civil_nanos-parts dt, time_nanos_bound dt.time)

year_is : (dt : DateTime) → pos 1 ≤ℤ dt.date.year → year_of (civil_nanos dt) ≡ unsigned_abs dt.date.year
year_is dt low = ap (last_year 9999) (sym (epoch_day-civil_nanos dt)) ∙ last_year-date 9999 (unsigned_abs dt.date.year) dt.date (pos_abs dt.date.year low) (year_bounds dt.date.year low dt.date.year_in.1).0 (year_bounds dt.date.year low dt.date.year_in.1).1 (omega arith)

month_is : (dt : DateTime) → pos 1 ≤ℤ dt.date.year → month_of (civil_nanos dt) ≡ dt.date.month
month_is dt low =
    ap (λ y. last_month 12 (pos y) (day_of (civil_nanos dt))) (year_is dt low) ∙ ap (λ y. last_month 12 y (day_of (civil_nanos dt))) (pos_abs dt.date.year low)
    ∙ ap (last_month 12 dt.date.year) (sym (epoch_day-civil_nanos dt)) ∙ last_month-date 12 dt.date dt.date.month_in.1 (omega arith)

day_part : (y : ℤ) (m d : ℕ) (day : ℤ) → day ≡ days_from_civil y m d → 1 ≤ d → unsigned_abs (day -ℤ days_from_civil y m 1) + 1 ≡ d
day_part y m d day e low = let n : (day -ℤ days_from_civil y m 1) ≡ pos (d - 1) = omega (arith, signed_arith, e, days_from_civil-day y m 1 d (omega arith) low) in rw n (omega arith)

day_is : (dt : DateTime) → pos 1 ≤ℤ dt.date.year → day_in_month (civil_nanos dt) ≡ dt.date.day
day_is dt low =
    let day = day_of (civil_nanos dt) in
    ap (λ y. unsigned_abs (day -ℤ days_from_civil (pos y) (month_of (civil_nanos dt)) 1) + 1) (year_is dt low)
    ∙ ap (λ y. unsigned_abs (day -ℤ days_from_civil y (month_of (civil_nanos dt)) 1) + 1) (pos_abs dt.date.year low)
    ∙ ap (λ m. unsigned_abs (day -ℤ days_from_civil dt.date.year m 1) + 1) (month_is dt low)
    ∙ day_part dt.date.year dt.date.month dt.date.day day (sym (epoch_day-civil_nanos dt)) dt.date.day_in.0

pub shown : (dt : DateTime) → pos 1 ≤ℤ dt.date.year → Shown (civil_nanos dt) dt
shown dt low = record {
  year = year_is dt low;
  month = month_is dt low;
  day = day_is dt low;
  hour = rw (time_is dt) (omega arith);
  minute = rw (time_is dt) (omega arith);
  second = rw (time_is dt) (omega arith);
  fraction = rw (time_is dt) (omega arith);
}

abbrev nat : ℕ → ℕ
nat n = n

least_of : (a b : Bool) → ((if a then 3 else (if b then 6 else 9)) ≡ nat 3) ⊎ (((if a then 3 else (if b then 6 else 9)) ≡ nat 6) ⊎ ((if a then 3 else (if b then 6 else 9)) ≡ nat 9))
least_of true b = inl refl
least_of false true = inr (inl refl)
least_of false false = inr (inr refl)

pub three_six_nine : (f : ℕ) → (decimals_of f ≡ 3) ⊎ ((decimals_of f ≡ 6) ⊎ (decimals_of f ≡ 9))
three_six_nine f = least_of (f % 1000000 == 0) (f % 1000 == 0)

-- an instant's nanoseconds fit 128 bits
from_bits : (z : ℤ) → IsMoment z → to_z w128 (of_z w128 z) ≡ z
from_bits z moment = to_z-of_z (fits_between w128 z (omega (arith, signed_arith)))

pub is_nanos : (moment z : ℤ) → z ≡ moment → IsMoment moment → to_z w128 (of_z w128 z) ≡ z
is_nanos moment z is in_range = from_bits z (subst IsMoment (sym is) in_range)

-- a buffer of 30 bytes, filled part by part
abbrev buffer : List ℕ → List ℕ → List ℕ → List ℕ
buffer date clock fraction = put_mid 20 9 (slice_set (put_mid 11 8 (date ++ replicate 20 84) clock) 19 46) fraction

buffer_holds : (y m d h i s f k : ℕ) → (k ≡ 3) ⊎ ((k ≡ 6) ⊎ (k ≡ 9))
    → take (21 + k) (slice_set (buffer (date_text y m d) (clock_text h i s) (nine_digits f)) (20 + k) 90) ≡ date_time_text (date_text y m d) (clock_text h i s) (take k (nine_digits f))
buffer_holds y m d h i s f k (inl e) = rw e refl
buffer_holds y m d h i s f k (inr (inl e)) = rw e refl
buffer_holds y m d h i s f k (inr (inr e)) = rw e refl

pub text_is : (nanos : ℤ) (dt : DateTime) → Shown nanos dt
    → date_time_text (date_text (unsigned_abs dt.date.year) dt.date.month dt.date.day) (clock_text dt.time.hour dt.time.minute dt.time.second) (fraction_text dt.time.subsec_nanosecond) ≡ time_text_of nanos
unfolding time_text_of
text_is nanos dt is =
    let same : (y m d h i s f y2 m2 d2 h2 i2 s2 f2 : ℕ) → y2 ≡ y → m2 ≡ m → d2 ≡ d → h2 ≡ h → i2 ≡ i → s2 ≡ s → f2 ≡ f
    → date_time_text (date_text y m d) (clock_text h i s) (fraction_text f) ≡ date_time_text (date_text y2 m2 d2) (clock_text h2 i2 s2) (fraction_text f2) = λ y m d h i s f y2 m2 d2 h2 i2 s2 f2 a b c e g j k. rw (a, b, c, e, g, j, k) refl in
    same _ _ _ _ _ _ _ _ _ _ _ _ _ _ is.year is.month is.day is.hour is.minute is.second is.fraction

pub filled : (nanos : ℤ) (dt : DateTime) (date clock fraction : List ℕ) (decimals : ℕ) → Shown nanos dt
    → date ≡ date_text (unsigned_abs dt.date.year) dt.date.month dt.date.day → clock ≡ clock_text dt.time.hour dt.time.minute dt.time.second → fraction ≡ nine_digits dt.time.subsec_nanosecond
    → decimals ≡ decimals_of dt.time.subsec_nanosecond
    → take (21 + decimals) (slice_set (buffer date clock fraction) (20 + decimals) 90) ≡ time_text_of nanos
filled nanos dt date clock fraction decimals is date_is clock_is fraction_is decimals_are =
    let f = dt.time.subsec_nanosecond in
    ap (λ k. take (21 + k) (slice_set (buffer date clock fraction) (20 + k) 90)) decimals_are
    ∙ ap (λ l. take (21 + decimals_of f) (slice_set (buffer l clock fraction) (20 + decimals_of f) 90)) date_is
    ∙ ap (λ l. take (21 + decimals_of f) (slice_set (buffer (date_text (unsigned_abs dt.date.year) dt.date.month dt.date.day) l fraction) (20 + decimals_of f) 90)) clock_is
    ∙ ap (λ l. take (21 + decimals_of f) (slice_set (buffer (date_text (unsigned_abs dt.date.year) dt.date.month dt.date.day) (clock_text dt.time.hour dt.time.minute dt.time.second) l) (20 + decimals_of f) 90)) fraction_is
    ∙ buffer_holds _ _ _ _ _ _ f (decimals_of f) (three_six_nine f)
    ∙ text_is nanos dt is
