-- The text of a moment reads back as that moment.
use Rattle.std.proofs.Common.{◌≡◌, ◌==◌, ℕ, ◌+◌, ◌*◌, ◌/◌, ◌%◌, ◌^◌, ◌<◌, Bool, true, false, if◌then◌else◌, refl, sym, ap, ◌∙◌, arith, ℤ, pos, unsigned_abs, ◌+ℤ◌, ◌*ℤ◌, ◌≤ℤ◌, List, [], ◌∷◌, take}
use Rattle.std.proofs.lemmas.Bool.Decides.{nat_tests}
use Rattle.jiff_core.specs.declared.civil.datetime.DateTime.{DateTime}
use Rattle.jiff_core.specs.Calendar.{days_from_civil}
use Rattle.jiff_core.specs.Time.{time_nanos}
use Rattle.jiff_core.specs.DateTime.{civil_nanos}
use Rattle.jiff_core.proofs.CalendarLemmas.{days_in_month_bounds}
use Rattle.event_json.specs.TimeText.{digit, two_digits, four_digits, nine_digits, date_text, clock_text, date_time_text, decimals_of, day_nanos, digits_value, moment_in, time_text_of}
use Rattle.event_json.proofs.Dates.{Shown, text_is, pos_abs, year_bounds}

by_test : {P : Type 0} (t : Bool) → (t ≡ true → P) → (t ≡ false → P) → P
by_test true f g = f refl
by_test false f g = g refl

four_back : (n : ℕ) → n < 10000 → digits_value 0 (four_digits n) ≡ n
four_back n h = omega arith

two_back : (n : ℕ) → n < 100 → digits_value 0 (two_digits n) ≡ n
two_back n h = omega arith

three_back : (f : ℕ) → f < 1000000000 → f % 1000000 ≡ 0 → digits_value 0 (take 3 (nine_digits f)) * 10 ^ 6 ≡ f
three_back f h z = omega arith

six_back : (f : ℕ) → f < 1000000000 → f % 1000 ≡ 0 → digits_value 0 (take 6 (nine_digits f)) * 10 ^ 3 ≡ f
six_back f h z = omega arith

six_front : (f : ℕ) → f < 1000000000 → digits_value 0 (take 6 (nine_digits f)) ≡ f / 1000
six_front f h = omega arith

last_three : (f : ℕ) → digits_value (f / 1000) (digit 100 f ∷ digit 10 f ∷ digit 1 f ∷ []) * 10 ^ 0 ≡ f
last_three f = omega arith

nine_back : (f : ℕ) → f < 1000000000 → digits_value 0 (take 9 (nine_digits f)) * 10 ^ 0 ≡ f
nine_back f h = ap (λ v. digits_value v (digit 100 f ∷ digit 10 f ∷ digit 1 f ∷ []) * 10 ^ 0) (six_front f h) ∙ last_three f

-- what the parts of a date and of a time of day name
abbrev civil : ℕ → ℕ → ℕ → ℕ → ℕ → ℕ → ℕ → ℤ
civil y m d h i s f = days_from_civil (pos y) m d *ℤ day_nanos +ℤ pos ((h * 3600 + i * 60 + s) * 1000000000 + f)

same_parts : (y y2 m m2 d d2 h h2 i i2 s s2 f f2 : ℕ) → y2 ≡ y → m2 ≡ m → d2 ≡ d → h2 ≡ h → i2 ≡ i → s2 ≡ s → f2 ≡ f → civil y2 m2 d2 h2 i2 s2 f2 ≡ civil y m d h i s f
same_parts y y2 m m2 d d2 h h2 i i2 s s2 f f2 a b c e g j k = rw (a, b, c, e, g, j, k) refl

module _ (y m d h i s f : ℕ) (y_in : y < 10000) (m_in : m < 100) (d_in : d < 100) (h_in : h < 100) (i_in : i < 100) (s_in : s < 100) (f_in : f < 1000000000) where
  abbrev text_with : ℕ → List ℕ
  text_with k = date_time_text (date_text y m d) (clock_text h i s) (take k (nine_digits f))

  parts : (f2 : ℕ) → f2 ≡ f → civil (digits_value 0 (four_digits y)) (digits_value 0 (two_digits m)) (digits_value 0 (two_digits d)) (digits_value 0 (two_digits h)) (digits_value 0 (two_digits i)) (digits_value 0 (two_digits s)) f2 ≡ civil y m d h i s f
  parts f2 e = same_parts y (digits_value 0 (four_digits y)) m (digits_value 0 (two_digits m)) d (digits_value 0 (two_digits d)) h (digits_value 0 (two_digits h)) i (digits_value 0 (two_digits i)) s (digits_value 0 (two_digits s)) f f2
      (four_back y y_in) (two_back m m_in) (two_back d d_in) (two_back h h_in) (two_back i i_in) (two_back s s_in) e

  reads_three : f % 1000000 ≡ 0 → moment_in (text_with 3) ≡ civil y m d h i s f
  unfolding moment_in
  reads_three z = parts (digits_value 0 (take 3 (nine_digits f)) * 10 ^ 6) (three_back f f_in z)

  reads_six : f % 1000 ≡ 0 → moment_in (text_with 6) ≡ civil y m d h i s f
  unfolding moment_in
  reads_six z = parts (digits_value 0 (take 6 (nine_digits f)) * 10 ^ 3) (six_back f f_in z)

  reads_nine : moment_in (text_with 9) ≡ civil y m d h i s f
  unfolding moment_in
  reads_nine = parts (digits_value 0 (take 9 (nine_digits f)) * 10 ^ 0) (nine_back f f_in)

  is_zero : (n : ℕ) → (n == 0) ≡ true → n ≡ 0
  is_zero n e = grind (arith, nat_tests)

  pub reads : moment_in (text_with (decimals_of f)) ≡ civil y m d h i s f
  reads = by_test (f % 1000000 == 0)
      (λ t. ap (λ b. moment_in (text_with (if b then 3 else (if f % 1000 == 0 then 6 else 9)))) t ∙ reads_three (is_zero (f % 1000000) t))
      (λ t. ap (λ b. moment_in (text_with (if b then 3 else (if f % 1000 == 0 then 6 else 9)))) t
      ∙ by_test (f % 1000 == 0) (λ u. ap (λ b. moment_in (text_with (if b then 6 else 9))) u ∙ reads_six (is_zero (f % 1000) u)) (λ u. ap (λ b. moment_in (text_with (if b then 6 else 9))) u ∙ reads_nine))

pub text_reads_back : (nanos : ℤ) (dt : DateTime) → civil_nanos dt ≡ nanos → pos 1 ≤ℤ dt.date.year → Shown nanos dt → moment_in (time_text_of nanos) ≡ nanos
unfolding civil_nanos
text_reads_back nanos dt same low is =
    let y = unsigned_abs dt.date.year in
    let f = dt.time.subsec_nanosecond in
    ap moment_in (sym (text_is nanos dt is))
    ∙ reads y dt.date.month dt.date.day dt.time.hour dt.time.minute dt.time.second f (omega (arith, (year_bounds dt.date.year low dt.date.year_in.1).1)) (omega (arith, dt.date.month_in.1)) (omega (arith, dt.date.day_in.1, days_in_month_bounds dt.date.year dt.date.month))
    (omega (arith, dt.time.hour_in)) (omega (arith, dt.time.minute_in)) (omega (arith, dt.time.second_in)) dt.time.subsec_in
    ∙ ap (λ z. days_from_civil z dt.date.month dt.date.day *ℤ day_nanos +ℤ pos (time_nanos dt.time)) (pos_abs dt.date.year low)
    ∙ same
