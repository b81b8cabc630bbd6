-- The parts of a date stand in the text of its moment.
use Rattle.std.proofs.Common.{◌≡◌, ℕ, ◌+◌, ◌%◌, ◌≤◌, ◌⊎◌, inl, inr, [], ◌∷◌, ◌++◌, length, take, ℤ, refl, arith}
use Rattle.event_json.specs.TimeText.{nine_digits, decimals_of, nanos_in_day, time_text_of}
use Rattle.event_json.proofs.Dates.{three_six_nine}
use Rattle.event_text.specs.DateFormats.{part_in, part_text}
use Rattle.event_text.specs.declared.date_format.DatePart.{DatePart}
use Rattle.event_text.specs.declared.date_format.DatePart.TheVariants as d

-- three decimals are there at least
three_first : (f k : ℕ) → (k ≡ 3) ⊎ ((k ≡ 6) ⊎ (k ≡ 9)) → take 3 (take k (nine_digits f) ++ 90 ∷ []) ≡ take 3 (nine_digits f)
three_first f k (inl e) = rw e refl
three_first f k (inr (inl e)) = rw e refl
three_first f k (inr (inr e)) = rw e refl

long_enough : (f k : ℕ) → (k ≡ 3) ⊎ ((k ≡ 6) ⊎ (k ≡ 9)) → 24 ≤ 20 + length (take k (nine_digits f) ++ 90 ∷ [])
long_enough f k (inl e) = rw e (omega arith)
long_enough f k (inr (inl e)) = rw e (omega arith)
long_enough f k (inr (inr e)) = rw e (omega arith)

pub time_text_long : (t : ℤ) → 24 ≤ length (time_text_of t)
unfolding time_text_of
time_text_long t = let f = nanos_in_day t % 1000000000 in let h = long_enough f (decimals_of f) (three_six_nine f) in omega (arith, h)

pub part_is : (t : ℤ) (part : DatePart) → part_in (time_text_of t) part ≡ part_text t part
unfolding time_text_of
part_is t d.Year = refl
part_is t d.Month = refl
part_is t d.Day = refl
part_is t d.Hour = refl
part_is t d.Minute = refl
part_is t d.Second = refl
part_is t d.Millisecond = let f = nanos_in_day t % 1000000000 in three_first f (decimals_of f) (three_six_nine f)
part_is t (d.Plain run) = refl
