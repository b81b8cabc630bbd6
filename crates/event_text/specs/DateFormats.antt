-- The formats of `%{+..}`, and the text of a moment in one: the pattern letters of Java's DateTimeFormatter that this product has, in UTC.
use Rattle.std.specs.Prelude.{◌≡◌, ℕ, ◌-◌, ◌<◌, ◌⊎◌, length, slice_index, ◌/◌, ◌%◌, ◌==◌, ◌&&◌, ◌||◌, nat_le, ℤ, List, [], ◌∷◌, flat_map, Bool, true, false, if◌then◌else◌, codes, bytes_eq, take, drop, Option, Some, None, option_map, option_and_then}
use Rattle.std.specs.Option.{option_or}
use Rattle.event_json.specs.TimeText.{two_digits, four_digits, nine_digits, year_of, month_of, day_in_month, nanos_in_day}
use Rattle.event_text.specs.declared.date_format.DatePart.{DatePart}
use Rattle.event_text.specs.declared.date_format.DatePart.TheVariants as d

-- A to Z and a to z
abbrev pub is_letter : ℕ → Bool
is_letter b = (nat_le 65 b && nat_le b 90) || (nat_le 97 b && nat_le b 122)

-- a letter is a kind of its own, and all other bytes are one kind
abbrev pub kind : ℕ → ℕ
kind b = if is_letter b then b else 0

-- a byte before runs: it begins a run of its own, unless it is of the first run's kind
abbrev pub joins : ℕ → List (List ℕ) → List (List ℕ)
joins b [] = (b ∷ []) ∷ []
joins b ([] ∷ rs) = (b ∷ []) ∷ rs
joins b ((c ∷ r) ∷ rs) = if kind b == kind c then (b ∷ c ∷ r) ∷ rs else (b ∷ []) ∷ (c ∷ r) ∷ rs

-- the longest runs of one letter, or of bytes that are no letters
abbrev pub runs : List ℕ → List (List ℕ)
runs [] = []
runs (b ∷ bs) = joins b (runs bs)

-- the first of the runs from one place on ends at the other
abbrev pub IsRun : List ℕ → ℕ → ℕ → Type 0
IsRun bytes from end = runs (drop from bytes) ≡ take (end - from) (drop from bytes) ∷ runs (drop end bytes)

abbrev pub begins_with_letter : List ℕ → Bool
begins_with_letter [] = true
begins_with_letter (b ∷ bs) = is_letter b

-- four, two or three of one letter
abbrev pub letters_part : List ℕ → Option DatePart
letters_part run =
    if bytes_eq run (codes "yyyy") || bytes_eq run (codes "YYYY") then Some d.Year
    else (if bytes_eq run (codes "MM") then Some d.Month
    else (if bytes_eq run (codes "dd") then Some d.Day
    else (if bytes_eq run (codes "HH") then Some d.Hour
    else (if bytes_eq run (codes "mm") then Some d.Minute
    else (if bytes_eq run (codes "ss") then Some d.Second
    else (if bytes_eq run (codes "SSS") then Some d.Millisecond
    else None))))))

-- what a run stands for: a part of a date, or itself where it has no letters
abbrev pub part_of : List ℕ → Option DatePart
part_of run = option_or (letters_part run) (if begins_with_letter run then None else Some (d.Plain run))

-- a text may be cut there: ASCII stands before the place or at it
abbrev pub IsCut : List ℕ → ℕ → Type 0
IsCut bytes k = k < length bytes → (slice_index bytes k < 128) ⊎ ((0 < k) × (slice_index bytes (k - 1) < 128))

-- what the runs stand for, where each stands for something
abbrev pub parts_of : List (List ℕ) → Option (List DatePart)
parts_of [] = Some []
parts_of (r ∷ rs) = option_and_then (λ part. option_map (λ parts. part ∷ parts) (parts_of rs)) (part_of r)

-- the parts of a format; the empty text is none
abbrev pub format_of : List ℕ → Option (List DatePart)
format_of [] = None
format_of (b ∷ bs) = parts_of (runs (b ∷ bs))

-- a part's text: of the date and the time of day in UTC, and of the milliseconds of the second
abbrev pub part_text : ℤ → DatePart → List ℕ
part_text moment d.Year = four_digits (year_of moment)
part_text moment d.Month = two_digits (month_of moment)
part_text moment d.Day = two_digits (day_in_month moment)
part_text moment d.Hour = two_digits (nanos_in_day moment / 3600000000000)
part_text moment d.Minute = two_digits (nanos_in_day moment / 60000000000 % 60)
part_text moment d.Second = two_digits (nanos_in_day moment / 1000000000 % 60)
part_text moment d.Millisecond = take 3 (nine_digits (nanos_in_day moment % 1000000000))
part_text moment (d.Plain run) = run

-- a moment in a format
abbrev pub date_text_of : List DatePart → ℤ → List ℕ
date_text_of parts moment = flat_map (part_text moment) parts

-- where a part stands in the text of a moment, as yyyy-MM-ddTHH:mm:ss.SSS
abbrev pub part_in : List ℕ → DatePart → List ℕ
part_in text d.Year = take 4 text
part_in text d.Month = take 2 (drop 5 text)
part_in text d.Day = take 2 (drop 8 text)
part_in text d.Hour = take 2 (drop 11 text)
part_in text d.Minute = take 2 (drop 14 text)
part_in text d.Second = take 2 (drop 17 text)
part_in text d.Millisecond = take 3 (drop 20 text)
part_in text (d.Plain run) = run

-- the day of a moment alone says what such a part is
abbrev pub is_of_day : DatePart → Bool
is_of_day d.Year = true
is_of_day d.Month = true
is_of_day d.Day = true
is_of_day d.Hour = false
is_of_day d.Minute = false
is_of_day d.Second = false
is_of_day d.Millisecond = false
is_of_day (d.Plain run) = true
