-- What the items of a format read of a text.
use Rattle.std.specs.Prelude.{ℕ, ◌+◌, ◌-◌, ◌*◌, ◌^◌, ◌==◌, ◌&&◌, ◌||◌, nat_le, length, take, drop, List, [], ◌∷◌, if◌then◌else◌, Option, Some, None, option_map, option_and_then, ℤ, codes, bytes_eq, map}
use Rattle.std.specs.Option.{option_or}
use Rattle.std.specs.Char.{to_ascii_lowercase}
use Rattle.event_tree.specs.Characters.{colon, point, comma}
use Rattle.event_tree.specs.NumberTexts.{digits_front}
use Rattle.event_times.specs.Digits.{Front, digits_in}
use Rattle.event_times.specs.Zones.{zone_in}
use Rattle.event_times.specs.declared.item.TimeField.{TimeField}
use Rattle.event_times.specs.declared.item.TimeField.TheVariants as field
use Rattle.event_times.specs.declared.item.TimeItem.{TimeItem}
use Rattle.event_times.specs.declared.item.TimeItem.TheVariants as item
use Rattle.event_times.specs.declared.moment.TimeParts.{TimeParts}

-- before any item: 1 January at midnight
abbrev pub no_parts : TimeParts
no_parts = record { year = None; month = 1; day = 1; hour = 0; minute = 0; second = 0; nanos = 0; offset = None }

-- a part that was read; of a part that is read twice the last counts
abbrev pub with_field : TimeField → ℕ → TimeParts → TimeParts
with_field field.Month n p = record p { month = n }
with_field field.Day n p = record p { day = n }
with_field field.Hour n p = record p { hour = n }
with_field field.Minute n p = record p { minute = n }
with_field field.Second n p = record p { second = n }

abbrev pub with_year : ℕ → TimeParts → TimeParts
with_year n p = record p { year = Some n }

abbrev pub with_offset : ℤ → TimeParts → TimeParts
with_offset z p = record p { offset = Some z }

-- so many decimals of a second
abbrev pub with_decimals : ℕ → ℕ → TimeParts → TimeParts
with_decimals count n p = record p { nanos = n * 10 ^ (9 - count) }

-- what an item reads changes the parts
abbrev pub reads_to : {A : Type 0} → (A → TimeParts → TimeParts) → TimeParts → Front A → Front TimeParts
reads_to set p found = option_map (λ f. (set f.0 p, f.1)) found

-- the English names of the months
abbrev pub month_names : List (List ℕ)
month_names =
    codes "january" ∷ codes "february" ∷ codes "march" ∷ codes "april" ∷ codes "may" ∷ codes "june"
    ∷ codes "july" ∷ codes "august" ∷ codes "september" ∷ codes "october" ∷ codes "november" ∷ codes "december" ∷ []

-- the first of these names that stands in front, in any case; they are counted from n on
abbrev pub named_in : ℕ → List (List ℕ) → List ℕ → Front ℕ
named_in n [] s = None
named_in n (name ∷ names) s = if bytes_eq (map to_ascii_lowercase (take (length name) s)) (map to_ascii_lowercase name) then Some (n, drop (length name) s) else named_in (n + 1) names s

abbrev pub short_names : List (List ℕ)
short_names =
    codes "jan" ∷ codes "feb" ∷ codes "mar" ∷ codes "apr" ∷ codes "may" ∷ codes "jun"
    ∷ codes "jul" ∷ codes "aug" ∷ codes "sep" ∷ codes "oct" ∷ codes "nov" ∷ codes "dec" ∷ []

-- a byte behind which the rest is read
abbrev pub behind : {A : Type 0} → (ℕ → List ℕ → Front A) → List ℕ → Front A
behind go [] = None
behind go (b ∷ s) = go b s

-- one to nine decimals: all the digits that stand there
abbrev pub decimals_in : TimeParts → List ℕ → Front TimeParts
decimals_in p s =
    let count = length (digits_front s) in
    if nat_le 1 count && nat_le count 9 then reads_to (with_decimals count) p (digits_in count s) else None

-- what an item reads at the front of a text, first of all
abbrev pub first_reading : TimeItem → TimeParts → List ℕ → Front TimeParts
first_reading item.Year p s = reads_to with_year p (digits_in 4 s)
first_reading (item.Two f) p s = reads_to (with_field f) p (digits_in 2 s)
first_reading (item.OneOrTwo f) p s = reads_to (with_field f) p (digits_in 2 s)
first_reading item.ShortMonth p s = reads_to (with_field field.Month) p (named_in 1 short_names s)
first_reading item.LongMonth p s = reads_to (with_field field.Month) p (named_in 1 month_names s)
first_reading (item.Fraction count) p s = if nat_le count 9 then reads_to (with_decimals count) p (digits_in count s) else None
first_reading item.Zone p s = reads_to with_offset p (zone_in s)
first_reading (item.Plain c) p s = behind (λ b rest. if b == c then Some (p, rest) else None) s
first_reading item.Mark p s = behind (λ b rest. if b == 84 || b == 32 then Some (p, rest) else None) s
first_reading item.MaybeSecond p s = behind (λ b rest. if b == colon then reads_to (with_field field.Second) p (digits_in 2 rest) else None) s
first_reading item.MaybeFraction p s = behind (λ b rest. if b == point || b == comma then decimals_in p rest else None) s
first_reading item.MaybeZone p s = reads_to with_offset p (zone_in s)

-- what else it reads there: one digit in the place of two, or nothing in the place of what may be missing
abbrev pub other_reading : TimeItem → TimeParts → List ℕ → Front TimeParts
other_reading item.Year p s = None
other_reading (item.Two f) p s = None
other_reading (item.OneOrTwo f) p s = reads_to (with_field f) p (digits_in 1 s)
other_reading item.ShortMonth p s = None
other_reading item.LongMonth p s = None
other_reading (item.Fraction count) p s = None
other_reading item.Zone p s = None
other_reading (item.Plain c) p s = None
other_reading item.Mark p s = None
other_reading item.MaybeSecond p s = Some (p, s)
other_reading item.MaybeFraction p s = Some (p, s)
other_reading item.MaybeZone p s = Some (p, s)

-- the parts that items read of a whole text: by the first of the ways to read it in which each item reads what stands behind what
-- the items before it read, and nothing is left
unfoldable pub parts_read : List TimeItem → TimeParts → List ℕ → Option TimeParts
parts_read [] p [] = Some p
parts_read [] p (b ∷ s) = None
parts_read (i ∷ is) p s =
    option_or (option_and_then (λ f. parts_read is f.0 f.1) (first_reading i p s)) (option_and_then (λ f. parts_read is f.0 f.1) (other_reading i p s))
