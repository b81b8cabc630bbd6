-- The formats of the filter date: letters after those of Joda-Time's DateTimeFormat, as this project's table has them, with texts in quotes and
-- characters that stand for themselves.
use Rattle.std.specs.Prelude.{ℕ, zero, suc, ◌+◌, ◌==◌, ◌&&◌, ◌||◌, not, nat_le, Bool, false, List, [], ◌∷◌, if◌then◌else◌, Option, Some, None, option_map, option_and_then, codes, bytes_eq}
use Rattle.event_text.specs.DateFormats.{is_letter}
use Rattle.event_times.specs.declared.item.TimeField.TheVariants as field
use Rattle.event_times.specs.declared.item.TimeItem.{TimeItem}
use Rattle.event_times.specs.declared.item.TimeItem.TheVariants as item
use Rattle.filters_date.specs.declared.format.DateFormat.{DateFormat}
use Rattle.filters_date.specs.declared.format.DateFormat.TheVariants as format

-- how many of this letter stand in front
abbrev pub run_length : ℕ → List ℕ → ℕ
run_length c [] = 0
run_length c (b ∷ s) = if b == c then suc (run_length c s) else 0

-- what so many of one letter read: none where they stand for nothing
abbrev pub year_item : ℕ → Option TimeItem
year_item n = if n == 4 then Some item.Year else None

abbrev pub month_item : ℕ → Option TimeItem
month_item n =
    if n == 1 then Some (item.OneOrTwo field.Month)
    else (if n == 2 then Some (item.Two field.Month)
    else (if n == 3 then Some item.ShortMonth
    else (if n == 4 then Some item.LongMonth
    else None)))

abbrev pub one_or_two : TimeItem → TimeItem → ℕ → Option TimeItem
one_or_two one two n = if n == 1 then Some one else (if n == 2 then Some two else None)

abbrev pub fraction_item : ℕ → Option TimeItem
fraction_item n = if nat_le 1 n && nat_le n 9 then Some (item.Fraction n) else None

abbrev pub zone_item : ℕ → Option TimeItem
zone_item n = if n == 1 then Some item.Zone else None

abbrev pub letters_item : ℕ → ℕ → Option TimeItem
letters_item c n =
    if c == 121 then year_item n
    else (if c == 77 then month_item n
    else (if c == 100 then one_or_two (item.OneOrTwo field.Day) (item.Two field.Day) n
    else (if c == 72 then one_or_two (item.OneOrTwo field.Hour) (item.Two field.Hour) n
    else (if c == 109 then one_or_two (item.OneOrTwo field.Minute) (item.Two field.Minute) n
    else (if c == 115 then one_or_two (item.OneOrTwo field.Second) (item.Two field.Second) n
    else (if c == 83 then fraction_item n
    else (if c == 90 then zone_item n
    else None)))))))

abbrev pub onto : TimeItem → Option (List TimeItem) → Option (List TimeItem)
onto i is = option_map (λ more. i ∷ more) is

-- whether a byte that is no quote stands for itself
abbrev pub is_plain : Bool → ℕ → Bool
is_plain quoted b = quoted || not (is_letter b)

-- the items behind so many bytes, outside of quotes or in them: a quote begins or ends a text that stands for itself, a longest run of
-- one letter is one item, and each other byte stands for itself; none where a run stands for nothing, or a quote isn't closed
unfoldable pub items_behind : ℕ → Bool → List ℕ → Option (List TimeItem)
items_behind skip quoted [] = if quoted then None else Some []
items_behind (suc skip) quoted (b ∷ s) = items_behind skip quoted s
items_behind zero quoted (b ∷ s) =
    if b == 39 then items_behind zero (not quoted) s
    else (if is_plain quoted b then onto (item.Plain b) (items_behind zero quoted s)
    else option_and_then (λ i. onto i (items_behind (run_length b s) quoted s)) (letters_item b (suc (run_length b s))))

-- the items of a format; the empty text is none
abbrev pub items_of : List ℕ → Option (List TimeItem)
items_of [] = None
items_of (b ∷ s) = items_behind zero false (b ∷ s)

-- the format that a text is
abbrev pub format_of : List ℕ → Option DateFormat
format_of s =
    if bytes_eq s (codes "ISO8601") then Some format.Iso8601
    else (if bytes_eq s (codes "UNIX") then Some format.Unix
    else (if bytes_eq s (codes "UNIX_MS") then Some format.UnixMillis
    else option_map format.Letters (items_of s)))
