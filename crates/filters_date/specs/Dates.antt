-- The filter date, as this project's table of plugins has it.
use Rattle.std.specs.Prelude.{ℕ, ◌-◌, ◌^◌, nat_le, List, [], ◌∷◌, true, false, if◌then◌else◌, codes, bytes_eq, Option, Some, None, option_map, option_and_then, ℤ, pos, ◌*ℤ◌, Result, Ok, Err}
use Rattle.event_tree.specs.Events.{Ev, Way, to, event_at}
use Rattle.event_tree.specs.Paths.{over}
use Rattle.event_tree.specs.Number.{Num}
use Rattle.event_tree.specs.declared.value.Value.{Value, out-Value}
use Rattle.event_tree.specs.declared.value.Value.TheOpen.{Value-F}
use Rattle.event_tree.specs.declared.value.Value.TheVariants as v
use Rattle.event_json.specs.Numbers.{number_of}
use Rattle.event_text.specs.Options.{no_options, each_in}
use Rattle.event_text.specs.PathReading.{way_in}
use Rattle.event_text.specs.Template.{moment_of as own_moment}
use Rattle.event_text.specs.declared.applied.Applied.{Applied}
use Rattle.event_times.specs.Reading.{no_parts, parts_read}
use Rattle.event_times.specs.Iso8601.{iso_parts}
use Rattle.event_times.specs.Moments.{moment_of, moment_in_years, year_of}
use Rattle.event_times.specs.Zones.{offset_of}
use Rattle.event_times.specs.declared.item.TimeItem.{TimeItem}
use Rattle.event_times.specs.declared.moment.TimeParts.{TimeParts}
use Rattle.config_tree.specs.Joining.{Entries}
use Rattle.config_tree.specs.declared.tree.SettingValue.{SettingValue}
use Rattle.config_tree.specs.declared.fault.SettingFault.TheVariants as fault
use Rattle.filter_settings.specs.Settings.{Made, wanted, with_made, next, all_set, needed}
use Rattle.filter_settings.specs.Trying.{Tried, put_at, finished}
use Rattle.filter_settings.specs.Readers.{text_of, texts_of, path_of}
use Rattle.filter_settings.specs.Options.{option_set}
use Rattle.filters_date.specs.Formats.{format_of}
use Rattle.filters_date.specs.declared.format.DateFormat.{DateFormat}
use Rattle.filters_date.specs.declared.format.DateFormat.TheVariants as format
use Rattle.filters_date.specs.declared.date_filter.DateFilter.{DateFilter}

-- a field, and the texts of one format or more
abbrev pub field_and_formats : List (List ℕ) → Option (Way × List (List ℕ))
field_and_formats [] = None
field_and_formats (t ∷ []) = None
field_and_formats (t ∷ f ∷ fs) = option_map (λ way. (way, f ∷ fs)) (way_in t)

-- what was read of a setting; a pattern that can't be read is a fault
abbrev pub readable : {A : Type 0} → List ℕ → Option A → Made A
readable k None = Err (fault.BadPattern k)
readable k (Some x) = Ok x

abbrev pub match_set : List ℕ → SettingValue → DateFilter → Made DateFilter
match_set k x f =
    next (λ m. with_made (λ formats. record f { source = m.0; formats = formats }) (readable k (each_in format_of m.1)))
    (wanted k (option_and_then field_and_formats (texts_of x)))

-- `UTC`, or an offset in hours and minutes as `+02:00`, in seconds
abbrev pub timezone_of : List ℕ → Option ℤ
timezone_of s = if bytes_eq s (codes "UTC") then Some (pos 0) else offset_of s

-- one setting
abbrev pub date_set : List ℕ → SettingValue → DateFilter → Made DateFilter
date_set k x f =
    if bytes_eq k (codes "match") then match_set k x f
    else (if bytes_eq k (codes "target") then with_made (λ way. record f { target = way }) (wanted k (path_of x))
    else (if bytes_eq k (codes "timezone") then with_made (λ z. record f { timezone = z }) (wanted k (option_and_then timezone_of (text_of x)))
    else (if bytes_eq k (codes "tag_on_failure") then with_made (λ tag. record f { tag_on_failure = tag }) (wanted k (text_of x))
    else with_made (λ o. record f { options = o }) (option_set k x f.options))))

abbrev pub timestamp : Way
timestamp = to false (codes "@timestamp" ∷ [])

-- before any setting: the target is `@timestamp`, and the time zone is UTC
abbrev pub date_start : DateFilter
date_start = record { source = timestamp; formats = []; target = timestamp; timezone = pos 0; tag_on_failure = codes "_dateparsefailure"; options = no_options }

-- what the settings are read as; `match` has to stand among them
abbrev pub date_of : Entries → Made DateFilter
date_of es = next (needed (codes "match") es) (all_set date_set es date_start)

-- the number that a value is, or that a text writes
abbrev number_in : Value-F Value → Option Num
number_in Value-F.Null = None
number_in (Value-F.Bool b) = None
number_in (Value-F.Num n) = Some n
number_in (Value-F.Text s) = number_of s
number_in (Value-F.Time t) = None
number_in (Value-F.List xs) = None
number_in (Value-F.Object ms) = None

abbrev text_in : Value-F Value → Option (List ℕ)
text_in Value-F.Null = None
text_in (Value-F.Bool b) = None
text_in (Value-F.Num n) = None
text_in (Value-F.Text s) = Some s
text_in (Value-F.Time t) = None
text_in (Value-F.List xs) = None
text_in (Value-F.Object ms) = None

abbrev pub number_of_value : Value → Option Num
number_of_value x = number_in (out-Value x)

abbrev pub text_of_value : Value → Option (List ℕ)
text_of_value x = text_in (out-Value x)

-- so many units of time, of which ten to the power `places` nanoseconds are one; none where they have more decimals than that
abbrev pub units : ℕ → Num → Option (Option ℤ)
units places n = if nat_le n.scale places then Some (moment_in_years (n.mantissa *ℤ pos (10 ^ (places - n.scale)))) else None

-- the parts with the event's own year, where they have none
abbrev pub in_own_year : Ev → TimeParts → TimeParts
in_own_year e p = over (λ year. p) (record p { year = option_map year_of (own_moment e) }) p.year

-- the moment of a text by ISO 8601, and that of one by the items of a format
abbrev pub read_iso8601 : DateFilter → Value → Option (Option ℤ)
read_iso8601 f x = option_and_then (λ s. option_map (λ p. moment_of p f.timezone) (iso_parts s)) (text_of_value x)

abbrev pub read_letters : DateFilter → Ev → Value → List TimeItem → Option (Option ℤ)
read_letters f e x items = option_and_then (λ s. option_map (λ p. moment_of (in_own_year e p) f.timezone) (parts_read items no_parts s)) (text_of_value x)

-- what a format makes of a value: none where it doesn't read it whole, and else the moment, if it is one of the calendar and of the years
-- 0001 to 9999
abbrev pub read_by : DateFilter → Ev → Value → DateFormat → Option (Option ℤ)
read_by f e x format.Iso8601 = read_iso8601 f x
read_by f e x format.Unix = option_and_then (units 9) (number_of_value x)
read_by f e x format.UnixMillis = option_and_then (units 6) (number_of_value x)
read_by f e x (format.Letters items) = read_letters f e x items

-- by the first of the formats that reads it
abbrev pub read_first : DateFilter → Ev → Value → List DateFormat → Option ℤ
read_first f e x [] = None
read_first f e x (format ∷ formats) = over (λ moment. moment) (read_first f e x formats) (read_by f e x format)

-- the event with the moment at the target, or a failure where there is none, or it can't be put there
abbrev pub try_moment : DateFilter → Ev → Option ℤ → Tried
try_moment f e None = Err e
try_moment f e (Some moment) = put_at f.target (v.Time moment) e

abbrev pub with_moment : DateFilter → Ev → Option ℤ → Applied
with_moment f e moment = finished f.options f.tag_on_failure (try_moment f e moment)

-- the event whose field is missing stays as it is, and is not matched
abbrev pub dated : DateFilter → Ev → Applied
dated f e = over (λ x. with_moment f e (read_first f e x f.formats)) (record { events = e ∷ []; matched = false }) (event_at f.source e)
