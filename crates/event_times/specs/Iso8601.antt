-- Times of ISO 8601 in the form that this product reads: a date, `T` or a blank, hours and minutes, and then, each of them or not, seconds,
-- decimals of the second, and an offset.
use Rattle.std.specs.Prelude.{ℕ, List, [], ◌∷◌, Option, option_and_then, ℤ}
use Rattle.event_tree.specs.Characters.{colon, minus}
use Rattle.event_times.specs.declared.item.TimeField.TheVariants as field
use Rattle.event_times.specs.declared.item.TimeItem.{TimeItem}
use Rattle.event_times.specs.declared.item.TimeItem.TheVariants as item
use Rattle.event_times.specs.declared.moment.TimeParts.{TimeParts}
use Rattle.event_times.specs.Reading.{no_parts, parts_read}
use Rattle.event_times.specs.Moments.{moment_of}

abbrev pub iso8601 : List TimeItem
iso8601 =
    item.Year ∷ item.Plain minus ∷ item.Two field.Month ∷ item.Plain minus ∷ item.Two field.Day ∷ item.Mark
    ∷ item.Two field.Hour ∷ item.Plain colon ∷ item.Two field.Minute ∷ item.MaybeSecond ∷ item.MaybeFraction ∷ item.MaybeZone ∷ []

-- the parts of such a text
abbrev pub iso_parts : List ℕ → Option TimeParts
iso_parts s = parts_read iso8601 no_parts s

-- the moment that such a text names, at this offset where it has none of its own
abbrev pub iso_moment : ℤ → List ℕ → Option ℤ
iso_moment offset s = option_and_then (λ p. moment_of p offset) (iso_parts s)
