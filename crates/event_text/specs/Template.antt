-- What a template's text says, part by part, and the text that an event fills it to.
use Rattle.std.specs.Str.{IsCharBoundary}
use Rattle.std.specs.Prelude.{◌≡◌, ◌≢◌, ◌<◌, ◌≤◌, ℕ, zero, suc, ◌+◌, ◌-◌, ◌==◌, ◌&&◌, slice_index, true, ℤ, List, [], ◌∷◌, ◌++◌, length, take, drop, flat_map, Bool, false, if◌then◌else◌, codes, Option, Some, None, option_map, option_and_then}
use Rattle.std.specs.List.{list_all}
use Rattle.std.specs.Option.{option_or}
use Rattle.event_tree.specs.Characters.{plus, percent, opening_brace, closing_brace}
use Rattle.event_tree.specs.Events.{Ev, event_at}
use Rattle.event_tree.specs.Paths.{over}
use Rattle.event_tree.specs.declared.value.Value.{Value, out-Value}
use Rattle.event_tree.specs.declared.value.Value.TheOpen.{Value-F}
use Rattle.event_text.specs.PathReading.{way_in}
use Rattle.event_json.specs.TimeText.{day_of}
use Rattle.event_text.specs.DateFormats.{format_of, date_text_of, is_of_day}
use Rattle.event_text.specs.Shown.{shown}
use Rattle.event_text.specs.declared.template.TemplatePart.{TemplatePart}
use Rattle.event_text.specs.declared.template.TemplatePart.TheVariants as p

-- `+` and a format
abbrev pub date_part_of : List ℕ → Option TemplatePart
date_part_of [] = None
date_part_of (b ∷ bs) = if b == plus then option_map (λ parts. p.Date parts (b ∷ bs)) (format_of bs) else None

abbrev pub field_part_of : List ℕ → Option TemplatePart
field_part_of inner = option_map (λ way. p.Field way inner) (way_in inner)

-- what `%{`, these bytes and `}` stand for: a date, or else a field; nothing where they read as neither
abbrev pub template_part_of : List ℕ → Option TemplatePart
template_part_of inner = option_or (date_part_of inner) (field_part_of inner)

-- `%{` stands in front
abbrev pub opens : List ℕ → Bool
opens [] = false
opens (a ∷ []) = false
opens (a ∷ b ∷ bs) = a == percent && b == opening_brace

-- what stands before the first `}`
abbrev pub before_close : List ℕ → Option (List ℕ)
before_close [] = None
before_close (b ∷ bs) = if b == closing_brace then Some [] else option_map (λ inner. b ∷ inner) (before_close bs)

-- the first `}` from one place on stands at the other
abbrev pub ClosesAt : List ℕ → ℕ → ℕ → Type 0
ClosesAt bytes from close = before_close (drop from bytes) ≡ Some (take (close - from) (drop from bytes))

-- no `}` stands from one place on before the other, which is that of a `}` or the end of the bytes, or stands in front of the first
abbrev pub IsNextClose : List ℕ → ℕ → ℕ → Type 0
IsNextClose bytes from close = (close ≤ length bytes)
    × ((k : ℕ) → from ≤ k → k < close → slice_index bytes k ≢ closing_brace)
    × (from ≤ close → close < length bytes → slice_index bytes close ≡ closing_brace)

-- `%{` stands at one place, and the first `}` behind it at the other
pub record Encloses (text : List ℕ) (at close : ℕ) : Type 0 where
  pub opened : opens (drop at text) ≡ true
  pub after : at + 2 ≤ close
  pub within : close < length text
  pub first : ClosesAt text (at + 2) close
  pub closed : slice_index text close ≡ closing_brace

-- a part with its length
abbrev pub placed : List ℕ → Option (TemplatePart × ℕ)
placed inner = option_map (λ piece. (piece, length inner + 3)) (template_part_of inner)

-- the part that the bytes begin with, if they begin with one that is no plain text, and how many bytes it has
abbrev pub placeholder : List ℕ → Option (TemplatePart × ℕ)
placeholder text = if opens text then option_and_then placed (before_close (drop 2 text)) else None

-- a byte of plain text before parts
abbrev pub with_plain : ℕ → List TemplatePart → List TemplatePart
with_plain b [] = p.Plain (b ∷ []) ∷ []
with_plain b (p.Plain run ∷ ps) = p.Plain (b ∷ run) ∷ ps
with_plain b (p.Field way inner ∷ ps) = p.Plain (b ∷ []) ∷ p.Field way inner ∷ ps
with_plain b (p.Date parts inner ∷ ps) = p.Plain (b ∷ []) ∷ p.Date parts inner ∷ ps

-- the parts behind the first bytes, so many as the number says
abbrev pub template_parts_behind : ℕ → List ℕ → List TemplatePart
template_parts_behind skip [] = []
template_parts_behind (suc skip) (b ∷ bs) = template_parts_behind skip bs
template_parts_behind zero (b ∷ bs) =
    over (λ found. found.0 ∷ template_parts_behind (found.1 - 1) bs)
    (with_plain b (template_parts_behind zero bs))
    (placeholder (b ∷ bs))

-- the parts of a template's text
abbrev pub template_parts : List ℕ → List TemplatePart
template_parts text = template_parts_behind 0 text

-- `%{`, what stands between, and `}`
abbrev pub as_written : List ℕ → List ℕ
as_written inner = percent ∷ opening_brace ∷ (inner ++ closing_brace ∷ [])

abbrev pub time_in : Value-F Value → Option ℤ
time_in Value-F.Null = None
time_in (Value-F.Bool b) = None
time_in (Value-F.Num n) = None
time_in (Value-F.Text s) = None
time_in (Value-F.Time t) = Some t
time_in (Value-F.List vs) = None
time_in (Value-F.Object ms) = None

-- the moment of an event: its `@timestamp`, where that is a time
abbrev pub moment_of : Ev → Option ℤ
moment_of e = option_and_then (λ d. time_in (out-Value d)) (event_at (record { meta = false; parts = codes "@timestamp" ∷ [] }) e)

-- what is given, or the placeholder as it was written
abbrev pub or_written : List ℕ → Option (List ℕ) → List ℕ
or_written inner None = as_written inner
or_written inner (Some text) = text

-- the text of one part: a field's value, and a date of the event's moment; as it was written where the event has no such field, or no moment
abbrev pub template_part_text : Ev → TemplatePart → List ℕ
template_part_text e (p.Plain run) = run
template_part_text e (p.Field way inner) = or_written inner (option_map shown (event_at way e))
template_part_text e (p.Date parts inner) = or_written inner (option_map (date_text_of parts) (moment_of e))

-- the text that an event fills the parts of a template to
abbrev pub text : List TemplatePart → Ev → List ℕ
text pieces e = flat_map (template_part_text e) pieces

-- of an event the day of its moment alone says what the text of such a part is
abbrev pub is_daily : TemplatePart → Bool
is_daily (p.Plain run) = true
is_daily (p.Field way inner) = false
is_daily (p.Date parts inner) = list_all is_of_day parts

-- the day of an event's moment, where that alone says what text an event fills these parts to
abbrev pub day_in : List TemplatePart → Ev → Option ℤ
day_in pieces e = if list_all is_daily pieces then option_map day_of (moment_of e) else None

-- a run of plain text as parts: none where it is empty
abbrev pub plain_parts : List ℕ → List TemplatePart
plain_parts [] = []
plain_parts (b ∷ bs) = p.Plain (b ∷ bs) ∷ []

-- so many bytes of a text, from a place on, may be cut out of it
abbrev pub IsPlaced : ℕ → List ℕ → ℕ → Type 0
IsPlaced count text at = (0 < count) × (at + count ≤ length text) × IsCharBoundary text at × IsCharBoundary text (at + count)

-- a run of plain text before parts
abbrev pub with_run : List ℕ → List TemplatePart → List TemplatePart
with_run [] ps = ps
with_run (b ∷ bs) ps = with_plain b (with_run bs ps)

-- what was written of a part
abbrev pub written : TemplatePart → List ℕ
written (p.Plain run) = run
written (p.Field way inner) = as_written inner
written (p.Date parts inner) = as_written inner

-- a part says what is written of it: plain text is not empty, a field's text is a path that leads there, and a date's is a `+` and a format of those parts
abbrev pub IsRead : TemplatePart → Type 0
IsRead (p.Plain run) = 0 < length run
IsRead (p.Field way inner) = way_in inner ≡ Some way
IsRead (p.Date parts inner) = (format : List ℕ) × (inner ≡ plus ∷ format) × (format_of format ≡ Some parts)

abbrev pub AreRead : List TemplatePart → Type 0
AreRead [] = Unit {0}
AreRead (piece ∷ ps) = IsRead piece × AreRead ps
