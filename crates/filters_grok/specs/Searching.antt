-- What patterns find in the value of a field, and how it is put into an event.
use Rattle.std.specs.Prelude.{ℕ, suc, List, [], ◌∷◌, ◌++◌, slice_get, Bool, true, false, ◌&&◌, ◌||◌, if◌then◌else◌, Option, Ok}
use Rattle.event_tree.specs.Events.{Ev, event_at}
use Rattle.event_tree.specs.Paths.{over}
use Rattle.event_tree.specs.declared.value.Value.{Value, out-Value}
use Rattle.event_tree.specs.declared.value.Value.TheOpen.{Value-F}
use Rattle.event_text.specs.Options.{values, value_and as value_or_list}
use Rattle.filter_settings.specs.Trying.{Tried, put_at}
use Rattle.filters_grok.specs.Matches.{puts_in}
use Rattle.grok_patterns.specs.declared.expansion.Capture.{Capture}
use Rattle.grok_patterns.specs.declared.expansion.Expanded.{Expanded}
use Rattle.filters_grok.specs.declared.grok_pattern.Put.{Put}
use Rattle.filters_grok.specs.declared.searching.Finds.{Finds}
use Rattle.filters_grok.specs.declared.searching.SearchOptions.{SearchOptions}

abbrev pub none : Finds
none = record { matched = false; puts = [] }

-- what was found, and what is found behind it
abbrev pub and_finds : Finds → Finds → Finds
and_finds a b = record { matched = a.matched || b.matched; puts = a.puts ++ b.puts }

-- the same, where the first match may end the search
abbrev pub both : SearchOptions → Finds → Finds → Finds
both how a b = if how.ends && a.matched then a else and_finds a b

abbrev pub with_puts : Finds → List Put → Finds
with_puts a puts = record { matched = true; puts = a.puts ++ puts }

-- by one pattern in a text
abbrev pub pattern_finds : SearchOptions → ℕ → Expanded → List ℕ → Finds
pattern_finds how n p s = over (λ puts. record { matched = true; puts = puts }) none (puts_in how.keep_empty n p s)

-- by the patterns from a number on, in their order
abbrev pub text_finds : SearchOptions → ℕ → List Expanded → List ℕ → Finds
text_finds how n [] s = none
text_finds how n (p ∷ ps) s = both how (pattern_finds how n p s) (text_finds how (suc n) ps s)

abbrev item_in : SearchOptions → List Expanded → Value-F Value → Finds
item_in how ps Value-F.Null = none
item_in how ps (Value-F.Bool b) = none
item_in how ps (Value-F.Num n) = none
item_in how ps (Value-F.Text s) = text_finds how 0 ps s
item_in how ps (Value-F.Time t) = none
item_in how ps (Value-F.List xs) = none
item_in how ps (Value-F.Object ms) = none

-- in a value that is a text
abbrev pub item_finds : SearchOptions → List Expanded → Value → Finds
item_finds how ps x = item_in how ps (out-Value x)

abbrev pub values_finds : SearchOptions → List Expanded → List Value → Finds
values_finds how ps [] = none
values_finds how ps (x ∷ xs) = both how (item_finds how ps x) (values_finds how ps xs)

-- in the value of a field: a list is searched item by item
abbrev pub value_finds : SearchOptions → List Expanded → Value → Finds
value_finds how ps x = values_finds how ps (values x)

abbrev pub value_and : Value → Option Value → Value
value_and x old = value_or_list x old

-- what a capture found stands in the place of what is at its field, or behind it
abbrev pub put_capture : Bool → Value → Capture → Ev → Tried
put_capture joined x c e = put_at c.path (if joined then value_and x (event_at c.path e) else x) e

abbrev pub put_in : List Expanded → Put → Ev → Tried
put_in ps put e = over (λ p. over (λ c. put_capture put.joins put.value c e) (Ok e) (slice_get p.captures put.capture)) (Ok e) (slice_get ps put.pattern)
