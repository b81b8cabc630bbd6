-- What JSON can say of a value: it has no times, so that a time stands as its text.
use Rattle.std.specs.Prelude.{ℕ, ◌≤◌, List, [], ◌∷◌, Bool, true, false, ◌&&◌}
use Rattle.event_tree.specs.Values.{depth}
use Rattle.event_tree.specs.Sound.{all_true}
use Rattle.event_json.specs.JsonValues.{JsonWithin}
use Rattle.event_json.specs.TimeText.{time_text_of}
use Rattle.event_json.specs.Json.{json}
use Rattle.event_tree.specs.declared.value.Value.{Value}
use Rattle.event_tree.specs.declared.value.Value.TheOpen.{Value-F}
use Rattle.event_tree.specs.declared.value.Value.TheFolds.{fold-Value}
use Rattle.event_tree.specs.declared.value.Value.TheVariants as v

abbrev pub untimed_step : Value-F Value → Value
untimed_step Value-F.Null = v.Null
untimed_step (Value-F.Bool b) = v.Bool b
untimed_step (Value-F.Num n) = v.Num n
untimed_step (Value-F.Text s) = v.Text s
untimed_step (Value-F.Time t) = v.Text (time_text_of t)
untimed_step (Value-F.List vs) = v.List vs
untimed_step (Value-F.Object ms) = v.Object ms

-- the value with the text of each time in its place
unfoldable pub untimed : Value → Value
untimed = fold-Value Value untimed_step

-- the text that is written of the value is a text of it, but for its times, of as many levels as it has or more
abbrev pub ReadsBack : Value → Type 0
ReadsBack value = (levels : ℕ) → depth value ≤ levels → JsonWithin levels (json value) (untimed value)

abbrev pub all_values_true : List (List ℕ × Bool) → Bool
all_values_true [] = true
all_values_true (m ∷ ms) = m.1 && all_values_true ms

abbrev pub timeless_step : Value-F Bool → Bool
timeless_step Value-F.Null = true
timeless_step (Value-F.Bool b) = true
timeless_step (Value-F.Num n) = true
timeless_step (Value-F.Text s) = true
timeless_step (Value-F.Time t) = false
timeless_step (Value-F.List bs) = all_true bs
timeless_step (Value-F.Object ms) = all_values_true ms

-- no time stands in the value
unfoldable pub timeless : Value → Bool
timeless = fold-Value Bool timeless_step
