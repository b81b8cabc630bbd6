-- The text of a value where a text is wanted: a field in a template, a number set in a field.
use Rattle.std.specs.Prelude.{ℕ, List, [], ◌∷◌, ◌++◌, map, Bool, true, false}
use Rattle.event_tree.specs.Values.{on_values}
use Rattle.event_tree.specs.declared.value.Value.{Value}
use Rattle.event_tree.specs.declared.value.Value.TheOpen.{Value-F}
use Rattle.event_tree.specs.declared.value.Value.TheFolds.{fold-Value}
use Rattle.event_json.specs.TimeText.{time_text_of}
use Rattle.event_json.specs.Json.{json_step, comma_if}

-- the texts with a comma between them
abbrev pub joined : Bool → List (List ℕ) → List ℕ
joined later [] = []
joined later (t ∷ ts) = comma_if later ++ (t ++ joined true ts)

-- a value's JSON text, and the text that it is shown by
pub record Texts : Type 0 where
  pub json : List ℕ
  pub shown : List ℕ

-- one level, with the JSON text of what is in it
abbrev pub jsons_in : Value-F Texts → Value-F (List ℕ)
jsons_in Value-F.Null = Value-F.Null
jsons_in (Value-F.Bool b) = Value-F.Bool b
jsons_in (Value-F.Num n) = Value-F.Num n
jsons_in (Value-F.Text s) = Value-F.Text s
jsons_in (Value-F.Time t) = Value-F.Time t
jsons_in (Value-F.List vs) = Value-F.List (map (λ t. t.json) vs)
jsons_in (Value-F.Object ms) = Value-F.Object (on_values (λ t. t.json) ms)

-- null is the empty text, a text itself, a time its text, a list its items' texts with a comma between; a truth value, a number and an object are shown by their JSON text
abbrev pub shown_in : Value-F Texts → List ℕ
shown_in Value-F.Null = []
shown_in (Value-F.Bool b) = json_step (Value-F.Bool b)
shown_in (Value-F.Num n) = json_step (Value-F.Num n)
shown_in (Value-F.Text s) = s
shown_in (Value-F.Time t) = time_text_of t
shown_in (Value-F.List vs) = joined false (map (λ t. t.shown) vs)
shown_in (Value-F.Object ms) = json_step (Value-F.Object (on_values (λ t. t.json) ms))

abbrev pub texts_step : Value-F Texts → Texts
texts_step d = record { json = json_step (jsons_in d); shown = shown_in d }

unfoldable pub texts : Value → Texts
texts = fold-Value Texts texts_step

unfoldable pub shown : Value → List ℕ
shown d = (texts d).shown

abbrev pub items_shown : List Value → List ℕ
items_shown vs = joined false (map shown vs)
