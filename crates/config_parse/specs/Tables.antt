-- What the values and settings that are being read stand for.
use Rattle.std.specs.Prelude.{◌≡◌, ℕ, List, map, Option, Some, None, bytes_eq}
use Rattle.std.specs.Map.{lookup}
use Rattle.indexmap.specs.IndexMap.{insert_entry}
use Rattle.config_tree.specs.declared.tree.SettingValue.{SettingValue}
use Rattle.config_tree.specs.declared.tree.SettingValue.TheVariants as v
use Rattle.config_tree.specs.Joining.{Entries, joined_value, with_setting}
use Rattle.config_parse.specs.declared.joining.ReadValue.{ReadValue}
use Rattle.config_parse.specs.declared.joining.ReadValue.TheVariants as read

abbrev pub value_of : ReadValue → SettingValue
value_of (read.Text s) = v.Text s
value_of (read.Number n) = v.Number n
value_of (read.Nested plugin) = v.Nested plugin
value_of (read.Array xs) = v.Array xs
value_of (read.Hash table) = v.Hash table.entries

abbrev pub values_of : List (List ℕ × ReadValue) → Entries
values_of settings = map (λ e. (e.0, value_of e.1)) settings

-- settings, by their names
abbrev pub Held : Type 0
Held = List (List ℕ × ReadValue)

abbrev pub held_at : List ℕ → Held → Option ReadValue
held_at k settings = lookup (bytes_eq k) settings

-- what stands for a value behind the earlier one of its setting, where there is one
abbrev pub JoinsTo : Option ReadValue → ReadValue → ReadValue → Type 0
JoinsTo None x made = made ≡ x
JoinsTo (Some earlier) x made = value_of made ≡ joined_value (value_of earlier) (value_of x)

-- but for the value at the name, they are the same
abbrev pub IsSameElsewhere : List ℕ → Held → Held → Type 0
IsSameElsewhere k old new = (x : ReadValue) → insert_entry bytes_eq new k x ≡ insert_entry bytes_eq old k x

-- the settings with this one
abbrev pub HasSetting : List ℕ → ReadValue → Held → Held → Type 0
HasSetting k x old new = values_of new ≡ with_setting k (value_of x) (values_of old)
