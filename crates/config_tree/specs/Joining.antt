-- How settings that stand twice and sections that repeat are joined.
use Rattle.std.specs.Prelude.{ℕ, List, [], ◌∷◌, ◌++◌, Bool, if◌then◌else◌, bytes_eq}
use Rattle.std.specs.List.{list_any}
use Rattle.config_tree.specs.declared.tree.SettingValue.{SettingValue, out-SettingValue}
use Rattle.config_tree.specs.declared.tree.SettingValue.TheOpen.{SettingValue-F}
use Rattle.config_tree.specs.declared.tree.SettingValue.TheVariants as v
use Rattle.config_tree.specs.declared.tree.Plugin.{Plugin}
use Rattle.config_tree.specs.declared.tree.Settings.{Settings}
use Rattle.config_tree.specs.declared.tree.Statement.{Statement}
use Rattle.config_tree.specs.declared.tree.Config.{Config}

-- names, or keys, with their values
abbrev pub Entries : Type 0
Entries = List (List ℕ × SettingValue)

-- a key stands in the entries
abbrev pub has : List ℕ → Entries → Bool
has k entries = list_any (λ e. bytes_eq e.0 k) entries

-- the entries with this one: in the place of the one with this key, or at the end
abbrev pub with_entry : List ℕ → SettingValue → Entries → Entries
with_entry k x [] = (k, x) ∷ []
with_entry k x (e ∷ entries) = if bytes_eq e.0 k then (k, x) ∷ entries else e ∷ with_entry k x entries

-- two hashes as one: of a key that both have, the later value in the place of the first
abbrev pub with_entries : Entries → Entries → Entries
with_entries entries [] = entries
with_entries entries (e ∷ later) = with_entries (with_entry e.0 e.1 entries) later

abbrev joined_step : SettingValue → SettingValue-F SettingValue Plugin Settings → SettingValue-F SettingValue Plugin Settings → SettingValue
joined_step y (SettingValue-F.Array xs) (SettingValue-F.Array ys) = v.Array (xs ++ ys)
joined_step y (SettingValue-F.Hash xs) (SettingValue-F.Hash ys) = v.Hash (with_entries xs ys)
joined_step y _ _ = y

-- two values of one setting: two arrays as one, two hashes as one, and else the later
abbrev pub joined_value : SettingValue → SettingValue → SettingValue
joined_value x y = joined_step y (out-SettingValue x) (out-SettingValue y)

-- the settings with this one: in the place of the one with this name, joined with it, or at the end
abbrev pub with_setting : List ℕ → SettingValue → Entries → Entries
with_setting k x [] = (k, x) ∷ []
with_setting k x (e ∷ entries) = if bytes_eq e.0 k then (k, joined_value e.1 x) ∷ entries else e ∷ with_setting k x entries

abbrev pub plugin_of : List ℕ → Entries → Plugin
plugin_of name settings = record { name = name; settings = record { list = settings } }

-- a configuration without sections
abbrev pub empty : Config
empty = record { inputs = []; filters = []; outputs = [] }

-- the configuration with one more section
abbrev pub with_inputs : Config → List Plugin → Config
with_inputs config xs = record { inputs = config.inputs ++ xs; filters = config.filters; outputs = config.outputs }

abbrev pub with_filters : Config → List Statement → Config
with_filters config xs = record { inputs = config.inputs; filters = config.filters ++ xs; outputs = config.outputs }

abbrev pub with_outputs : Config → List Statement → Config
with_outputs config xs = record { inputs = config.inputs; filters = config.filters; outputs = config.outputs ++ xs }
