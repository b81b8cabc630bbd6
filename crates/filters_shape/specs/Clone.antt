-- The filter clone, as this project's table of plugins has it.
use Rattle.std.specs.Prelude.{ℕ, List, [], ◌∷◌, map, true, if◌then◌else◌, codes, bytes_eq}
use Rattle.event_tree.specs.Events.{Ev}
use Rattle.event_text.specs.Options.{with_options, no_options, tagged}
use Rattle.config_tree.specs.Joining.{Entries}
use Rattle.event_text.specs.declared.applied.Applied.{Applied}
use Rattle.config_tree.specs.declared.tree.SettingValue.{SettingValue}
use Rattle.filter_settings.specs.Settings.{Made, wanted, with_made, next, all_set, needed}
use Rattle.filter_settings.specs.Readers.{texts_of}
use Rattle.filter_settings.specs.Options.{option_set}
use Rattle.filters_shape.specs.declared.clone_filter.CloneFilter.{CloneFilter}

-- one setting
abbrev pub clone_set : List ℕ → SettingValue → CloneFilter → Made CloneFilter
clone_set k x f = if bytes_eq k (codes "clones") then with_made (λ names. record { clones = names; options = f.options }) (wanted k (texts_of x))
    else with_made (λ o. record { clones = f.clones; options = o }) (option_set k x f.options)

-- before any setting
abbrev pub clone_start : CloneFilter
clone_start = record { clones = []; options = no_options }

-- what the settings are read as; `clones` has to stand among them
abbrev pub clone_of : Entries → Made CloneFilter
clone_of es = next (needed (codes "clones") es) (all_set clone_set es clone_start)

-- one copy: with its name among its tags, and then with the options
abbrev pub clone_named : CloneFilter → Ev → List ℕ → Ev
clone_named f e name = with_options f.options (tagged name e)

-- the original, as it was, and then one copy for each name
abbrev pub cloned : CloneFilter → Ev → Applied
cloned f e = record { events = e ∷ map (clone_named f e) f.clones; matched = true }
