-- What filters make of events: each by its name and its settings.
use Rattle.std.specs.Prelude.{ℕ, List, [], map, Bool, true, false, ◌||◌, if◌then◌else◌, codes, bytes_eq, Option, Some, None, Ok, Err}
use Rattle.event_tree.specs.Events.{Ev}
use Rattle.event_text.specs.Options.{with_options, no_options}
use Rattle.event_text.specs.declared.applied.Applied.{Applied}
use Rattle.config_tree.specs.Joining.{Entries}
use Rattle.config_tree.specs.declared.tree.Plugin.{Plugin}
use Rattle.config_tree.specs.declared.tree.SettingValue.{SettingValue}
use Rattle.filter_settings.specs.Options.{option_set}
use Rattle.filter_settings.specs.Settings.{Made, with_made, next, all_set}
use Rattle.filters_date.specs.Dates.{date_of, dated}
use Rattle.filters_grok.specs.Grok.{grok_of, grokked}
use Rattle.filters_mutate.specs.Operations.{mutated}
use Rattle.filters_mutate.specs.Settings.{mutate_of}
use Rattle.filters_shape.specs.Clone.{clone_of, cloned}
use Rattle.filters_shape.specs.Drops.{drop_of, dropped}
use Rattle.filters_shape.specs.Split.{split_of, split}
use Rattle.filters_text.specs.Csv.{csv_of, separated}
use Rattle.filters_text.specs.Json.{json_of, decoded}
use Rattle.filters_text.specs.Kv.{kv_of, paired}
use Rattle.foreign_parts.specs.declared.filter.Verdict.{Verdict}
use Rattle.event_flow.specs.Flows.{Filtered, Gives, Asks}
use Rattle.built_plugins.specs.declared.boxed.BoxedFilter.{BoxedFilter}
use Rattle.built_plugins.specs.declared.built.BuiltFilter.{BuiltFilter}
use Rattle.built_plugins.specs.declared.built.BuiltFilter.TheVariants as built
use Rattle.built_plugins.specs.declared.filter.Filter.{Filter}
use Rattle.built_plugins.specs.declared.filter.Filter.TheVariants as f

-- a filter that was made, as a built-in one that was found
abbrev pub built_as : {A : Type 0} → (A → BuiltFilter) → Made A → Made (Option BuiltFilter)
built_as f made = with_made (λ x. Some (f x)) made

-- the built-in filter of a name, by its settings; none where no filter of that name is built in
unfoldable pub built_of : List ℕ → Entries → Made (Option BuiltFilter)
built_of name es =
    if bytes_eq name (codes "mutate") then built_as built.Mutate (mutate_of es)
    else (if bytes_eq name (codes "clone") then built_as built.Clone (clone_of es)
    else (if bytes_eq name (codes "split") then built_as built.Split (split_of es)
    else (if bytes_eq name (codes "drop") then built_as built.Drop (drop_of es)
    else (if bytes_eq name (codes "grok") then built_as built.Grok (grok_of es)
    else (if bytes_eq name (codes "json") then built_as built.Json (json_of es)
    else (if bytes_eq name (codes "kv") then built_as built.Kv (kv_of es)
    else (if bytes_eq name (codes "csv") then built_as built.Csv (csv_of es)
    else (if bytes_eq name (codes "date") then built_as built.Date (date_of es)
    else Ok None))))))))

-- what a built-in filter makes of an event
unfoldable pub applied : BuiltFilter → Ev → Applied
applied (built.Mutate x) = mutated x
applied (built.Clone x) = cloned x
applied (built.Split x) = split x
applied (built.Drop x) = λ e. dropped
applied (built.Grok x) = grokked x
applied (built.Json x) = decoded x
applied (built.Kv x) = paired x
applied (built.Csv x) = separated x
applied (built.Date x) = dated x

-- the settings that every filter has
abbrev pub is_common : List ℕ → Bool
is_common k = bytes_eq k (codes "id") || bytes_eq k (codes "add_field") || bytes_eq k (codes "remove_field") || bytes_eq k (codes "add_tag") || bytes_eq k (codes "remove_tag")

-- one setting of a boxed filter: the others are its own, and the box alone reads them
abbrev pub boxed_set : List ℕ → SettingValue → BoxedFilter → Made BoxedFilter
boxed_set k x b = if is_common k then with_made (λ o. record { options = o }) (option_set k x b.options) else Ok b

-- what the settings of a boxed filter are read as
unfoldable pub boxed_of : Entries → Made BoxedFilter
boxed_of es = all_set boxed_set es (record { options = no_options })

-- the filter that a plugin is: a built-in one by its name, and else a boxed one
abbrev pub boxed_unless : Entries → Option BuiltFilter → Made Filter
boxed_unless es None = with_made f.Boxed (boxed_of es)
boxed_unless es (Some x) = Ok (f.Built x)

abbrev pub filter_of : Plugin → Made Filter
filter_of p = next (boxed_unless p.settings.list) (built_of p.name p.settings.list)

abbrev pub is_boxed : Filter → Bool
is_boxed (f.Built x) = false
is_boxed (f.Boxed x) = true

-- the events of a verdict, with the options where the box matched
abbrev pub optioned : BoxedFilter → Verdict → List Ev
optioned b v = if v.matched then map (with_options b.options) v.events else v.events

-- what a filter makes of an event
abbrev pub filtered_by : Filter → Ev → Filtered
filtered_by (f.Built x) e = Gives (applied x e).events
filtered_by (f.Boxed x) e = Asks (optioned x)

-- no event is left where settings are refused: no configuration that passes its checks has such a filter
abbrev pub filtered_where : Made Filter → Ev → Filtered
filtered_where (Ok x) e = filtered_by x e
filtered_where (Err fault) e = Gives []

-- what a plugin of a filter section makes of an event
unfoldable pub makes : Plugin → Ev → Filtered
makes p e = filtered_where (filter_of p) e
