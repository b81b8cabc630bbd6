-- The filter json, as this project's table of plugins has it.
use Rattle.std.specs.Prelude.{ℕ, List, [], ◌∷◌, false, if◌then◌else◌, codes, bytes_eq, Option, Some, None, option_and_then, Ok, Err}
use Rattle.event_tree.specs.Values.{Members}
use Rattle.event_tree.specs.Events.{Ev, event_at}
use Rattle.event_tree.specs.Paths.{over}
use Rattle.event_tree.specs.declared.value.Value.{Value, out-Value}
use Rattle.event_tree.specs.declared.value.Value.TheOpen.{Value-F}
use Rattle.event_text.specs.Options.{no_options, each_done, tagged}
use Rattle.event_text.specs.declared.applied.Applied.{Applied}
use Rattle.config_tree.specs.Joining.{Entries}
use Rattle.config_tree.specs.declared.tree.SettingValue.{SettingValue}
use Rattle.event_times.specs.Decoded.{json_in, text_of, named, placed, failure_tags}
use Rattle.filter_settings.specs.Settings.{Made, wanted, with_made, next, all_set, needed}
use Rattle.filter_settings.specs.Trying.{Tried, then_try, all_tried, put_at, finished}
use Rattle.filter_settings.specs.Readers.{text_of as setting_text, path_of}
use Rattle.filter_settings.specs.Options.{option_set}
use Rattle.filters_text.specs.declared.json_filter.Json.{Json}

-- one setting
abbrev pub json_set : List ℕ → SettingValue → Json → Made Json
json_set k x f =
    if bytes_eq k (codes "source") then with_made (λ way. record f { source = way }) (wanted k (path_of x))
    else (if bytes_eq k (codes "target") then with_made (λ way. record f { target = Some way }) (wanted k (path_of x))
    else (if bytes_eq k (codes "tag_on_failure") then with_made (λ tag. record f { tag_on_failure = tag }) (wanted k (setting_text x))
    else with_made (λ o. record f { options = o }) (option_set k x f.options)))

-- before any setting: no target
abbrev pub json_start : Json
json_start = record { source = named (codes "message"); target = None; tag_on_failure = codes "_jsonparsefailure"; options = no_options }

-- what the settings are read as; `source` has to stand among them
abbrev pub json_of : Entries → Made Json
json_of es = next (needed (codes "source") es) (all_set json_set es json_start)

-- the value of the JSON text that a value is
abbrev pub value_in : Value → Option Value
value_in x = option_and_then json_in (text_of x)

-- a member is put where it belongs, or dropped
abbrev pub place_one : List ℕ × Value → Ev → Tried
place_one m e = over (λ p. put_at p.0 p.1 e) (Ok e) (placed m)

abbrev pub place_all : Members → Ev → Tried
place_all ms e = all_tried place_one ms e

-- the members in their order, and then the tags of those that are not what they should be
abbrev pub put_members : Members → Ev → Tried
put_members ms e = then_try (λ done. Ok (each_done tagged (failure_tags ms) done)) (place_all ms e)

abbrev put_object_in : Ev → Value-F Value → Tried
put_object_in e Value-F.Null = Err e
put_object_in e (Value-F.Bool b) = Err e
put_object_in e (Value-F.Num n) = Err e
put_object_in e (Value-F.Text s) = Err e
put_object_in e (Value-F.Time t) = Err e
put_object_in e (Value-F.List xs) = Err e
put_object_in e (Value-F.Object ms) = put_members ms e

-- a value that is no object fails
abbrev pub put_object : Value → Ev → Tried
put_object x e = put_object_in e (out-Value x)

-- the value at the target, and without one its members at the root
abbrev pub put_value : Json → Value → Ev → Tried
put_value f x e = over (λ way. put_at way x e) (put_object x e) f.target

abbrev pub try_value : Json → Ev → Option Value → Tried
try_value f e found = over (λ x. put_value f x e) (Err e) found

abbrev pub with_value : Json → Ev → Option Value → Applied
with_value f e found = finished f.options f.tag_on_failure (try_value f e found)

-- the event whose field is missing stays as it is, and is not matched
abbrev pub decoded : Json → Ev → Applied
decoded f e = over (λ x. with_value f e (value_in x)) (record { events = e ∷ []; matched = false }) (event_at f.source e)
