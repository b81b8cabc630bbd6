-- The settings that every filter has: its id, and the four options.
use Rattle.std.specs.Prelude.{ℕ, List, codes, bytes_eq, if◌then◌else◌, Err}
use Rattle.event_text.specs.declared.options.Options.{Options}
use Rattle.config_tree.specs.declared.tree.SettingValue.{SettingValue}
use Rattle.config_tree.specs.declared.fault.SettingFault.TheVariants as fault
use Rattle.filter_settings.specs.Settings.{Made, wanted, with_made}
use Rattle.filter_settings.specs.Readers.{id_of, paths_of, templates_of, field_templates_of}

-- one setting of those; any other name is unknown
abbrev pub option_set : List ℕ → SettingValue → Options → Made Options
option_set k x o =
    if bytes_eq k (codes "id") then with_made (λ id. o) (wanted k (id_of x))
    else (if bytes_eq k (codes "add_field") then with_made (λ fs. record { add_field = fs; remove_field = o.remove_field; add_tag = o.add_tag; remove_tag = o.remove_tag }) (wanted k (field_templates_of x))
    else (if bytes_eq k (codes "remove_field") then with_made (λ ps. record { add_field = o.add_field; remove_field = ps; add_tag = o.add_tag; remove_tag = o.remove_tag }) (wanted k (paths_of x))
    else (if bytes_eq k (codes "add_tag") then with_made (λ ts. record { add_field = o.add_field; remove_field = o.remove_field; add_tag = ts; remove_tag = o.remove_tag }) (wanted k (templates_of x))
    else (if bytes_eq k (codes "remove_tag") then with_made (λ ts. record { add_field = o.add_field; remove_field = o.remove_field; add_tag = o.add_tag; remove_tag = ts }) (wanted k (templates_of x))
    else Err (fault.Unknown k)))))
