-- The settings of the output `elasticsearch`, and what they aim requests at.
use Rattle.std.specs.Prelude.{ℕ, List, [], ◌∷◌, if◌then◌else◌, codes, bytes_eq, Option, Some, None, option_and_then, Ok, Err}
use Rattle.std.specs.List.{list_all}
use Rattle.config_tree.specs.Joining.{Entries}
use Rattle.config_tree.specs.declared.fault.SettingFault.{SettingFault}
use Rattle.config_tree.specs.declared.tree.SettingValue.{SettingValue}
use Rattle.event_text.specs.Template.{template_parts}
use Rattle.event_text.specs.declared.template.TemplatePart.{TemplatePart}
use Rattle.filter_settings.specs.Readers.{template_of, texts_of}
use Rattle.filter_settings.specs.Settings.{Made, all_set, needed, next, wanted, with_made}
use Rattle.plugin_settings.specs.Outputs.{id_set}
use Rattle.out_bulk.specs.Hosts.{is_host}
use Rattle.out_bulk.specs.declared.settings.BulkSettings.{BulkSettings}

abbrev some_hosts : List (List ℕ) → Option (List (List ℕ))
some_hosts [] = None
some_hosts (h ∷ hs) = if list_all is_host (h ∷ hs) then Some (h ∷ hs) else None

-- a list of hosts, of which there is one at least
abbrev pub hosts_of : SettingValue → Option (List (List ℕ))
hosts_of x = option_and_then some_hosts (texts_of x)

abbrev pub bulk_set : List ℕ → SettingValue → BulkSettings → Made BulkSettings
bulk_set k x o =
    if bytes_eq k (codes "hosts") then with_made (λ hs. record o { hosts = hs }) (wanted k (hosts_of x))
    else (if bytes_eq k (codes "index") then with_made (λ parts. record o { index = parts }) (wanted k (template_of x))
    else with_made (λ s. record o { common = s }) (id_set k x o.common))

-- before any setting
abbrev pub default_index : List ℕ
default_index = codes "ecs-logstash-%{+yyyy.MM.dd}"

unfoldable pub bulk_start : BulkSettings
bulk_start = record { hosts = []; index = template_parts default_index; common = record {} }

abbrev pub bulk_of : Entries → Made BulkSettings
bulk_of es = next (needed (codes "hosts") es) (all_set bulk_set es bulk_start)

-- why settings are refused
abbrev fault_of : Made BulkSettings → Option SettingFault
fault_of (Ok o) = None
fault_of (Err fault) = Some fault

abbrev pub bulk_refusal : Entries → Option SettingFault
bulk_refusal es = fault_of (bulk_of es)

-- the host that is asked, and the pieces of the index's name
pub record Target : Type 0 where
  pub host : List ℕ
  pub index : List TemplatePart

abbrev pub first_host : List (List ℕ) → List ℕ
first_host [] = []
first_host (h ∷ hs) = h

-- the first host alone is asked. Before any settings both are empty.
abbrev pub target_of : Option BulkSettings → Target
target_of None = record { host = []; index = [] }
target_of (Some o) = record { host = first_host o.hosts; index = o.index }
