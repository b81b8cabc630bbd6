-- The settings that every input has.
use Rattle.std.specs.Prelude.{ℕ, List, [], if◌then◌else◌, codes, bytes_eq, Some, None, Err}
use Rattle.in_lines.specs.declared.codec.Codec.{Codec}
use Rattle.config_tree.specs.declared.tree.SettingValue.{SettingValue}
use Rattle.config_tree.specs.declared.fault.SettingFault.TheVariants as fault
use Rattle.filter_settings.specs.Settings.{Made, wanted, with_made}
use Rattle.filter_settings.specs.Readers.{id_of, text_of, templates_of, field_templates_of}
use Rattle.plugin_settings.specs.Codecs.{codec_read}
use Rattle.plugin_settings.specs.declared.common.InputSettings.{InputSettings}

-- before any setting, with the codec that the input has by default
abbrev pub common_start : Codec → InputSettings
common_start c = record { codec = c; add_field = []; tags = []; event_type = None }

-- one setting of those; any other name is unknown
abbrev pub common_set : List ℕ → SettingValue → InputSettings → Made InputSettings
common_set k x s =
    if bytes_eq k (codes "id") then with_made (λ id. s) (wanted k (id_of x))
    else (if bytes_eq k (codes "codec") then with_made (λ c. record s { codec = c }) (codec_read k x)
    else (if bytes_eq k (codes "add_field") then with_made (λ fs. record s { add_field = fs }) (wanted k (field_templates_of x))
    else (if bytes_eq k (codes "tags") then with_made (λ ts. record s { tags = ts }) (wanted k (templates_of x))
    else (if bytes_eq k (codes "type") then with_made (λ t. record s { event_type = Some t }) (wanted k (text_of x))
    else Err (fault.Unknown k)))))
