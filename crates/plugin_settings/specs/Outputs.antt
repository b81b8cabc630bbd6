-- The outputs, as this project's table of plugins has them. Of each its settings are read in the order of the text, up to the first that is at fault, and then those that it can't do without have to stand.
use Rattle.std.specs.Prelude.{ℕ, List, [], ◌∷◌, Bool, true, false, if◌then◌else◌, codes, bytes_eq, Option, Some, None, option_and_then, Err}
use Rattle.in_lines.specs.declared.codec.Codec.TheVariants as codec
use Rattle.in_lines.specs.declared.codec.OutCodec.{OutCodec}
use Rattle.config_tree.specs.Joining.{Entries}
use Rattle.config_tree.specs.declared.tree.SettingValue.{SettingValue}
use Rattle.config_tree.specs.declared.fault.SettingFault.TheVariants as fault
use Rattle.filter_settings.specs.Settings.{Made, wanted, with_made, next, all_set, needed}
use Rattle.filter_settings.specs.Readers.{id_of, text_of, texts_of, flag_of}
use Rattle.plugin_settings.specs.Codecs.{out_codec_read, out_codec_start}
use Rattle.plugin_settings.specs.declared.outputs.StdoutSettings.{StdoutSettings}
use Rattle.plugin_settings.specs.declared.outputs.FileOutputSettings.{FileOutputSettings}
use Rattle.plugin_settings.specs.declared.outputs.SendSettings.{SendSettings}
use Rattle.plugin_settings.specs.declared.outputs.SinkSettings.{SinkSettings}

-- the one setting that every output has; any other name is unknown
abbrev pub id_set : {A : Type 0} → List ℕ → SettingValue → A → Made A
id_set k x a = if bytes_eq k (codes "id") then with_made (λ id. a) (wanted k (id_of x)) else Err (fault.Unknown k)

-- stdout
abbrev pub stdout_set : List ℕ → SettingValue → StdoutSettings → Made StdoutSettings
stdout_set k x o = if bytes_eq k (codes "codec") then with_made (λ c. record { codec = c }) (out_codec_read k x) else id_set k x o

abbrev pub stdout_of : Entries → Made StdoutSettings
stdout_of es = all_set stdout_set es (record { codec = out_codec_start codec.JsonLines })

-- file
abbrev pub file_set : List ℕ → SettingValue → FileOutputSettings → Made FileOutputSettings
file_set k x o =
    if bytes_eq k (codes "path") then with_made (λ s. record o { path = s }) (wanted k (text_of x))
    else (if bytes_eq k (codes "codec") then with_made (λ c. record o { codec = c }) (out_codec_read k x)
    else id_set k x o)

abbrev pub file_start : FileOutputSettings
file_start = record { path = []; codec = out_codec_start codec.JsonLines }

abbrev pub file_of : Entries → Made FileOutputSettings
file_of es = next (needed (codes "path") es) (all_set file_set es file_start)

-- pipeline. Delivery can't be left unsure.
abbrev yes : Bool → Option (Unit {0})
yes true = Some tt
yes false = None

abbrev pub sure : SettingValue → Option (Unit {0})
sure x = option_and_then yes (flag_of x)

abbrev pub send_set : List ℕ → SettingValue → SendSettings → Made SendSettings
send_set k x o =
    if bytes_eq k (codes "send_to") then with_made (λ ss. record { send_to = ss }) (wanted k (texts_of x))
    else (if bytes_eq k (codes "ensure_delivery") then with_made (λ u. o) (wanted k (sure x))
    else id_set k x o)

abbrev pub send_of : Entries → Made SendSettings
send_of es = next (needed (codes "send_to") es) (all_set send_set es (record { send_to = [] }))

-- sink
abbrev pub sink_of : Entries → Made SinkSettings
sink_of es = all_set id_set es (record {})
