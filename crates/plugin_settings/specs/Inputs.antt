-- The inputs, as this project's table of plugins has them. Of each its settings are read in the order of the text, up to the first that is at fault, and then those that it can't do without have to stand.
use Rattle.std.specs.Prelude.{ℕ, zero, suc, List, [], ◌∷◌, Bool, true, false, if◌then◌else◌, codes, bytes_eq, Option, Some, None, option_and_then}
use Rattle.in_lines.specs.declared.codec.Codec.TheVariants as codec
use Rattle.config_tree.specs.Joining.{Entries}
use Rattle.config_tree.specs.declared.tree.SettingValue.{SettingValue}
use Rattle.filter_settings.specs.Settings.{Made, wanted, with_made, next, all_set, needed}
use Rattle.filter_settings.specs.Readers.{text_of, texts_of}
use Rattle.plugin_settings.specs.Common.{common_set, common_start}
use Rattle.plugin_settings.specs.Numbers.{count_of, port_of}
use Rattle.plugin_settings.specs.declared.common.InputSettings.{InputSettings}
use Rattle.plugin_settings.specs.declared.inputs.GeneratorSettings.{GeneratorSettings}
use Rattle.plugin_settings.specs.declared.inputs.FileInputSettings.{FileInputSettings}
use Rattle.plugin_settings.specs.declared.network.TcpSettings.{TcpSettings}
use Rattle.plugin_settings.specs.declared.network.HttpSettings.{HttpSettings}
use Rattle.plugin_settings.specs.declared.network.AddressSettings.{AddressSettings}
use Rattle.plugin_settings.specs.declared.network.DeadLetterSettings.{DeadLetterSettings}

-- stdin
abbrev pub stdin_of : Entries → Made InputSettings
stdin_of es = all_set common_set es (common_start codec.Line)

-- generator. There is a line at least among its lines.
abbrev some_texts : List (List ℕ) → Option (List (List ℕ))
some_texts [] = None
some_texts (s ∷ ss) = Some (s ∷ ss)

abbrev pub lines_of : SettingValue → Option (List (List ℕ))
lines_of x = option_and_then some_texts (texts_of x)

abbrev pub generator_set : List ℕ → SettingValue → GeneratorSettings → Made GeneratorSettings
generator_set k x g =
    if bytes_eq k (codes "message") then with_made (λ s. record g { message = s }) (wanted k (text_of x))
    else (if bytes_eq k (codes "lines") then with_made (λ ss. record g { lines = Some ss }) (wanted k (lines_of x))
    else (if bytes_eq k (codes "count") then with_made (λ n. record g { count = n }) (wanted k (count_of x))
    else (if bytes_eq k (codes "sample") then with_made (λ n. record g { sample = Some n }) (wanted k (count_of x))
    else with_made (λ s. record g { common = s }) (common_set k x g.common))))

abbrev pub generator_start : GeneratorSettings
generator_start = record { message = codes "Hello world!"; lines = None; count = 0; sample = None; common = common_start codec.Plain }

abbrev pub generator_of : Entries → Made GeneratorSettings
generator_of es = all_set generator_set es generator_start

-- file
abbrev pub position_of : List ℕ → Option Bool
position_of s = if bytes_eq s (codes "beginning") then Some true else (if bytes_eq s (codes "end") then Some false else None)

abbrev pub mode_of : List ℕ → Option Bool
mode_of s = if bytes_eq s (codes "read") then Some true else (if bytes_eq s (codes "tail") then Some false else None)

abbrev pub file_set : List ℕ → SettingValue → FileInputSettings → Made FileInputSettings
file_set k x f =
    if bytes_eq k (codes "path") then with_made (λ s. record f { path = s }) (wanted k (text_of x))
    else (if bytes_eq k (codes "start_position") then with_made (λ b. record f { from_start = b }) (wanted k (option_and_then position_of (text_of x)))
    else (if bytes_eq k (codes "mode") then with_made (λ b. record f { ends = b }) (wanted k (option_and_then mode_of (text_of x)))
    else with_made (λ s. record f { common = s }) (common_set k x f.common)))

abbrev pub file_start : FileInputSettings
file_start = record { path = []; from_start = false; ends = false; common = common_start codec.Plain }

abbrev pub file_of : Entries → Made FileInputSettings
file_of es = next (needed (codes "path") es) (all_set file_set es file_start)

-- tcp
abbrev pub is_server : List ℕ → Option (Unit {0})
is_server s = if bytes_eq s (codes "server") then Some tt else None

abbrev pub tcp_set : List ℕ → SettingValue → TcpSettings → Made TcpSettings
tcp_set k x t =
    if bytes_eq k (codes "port") then with_made (λ n. record t { port = n }) (wanted k (port_of x))
    else (if bytes_eq k (codes "host") then with_made (λ s. record t { host = s }) (wanted k (text_of x))
    else (if bytes_eq k (codes "mode") then with_made (λ server. t) (wanted k (option_and_then is_server (text_of x)))
    else with_made (λ s. record t { common = s }) (common_set k x t.common)))

abbrev pub any_host : List ℕ
any_host = codes "0.0.0.0"

abbrev pub tcp_start : TcpSettings
tcp_start = record { port = 0; host = any_host; common = common_start codec.Line }

abbrev pub tcp_of : Entries → Made TcpSettings
tcp_of es = next (needed (codes "port") es) (all_set tcp_set es tcp_start)

-- http
abbrev pub http_set : List ℕ → SettingValue → HttpSettings → Made HttpSettings
http_set k x h =
    if bytes_eq k (codes "port") then with_made (λ n. record h { port = n }) (wanted k (port_of x))
    else (if bytes_eq k (codes "host") then with_made (λ s. record h { host = s }) (wanted k (text_of x))
    else with_made (λ s. record h { common = s }) (common_set k x h.common))

abbrev pub http_start : HttpSettings
http_start = record { port = 8080; host = any_host; common = common_start codec.Line }

abbrev pub http_of : Entries → Made HttpSettings
http_of es = all_set http_set es http_start

-- pipeline
abbrev pub address_set : List ℕ → SettingValue → AddressSettings → Made AddressSettings
address_set k x a =
    if bytes_eq k (codes "address") then with_made (λ s. record a { address = s }) (wanted k (text_of x))
    else with_made (λ s. record a { common = s }) (common_set k x a.common)

abbrev pub address_start : AddressSettings
address_start = record { address = []; common = common_start codec.Line }

abbrev pub address_of : Entries → Made AddressSettings
address_of es = next (needed (codes "address") es) (all_set address_set es address_start)

-- dead_letter_queue
abbrev pub letters_set : List ℕ → SettingValue → DeadLetterSettings → Made DeadLetterSettings
letters_set k x d =
    if bytes_eq k (codes "pipeline_id") then with_made (λ s. record d { pipeline_id = s }) (wanted k (text_of x))
    else with_made (λ s. record d { common = s }) (common_set k x d.common)

abbrev pub letters_start : DeadLetterSettings
letters_start = record { pipeline_id = codes "main"; common = common_start codec.Line }

abbrev pub letters_of : Entries → Made DeadLetterSettings
letters_of es = all_set letters_set es letters_start
