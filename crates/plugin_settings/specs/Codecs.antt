-- The codecs of inputs and outputs, as this project's table of plugins has them.
use Rattle.std.specs.Prelude.{ℕ, List, [], ◌∷◌, if◌then◌else◌, codes, bytes_eq, Option, Some, None, option_and_then, Ok, Err}
use Rattle.event_text.specs.Template.{template_parts}
use Rattle.in_lines.specs.declared.codec.Codec.{Codec}
use Rattle.in_lines.specs.Codecs.{codec_named, writes_texts}
use Rattle.in_lines.specs.declared.codec.OutCodec.{OutCodec}
use Rattle.config_tree.specs.Joining.{Entries}
use Rattle.config_tree.specs.Readers.{Open}
use Rattle.config_tree.specs.declared.tree.SettingValue.{SettingValue, out-SettingValue}
use Rattle.config_tree.specs.declared.tree.SettingValue.TheOpen.{SettingValue-F}
use Rattle.config_tree.specs.declared.fault.SettingFault.TheVariants as fault
use Rattle.filter_settings.specs.Settings.{Made, wanted, with_made, next, all_set}
use Rattle.filter_settings.specs.Readers.{template_of}
use Rattle.plugin_settings.specs.declared.codecs.Format.{Format}

abbrev name_in : Open → Option (List ℕ)
name_in (SettingValue-F.Text s) = Some s
name_in (SettingValue-F.Nested p) = Some p.name
name_in _ = None

abbrev settings_in : Open → Entries
settings_in (SettingValue-F.Nested p) = p.settings.list
settings_in _ = []

-- the codec that a text names, or a plugin
abbrev pub codec_of : SettingValue → Option Codec
codec_of x = option_and_then codec_named (name_in (out-SettingValue x))

-- the settings of a codec that is written as a plugin
abbrev pub codec_settings : SettingValue → Entries
codec_settings x = settings_in (out-SettingValue x)

-- no setting stands there
abbrev pub without_settings : {A : Type 0} → Entries → A → Made A
without_settings [] x = Ok x
without_settings (e ∷ es) x = Err (fault.Unknown e.0)

-- what the codec of an input is read as: it has no settings
abbrev pub codec_read : List ℕ → SettingValue → Made Codec
codec_read k x = next (without_settings (codec_settings x)) (wanted k (codec_of x))

-- one setting of a codec that writes texts
abbrev pub format_set : List ℕ → SettingValue → Format → Made Format
format_set k x f =
    if bytes_eq k (codes "format") then with_made (λ parts. record { template = parts }) (wanted k (template_of x))
    else Err (fault.Unknown k)

-- before any setting it is the message
abbrev pub format_start : Format
format_start = record { template = template_parts (codes "%{message}") }

abbrev pub out_codec : Codec → Format → OutCodec
out_codec c f = record { codec = c; format = f.template }

-- the codec of an output before any of its settings
abbrev pub out_codec_start : Codec → OutCodec
out_codec_start c = out_codec c format_start

-- the format of a codec, where it has one
abbrev pub format_read : Codec → Entries → Made Format
format_read c es = if writes_texts c then all_set format_set es format_start else without_settings es format_start

-- what the codec of an output is read as
abbrev pub out_codec_read : List ℕ → SettingValue → Made OutCodec
out_codec_read k x = next (λ c. with_made (out_codec c) (format_read c (codec_settings x))) (wanted k (codec_of x))
