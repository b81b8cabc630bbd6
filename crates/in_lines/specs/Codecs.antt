-- The codecs of inputs and outputs, as this project's table of plugins has them.
use Rattle.std.specs.Prelude.{ℕ, List, Bool, true, false, if◌then◌else◌, codes, bytes_eq, Option, Some, None}
use Rattle.in_lines.specs.declared.codec.Codec.{Codec}
use Rattle.in_lines.specs.declared.codec.Codec.TheVariants as codec

-- the codec of a name
abbrev pub codec_named : List ℕ → Option Codec
codec_named s = if bytes_eq s (codes "plain") then Some codec.Plain
    else (if bytes_eq s (codes "line") then Some codec.Line
    else (if bytes_eq s (codes "json") then Some codec.Json
    else (if bytes_eq s (codes "json_lines") then Some codec.JsonLines else None)))

-- it writes a text of each event
abbrev pub writes_texts : Codec → Bool
writes_texts codec.Plain = true
writes_texts codec.Line = true
writes_texts codec.Json = false
writes_texts codec.JsonLines = false
