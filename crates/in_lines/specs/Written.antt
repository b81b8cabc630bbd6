-- The bytes that outputs write, by their codecs.
use Rattle.std.specs.Prelude.{ℕ, List, [], ◌∷◌, ◌++◌, flat_map}
use Rattle.event_tree.specs.Events.{Ev}
use Rattle.event_json.specs.Json.{json}
use Rattle.event_text.specs.Template.{text}
use Rattle.in_lines.specs.declared.codec.Codec.{Codec}
use Rattle.in_lines.specs.declared.codec.Codec.TheVariants.{Plain, Line, Json, JsonLines}
use Rattle.in_lines.specs.declared.codec.OutCodec.{OutCodec}

module _ (out : OutCodec) (e : Ev) where
  -- what a codec writes of an event: its JSON text without `@metadata`, or the text to which it fills the format; with a line
  -- feed behind it where the codec goes by lines
  abbrev pub bytes_by : Codec → List ℕ
  bytes_by Plain = text out.format e
  bytes_by Line = text out.format e ++ 10 ∷ []
  bytes_by Json = json e.fields
  bytes_by JsonLines = json e.fields ++ 10 ∷ []

  abbrev pub event_bytes : List ℕ
  event_bytes = bytes_by out.codec

-- what an output writes of events, in order
abbrev pub out_bytes : OutCodec → List Ev → List ℕ
out_bytes out events = flat_map (event_bytes out) events
