-- The event of a line, by the codec of its input (this project's rules for inputs).
use Rattle.std.specs.Prelude.{ℕ, List, [], ◌∷◌, codes, false, Option}
use Rattle.event_tree.specs.Values.{Members}
use Rattle.event_tree.specs.Events.{Ev, Way, both, event_at, to}
use Rattle.event_tree.specs.Paths.{over}
use Rattle.event_tree.specs.declared.value.Value.{Value, out-Value}
use Rattle.event_tree.specs.declared.value.Value.TheOpen.{Value-F}
use Rattle.event_tree.specs.declared.value.Value.TheVariants as v
use Rattle.event_text.specs.Options.{each_done, set_at, tagged}
use Rattle.event_times.specs.Decoded.{failure_tags, json_in, named, placed}
use Rattle.in_lines.specs.declared.codec.Codec.{Codec}
use Rattle.in_lines.specs.declared.codec.Codec.TheVariants as codec
use Rattle.in_lines.specs.Events.{event_of}
use Rattle.in_lines.specs.Polls.{Received}

-- the line as the message of an event, with nothing in its meta
abbrev pub message_event : Received → Ev
message_event r = both (event_of r) (v.Object [])

-- ---- JSON objects

-- a member where it belongs, or dropped
abbrev pub with_member : List ℕ × Value → Ev → Ev
with_member m e = over (λ p. set_at p.0 p.1 e) e (placed m)

-- the value, where none stands there
abbrev pub set_missing : Way → Value → Ev → Ev
set_missing w x e = over (λ old. e) (set_at w x e) (event_at w e)

-- what an event keeps of its own coming
abbrev pub in_event : List ℕ → Way
in_event name = to false (codes "event" ∷ name ∷ [])

-- where it keeps its line
abbrev pub original : Way
original = in_event (codes "original")

-- The members of the object in their order, then the tags of those that are not what they should be, then what each event has and this one lacks,
-- and the line.
abbrev pub object_event : Received → Members → Ev
object_event r ms =
    set_at original (v.Text r.line)
    (set_missing (named (codes "@timestamp")) (v.Time r.moment)
    (set_missing (named (codes "@version")) (v.Text (codes "1"))
    (each_done tagged (failure_tags ms)
    (each_done with_member ms (both (v.Object []) (v.Object []))))))

-- a line that is no JSON object
abbrev pub failed : Received → Ev
failed r = tagged (codes "_jsonparsefailure") (message_event r)

abbrev value_event_in : Received → Value-F Value → Ev
value_event_in r Value-F.Null = failed r
value_event_in r (Value-F.Bool b) = failed r
value_event_in r (Value-F.Num n) = failed r
value_event_in r (Value-F.Text s) = failed r
value_event_in r (Value-F.Time t) = failed r
value_event_in r (Value-F.List xs) = failed r
value_event_in r (Value-F.Object ms) = object_event r ms

abbrev pub value_event : Received → Value → Ev
value_event r x = value_event_in r (out-Value x)

-- of a line that is the text of this value, or of none
abbrev pub json_event : Received → Option Value → Ev
json_event r found = over (value_event r) (failed r) found

-- ---- codecs

abbrev pub event_by : Codec → Received → Ev
event_by codec.Plain r = message_event r
event_by codec.Line r = message_event r
event_by codec.Json r = json_event r (json_in r.line)
event_by codec.JsonLines r = json_event r (json_in r.line)
