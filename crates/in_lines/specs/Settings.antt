-- What an input makes of each of its lines: the event by its codec, and then its own type, fields and tags (this project's rules for inputs).
use Rattle.std.specs.Prelude.{ℕ, List, codes, Option, Some, None}
use Rattle.event_tree.specs.Events.{Ev}
use Rattle.event_tree.specs.declared.value.Value.TheVariants as v
use Rattle.event_text.specs.Options.{with_options}
use Rattle.event_times.specs.Decoded.{named}
use Rattle.in_lines.specs.Polls.{Received}
use Rattle.in_lines.specs.Decoding.{event_by, set_missing}
use Rattle.in_lines.specs.declared.settings.EventSettings.{EventSettings}

-- the type of the input, where the event has none
abbrev pub with_type : Option (List ℕ) → Ev → Ev
with_type None e = e
with_type (Some t) e = set_missing (named (codes "type")) (v.Text t) e

-- an event of the input: its type first, then its fields and its tags
abbrev pub with_settings : EventSettings → Ev → Ev
with_settings s e = with_options s.options (with_type s.event_type e)

-- the event of a line
abbrev pub event_with : EventSettings → Received → Ev
event_with s r = with_settings s (event_by s.codec r)
