-- The event of a line: what an input with the codec `line` makes of it.
use Rattle.std.specs.Prelude.{ℕ, List, [], ◌∷◌, map, codes}
use Rattle.event_tree.specs.Values.{Members}
use Rattle.event_tree.specs.declared.value.Value.{Value}
use Rattle.event_tree.specs.declared.value.Value.TheVariants as v
use Rattle.in_lines.specs.Polls.{Poll, Received, received}

-- the line as `message` and as `[event][original]`, the moment as `@timestamp`, and the version of this form of events
abbrev pub original_of : Received → Members
original_of r = (codes "original", v.Text r.line) ∷ []

abbrev pub members_of : Received → Members
members_of r =
    (codes "@timestamp", v.Time r.moment)
    ∷ (codes "@version", v.Text (codes "1"))
    ∷ (codes "event", v.Object (original_of r))
    ∷ (codes "message", v.Text r.line)
    ∷ []

abbrev pub event_of : Received → Value
event_of r = v.Object (members_of r)

-- the events of what a source gave, in order
abbrev pub events_of : ℕ → List Poll → List Value
events_of limit polls = map event_of (received limit polls)
