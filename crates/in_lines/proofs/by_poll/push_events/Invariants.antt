use Rattle.std.proofs.Common.{◌≡◌, ◌++◌, map, drop}
use Rattle.std.specs.String.{string_bytes}
use Rattle.in_lines.specs.Polls.{received_at}
use Rattle.in_lines.specs.Events.{event_of}
use Rattle.in_lines.proofs.by_poll.push_events.Given as goal

abbrev pub invariant-loop-line : goal.invariant-loop-line
invariant-loop-line l =
    l.events.items ++ map event_of (received_at l.moment (map string_bytes (drop l.line-index l.lines)))
    ≡ l.fn.events.items ++ map event_of (received_at l.moment (map string_bytes l.lines))
