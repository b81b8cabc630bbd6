use Rattle.std.proofs.Common.{◌≡◌, map, take}
use Rattle.in_lines.specs.Polls.{joined, is_ended, received}
use Rattle.in_lines.specs.Events.{event_of}
use Rattle.in_lines.specs.Given.{polls_of}
use Rattle.in_lines.proofs.by_poll.events_of_polls.Given as goal

abbrev pub invariant-loop-poll : goal.invariant-loop-poll
invariant-loop-poll l = record {
  bytes : l.bytes.items ≡ joined (polls_of (take l.poll-index l.polls));
  ended : l.ended ≡ is_ended (polls_of (take l.poll-index l.polls));
  events : l.events.items ≡ map event_of (received l.limit (polls_of (take l.poll-index l.polls)));
}
