use Rattle.std.proofs.Common.{◌≡◌, length, string_bytes}
use Rattle.std.specs.Prelude.{IsUtf8}
use Rattle.event_json.specs.Reading.{plainly, inside_at, string_at}
use Rattle.event_json.specs.Stops.{IsHeld}
use Rattle.event_json.proofs.string.string.Given as goal

abbrev pub invariant-loop-found : goal.invariant-loop-found
invariant-loop-found l = record {
  utf8 : IsUtf8 l.rest;
  held : IsHeld l.waits;
  so_far : inside_at l.rest plainly l.waits (string_bytes l.found) ≡ string_at l.text;
}

abbrev pub decreases-loop-found : goal.decreases-loop-found
decreases-loop-found l = length l.rest
