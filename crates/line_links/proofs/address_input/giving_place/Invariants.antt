use Rattle.std.proofs.Common.{◌≡◌, ◌+◌, drop}
use Rattle.line_links.specs.Listening.{giving_place, states}
use Rattle.line_links.proofs.address_input.giving_place.Given as goal

abbrev pub invariant-loop-place : goal.invariant-loop-place
invariant-loop-place l = l.place + giving_place (states (drop l.place l.takers)) ≡ giving_place (states l.takers)
