use Rattle.std.proofs.Common.{◌≡◌, ◌+◌, drop}
use Rattle.foreign_parts.specs.Links.{place}
use Rattle.foreign_parts.proofs.links.place_of.Given as goal

abbrev pub invariant-loop-at : goal.invariant-loop-at
invariant-loop-at l = l.at + place l.address (drop l.at l.places) ≡ place l.address l.places
