use Rattle.std.proofs.Common.{◌≡◌, ◌+◌, drop}
use Rattle.foreign_parts.specs.Shelves.{stocks}
use Rattle.foreign_parts.specs.Stocks.{place}
use Rattle.foreign_parts.proofs.shelves.place_of.Given as goal

abbrev pub invariant-loop-at : goal.invariant-loop-at
invariant-loop-at g l = l.at + place l.name (stocks g.T.Plugged.number (drop l.at l.shelves)) ≡ place l.name (stocks g.T.Plugged.number l.shelves)
