use Rattle.std.proofs.Common.{◌≡◌, drop, map}
use Rattle.io_real.specs.Links.{open_of, place_from}
use Rattle.io_real.proofs.connections.place_of.Given as goal

abbrev pub invariant-loop-place : goal.invariant-loop-place
invariant-loop-place g l = place_from l.place l.conn (map open_of (drop l.place l.members)) ≡ place_from 0 l.conn (map open_of l.members)
