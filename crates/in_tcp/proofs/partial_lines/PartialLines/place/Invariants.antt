use Rattle.std.proofs.Common.{◌≡◌, drop}
use Rattle.in_tcp.specs.Rests.{place_from}
use Rattle.in_tcp.proofs.partial_lines.PartialLines.place.Given as goal

abbrev pub invariant-loop-place : goal.invariant-loop-place
invariant-loop-place l = place_from l.place l.conn (drop l.place l.self) ≡ place_from 0 l.conn l.self
