use Rattle.std.proofs.Common.{◌≡◌, take}
use Rattle.in_tcp.specs.Pieces.{total_of}
use Rattle.in_tcp.proofs.pieces.total_before.Given as goal

abbrev pub invariant-loop-at : goal.invariant-loop-at
invariant-loop-at l = l.total ≡ total_of (take l.at l.marks.items)
