use Rattle.std.proofs.Common.{take}
use Rattle.io_memory.specs.Parts.{IsListed}
use Rattle.io_memory.proofs.listing.parts_behind.Given as goal

abbrev pub invariant-loop-member : goal.invariant-loop-member
invariant-loop-member l = IsListed l.start (take l.member-index l.member-items) l.names
