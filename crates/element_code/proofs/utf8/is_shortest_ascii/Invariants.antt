use Rattle.std.proofs.Common.{drop}
use Rattle.std.specs.Str.{IsAscii}
use Rattle.element_code.proofs.utf8.is_shortest_ascii.Given as goal

abbrev pub invariant-loop-byte : goal.invariant-loop-byte
invariant-loop-byte l = IsAscii (drop l.byte-index l.bytes) → IsAscii l.bytes
