use Rattle.std.proofs.Common.{◌≡◌, drop}
use Rattle.crc_frame.specs.Crc.{remainder_after}
use Rattle.base_tests.proofs.bitwise.crc32_bitwise.Given as goal

abbrev pub invariant-loop-byte : goal.invariant-loop-byte
invariant-loop-byte l = remainder_after l.remainder (drop l.byte-index l.bytes) ≡ remainder_after 0xFFFF_FFFF l.bytes
