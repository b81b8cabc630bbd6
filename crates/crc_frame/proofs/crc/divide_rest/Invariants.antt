use Rattle.std.proofs.Common.{◌≡◌, ◌*◌, drop}
use Rattle.crc_frame.specs.Crc.{remainder_after}
use Rattle.crc_frame.proofs.crc.divide_rest.Given as goal

abbrev pub invariant-loop-word : goal.invariant-loop-word
invariant-loop-word l = remainder_after l.remainder (drop (l.word-index * 8) l.bytes) ≡ remainder_after l.fn.remainder l.bytes

abbrev pub invariant-loop-byte : goal.invariant-loop-byte
invariant-loop-byte l = remainder_after l.remainder (drop l.byte-index l.tail) ≡ remainder_after l.fn.remainder l.fn.bytes
