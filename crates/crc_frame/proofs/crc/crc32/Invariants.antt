use Rattle.std.proofs.Common.{◌≡◌, ◌*◌, drop}
use Rattle.crc_frame.specs.Crc.{remainder_after}
use Rattle.crc_frame.proofs.crc.crc32.Given as goal

abbrev pub invariant-loop-chunk : goal.invariant-loop-chunk
invariant-loop-chunk l = remainder_after l.remainder (drop (l.chunk-index * 16) l.bytes) ≡ remainder_after 0xFFFF_FFFF l.bytes
