use Rattle.std.proofs.Common.{◌<◌, ◌^◌}
use Rattle.bulk_replies.proofs.Digits.{IsReading}
use Rattle.bulk_replies.proofs.passing.digits_alone.Given as goal

abbrev pub invariant-loop-byte : goal.invariant-loop-byte
invariant-loop-byte l = IsReading l.bytes l.byte-index l.value × (l.value < 2 ^ 64)
