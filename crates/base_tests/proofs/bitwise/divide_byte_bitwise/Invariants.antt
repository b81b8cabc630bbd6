use Rattle.std.proofs.Common.{◌≡◌, [], ◌∷◌, ◌-◌, ◌/◌, ◌^◌, fold}
use Rattle.crc_frame.specs.Crc.{divide_bit, low_bits, remainder_after}
use Rattle.base_tests.proofs.bitwise.divide_byte_bitwise.Given as goal

abbrev pub invariant-loop-place : goal.invariant-loop-place
invariant-loop-place l =
    fold divide_bit l.remainder (low_bits (8 - l.place) (l.byte / 2 ^ l.place)) ≡ remainder_after l.fn.remainder (l.byte ∷ [])
