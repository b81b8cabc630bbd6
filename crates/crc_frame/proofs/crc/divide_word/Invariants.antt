use Rattle.std.proofs.Common.{◌≡◌, ◌+◌, ◌-◌, ◌*◌, ◌/◌, ◌^◌}
use Rattle.crc_frame.proofs.Division.{shifted}
use Rattle.crc_frame.proofs.crc.divide_word.Given as goal

-- the bytes from the last one on, each with those behind it
abbrev pub invariant-loop-place : goal.invariant-loop-place
invariant-loop-place l = l.after ≡ shifted (8 * (l.behind + l.place)) (l.sum / 2 ^ (64 - 8 * l.place))
