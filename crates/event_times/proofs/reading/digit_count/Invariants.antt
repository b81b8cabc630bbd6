use Rattle.std.proofs.Common.{◌≡◌, ◌+◌, length, drop}
use Rattle.event_tree.specs.NumberTexts.{digits_front}
use Rattle.event_times.proofs.reading.digit_count.Given as goal

abbrev pub invariant-loop-at : goal.invariant-loop-at
invariant-loop-at l = l.at + length (digits_front (drop l.at l.text)) ≡ length (digits_front l.text)
