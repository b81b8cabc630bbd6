use Rattle.std.proofs.Common.{◌≡◌, ℕ, ◌<◌, ◌≤◌, get_or}
use Rattle.event_text.specs.DateFormats.{kind}
use Rattle.event_text.proofs.date_format.run_end.Given as goal

abbrev pub invariant-loop-at : goal.invariant-loop-at
invariant-loop-at l = (k : ℕ) → l.from ≤ k → k < l.at → kind (get_or l.bytes k 0) ≡ kind (get_or l.bytes l.from 0)
