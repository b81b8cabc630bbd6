use Rattle.std.proofs.Common.{◌≡◌, ◌-◌, ◌≤◌, drop, length}
use Rattle.event_text.proofs.Going.{with_front}
use Rattle.filters_mutate.specs.Gsub.{substitutions}
use Rattle.filters_mutate.proofs.gsub.read_substitutions.Given as goal

abbrev pub invariant-loop-at : goal.invariant-loop-at
invariant-loop-at l = (l.at ≤ length l.texts) × (with_front l.found (substitutions (drop l.at l.texts)) ≡ substitutions l.texts)

abbrev pub decreases-loop-at : goal.decreases-loop-at
decreases-loop-at l = length l.texts - l.at
