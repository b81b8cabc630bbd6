use Rattle.std.proofs.Common.{◌≡◌, ◌-◌, ◌<◌, ◌≤◌, length, drop, true}
use Rattle.std.specs.Prelude.{slice_index}
use Rattle.filters_mutate.specs.Texts.{without_front, is_space}
use Rattle.filters_mutate.proofs.cases.front_end.Given as goal

abbrev pub invariant-loop-start : goal.invariant-loop-start
invariant-loop-start l =
    (l.start ≤ length l.bytes) × (without_front (drop l.start l.bytes) ≡ without_front l.bytes) × (0 < l.start → is_space (slice_index l.bytes (l.start - 1)) ≡ true)

abbrev pub decreases-loop-start : goal.decreases-loop-start
decreases-loop-start l = length l.bytes - l.start
