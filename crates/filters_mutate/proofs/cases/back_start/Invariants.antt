use Rattle.std.proofs.Common.{◌≡◌, ◌-◌, ◌<◌, ◌≤◌, length, drop, true}
use Rattle.std.specs.Prelude.{slice_index, slice_range}
use Rattle.filters_mutate.specs.Texts.{without_end, is_space}
use Rattle.filters_mutate.proofs.cases.back_start.Given as goal

abbrev pub invariant-loop-end : goal.invariant-loop-end
invariant-loop-end l =
    (l.start ≤ l.end) × (l.end ≤ length l.bytes) × (without_end (slice_range l.bytes l.start l.end) ≡ without_end (drop l.start l.bytes))
    × (l.end < length l.bytes → is_space (slice_index l.bytes l.end) ≡ true)

abbrev pub decreases-loop-end : goal.decreases-loop-end
decreases-loop-end l = l.end
