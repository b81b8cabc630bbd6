use Rattle.std.proofs.Common.{◌≡◌, ◌-◌, ◌≤◌, length}
use Rattle.regex_hir.specs.Find.{find_str}
use Rattle.pattern_box.specs.Matchers.{shown}
use Rattle.pattern_box.specs.Patterns.{pattern_re, IsSamePattern}
use Rattle.pattern_box.proofs.matcher.Matcher.find_in.Given as goal

abbrev pub invariant-loop-from : goal.invariant-loop-from
invariant-loop-from l =
    (l.at ≤ length l.hay) × (l.fn.start ≤ l.at)
    × (find_str (pattern_re (shown l.fn.self)) l.hay l.fn.start ≡ find_str (pattern_re (shown l.fn.self)) l.hay l.at)
    × IsSamePattern (shown l.fn.self) (shown l.self)

abbrev pub decreases-loop-from : goal.decreases-loop-from
decreases-loop-from l = length l.hay - l.at
