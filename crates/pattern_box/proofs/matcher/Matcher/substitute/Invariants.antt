use Rattle.std.proofs.Common.{◌≡◌, ◌+◌, ◌-◌, ◌≤◌, ◌++◌, length, string_bytes, IsCharBoundary}
use Rattle.pattern_box.specs.Matchers.{shown}
use Rattle.pattern_box.specs.Patterns.{pattern_re, IsSamePattern}
use Rattle.pattern_box.specs.Replacements.{parts_bytes}
use Rattle.pattern_box.proofs.Replaced.{replaced_from}
use Rattle.pattern_box.proofs.matcher.Matcher.substitute.Given as goal

abbrev pub invariant-matches : goal.invariant-matches
invariant-matches l =
    let from = replaced_from (pattern_re (shown l.fn.self)) l.text (parts_bytes l.text l.parts) in
    (l.last ≡ l.after - 1) × (l.last ≤ length l.text) × (string_bytes l.replaced ++ from l.last l.after ≡ from 0 0)
    × IsCharBoundary l.text l.last
    × IsSamePattern (shown l.fn.self) (shown l.self)

abbrev pub decreases-matches : goal.decreases-matches
decreases-matches l = length l.text + 1 - l.after
