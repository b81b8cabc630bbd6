use Rattle.std.proofs.Common.{◌≡◌, ◌<◌, ◌≤◌, get_or, true}
use Rattle.settings_lines.specs.Lines.{trimmed, without_comment}
use Rattle.settings_lines.proofs.Bare.{joined, left_at}
use Rattle.settings_lines.proofs.lines.bare_len.Given as goal

abbrev pub invariant-loop-at : goal.invariant-loop-at
invariant-loop-at l =
    (l.len ≤ l.at) × (l.len < l.at → get_or l.bytes l.len 0 ≡ 32) × (l.behind_blank ≡ true → 0 < l.at → l.len < l.at)
    × (joined l.bytes l.len l.at (left_at l.bytes l.at l.behind_blank) ≡ trimmed (without_comment true l.bytes))
