-- One byte more, for the invariant of a loop that says what the rest of the bytes still tells.
use Rattle.std.proofs.Common.{◌≡◌, ℕ, ◌+◌, ◌<◌, ◌≤◌, List, length, drop, get_or, sym, ap, ◌∙◌}
use Rattle.event_text.proofs.Going.{front, behind_end}
use Rattle.grok_patterns.specs.Scans.{step, over}
use Rattle.grok_patterns.specs.declared.scan.Scan.{Scan}

module _ (s : List ℕ) (i : ℕ) where
  pub over_more : (b : ℕ) (c c' c0 : Scan) → i < length s → b ≡ get_or s i b → over (drop i s) c ≡ over s c0 → c' ≡ step b c → over (drop (i + 1) s) c' ≡ over s c0
  over_more b c c' c0 below is so_far here = ap (over (drop (i + 1) s)) here ∙ ap (λ ys. over ys c) (sym (front s i b below is)) ∙ so_far

  pub over_end : (c c0 : Scan) → length s ≤ i → over (drop i s) c ≡ over s c0 → c ≡ over s c0
  over_end c c0 end so_far = ap (λ ys. over ys c) (sym (behind_end s i end)) ∙ so_far

pub ruleset scanning = (over_more, over_end)
