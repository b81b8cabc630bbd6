use Rattle.std.proofs.Common.{◌≡◌, ◌≤◌, ◌++◌, ℕ, map, length, true}
use denote.Text.{Utf8}
use denote.Shadow.{shadow}
use Rattle.std.specs.Str.{chars}
use Rattle.filters_text.specs.Pairs.{behind, next_pairs, pairs_in, are_missing}
use Rattle.filters_text.specs.Views.{both_chars}
use Rattle.filters_text.proofs.kv_text.Splits.pairs.Given as goal

-- what was found, and the pairs of what is left; it begins with no character that splits fields
abbrev pub invariant-loop-rest : goal.invariant-loop-rest
invariant-loop-rest l =
    shadow (Utf8 l.rest)
    × (are_missing l.unclosed.items (chars l.rest) ≡ true)
    × (behind l.self.fields (chars l.rest) ≡ chars l.rest)
    × ((n : ℕ) × (length (chars l.rest) ≤ n) × (map both_chars l.found.items ++ next_pairs l.self n (chars l.rest) ≡ pairs_in l.self (chars l.fn.text)))

abbrev pub decreases-loop-rest : goal.decreases-loop-rest
decreases-loop-rest l = length (chars l.rest)
