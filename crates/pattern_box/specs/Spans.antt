-- The spans of a match and its groups.
use Rattle.std.specs.Prelude.{ℕ, ◌-◌, true, List, ◌∷◌, map, length, Option, Some, All, IfSome}
use Rattle.std.specs.List.{range_with_len}
use Rattle.regex_hir.specs.Find.{Match}
use Rattle.regex_vm.specs.Found.{span}
use Rattle.regex.specs.Search.{LiesWithin, group_span}
use Rattle.regex.specs.Utf8.{CutsCleanly}
use Rattle.regex.specs.Writes.{group_of}

-- the span of the match, and then of each group, of a pattern with so many groups, the whole match included
abbrev pub spans_of : ℕ → Match → List (Option (ℕ × ℕ))
spans_of groups m = Some (span m) ∷ map (group_of m) (range_with_len 1 (groups - 1))

-- the same, from the span of the match and the cells of its groups
abbrev pub spans_from_cells : ℕ → List ℕ → ℕ × ℕ → List ℕ → List (Option (ℕ × ℕ))
spans_from_cells groups text whole cells = map (group_span true text whole cells) (range_with_len 0 groups)

-- each span that there is lies in the text, and its ends fall between characters
abbrev pub AreSpansIn : List ℕ → List (Option (ℕ × ℕ)) → Type 0
AreSpansIn text = All (λ span. IfSome span (λ s. LiesWithin 0 (length text) s × CutsCleanly text s))
