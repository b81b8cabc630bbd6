use Rattle.std.proofs.Common.{◌≡◌}
use Rattle.filters_grok.proofs.Finding.{FoundSoFar}
use Rattle.filters_grok.proofs.searching.search_text.Given as goal

abbrev pub invariant-loop-number : goal.invariant-loop-number
invariant-loop-number l = (FoundSoFar l.how l.fn.patterns l.text l.number l.finds l.fn.finds) × (l.patterns ≡ l.fn.patterns)
