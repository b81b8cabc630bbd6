use Rattle.std.proofs.Common.{◌≡◌, drop}
use Rattle.filters_grok.specs.Searching.{both, values_finds}
use Rattle.filters_grok.proofs.searching.search_values.Given as goal

abbrev pub invariant-loop-value : goal.invariant-loop-value
invariant-loop-value l =
    (both l.how l.finds (values_finds l.how l.fn.patterns (drop l.value-index l.values)) ≡ both l.how l.fn.finds (values_finds l.how l.fn.patterns l.values)) × (l.patterns ≡ l.fn.patterns)
