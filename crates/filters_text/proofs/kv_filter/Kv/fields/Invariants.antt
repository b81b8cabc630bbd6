use Rattle.std.proofs.Common.{◌≡◌, ◌++◌, map, drop}
use Rattle.filters_text.specs.Kv.{fields_of}
use Rattle.filters_text.specs.Views.{both_chars}
use Rattle.filters_text.proofs.kv_filter.Kv.fields.Given as goal

abbrev pub invariant-loop-pair : goal.invariant-loop-pair
invariant-loop-pair l = l.fields.items ++ fields_of l.self (map both_chars (drop l.pair-index l.pairs)) ≡ fields_of l.self (map both_chars l.pairs)
