-- The keys and scalars that the code holds, as texts.
use Rattle.std.specs.Prelude.{ℕ, List, map, Option, option_map}
use Rattle.std.specs.Borrow.{Bor}
use Rattle.settings_lines.specs.declared.lines.Pair.{Pair}
use Rattle.settings_lines.specs.declared.values.Values.{Values}

abbrev pub pair_view : Pair → List ℕ × List ℕ
pair_view p = (p.key.now, p.scalar.now)

abbrev pub line_view : Option Pair → Option (List ℕ × List ℕ)
line_view = option_map pair_view

abbrev pub text_in : Option (Bor (List ℕ)) → Option (List ℕ)
text_in = option_map (λ s. s.now)

abbrev pub values_view : Values → List (List ℕ × List ℕ)
values_view v = map pair_view v.pairs.items
