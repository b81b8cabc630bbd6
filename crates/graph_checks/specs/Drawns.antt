-- Boxes that were drawn, by their names and their numbers.
use Rattle.std.specs.Prelude.{ℕ, List, map}
use Rattle.graph_checks.specs.Drawings.{Numbered}
use Rattle.graph_checks.specs.declared.drawn.Drawn.{Drawn}
use Rattle.graph_checks.specs.declared.drawn.DrawnBoxes.{DrawnBoxes}

abbrev pub boxes_of : {P : Type 0} → (P → ℕ) → List (Drawn P) → Numbered
boxes_of number ds = map (λ d. (d.want.name, number d.plugged)) ds

abbrev pub filter_boxes : {F O : Type 0} → (F → ℕ) → DrawnBoxes F O → Numbered
filter_boxes number d = boxes_of number d.filters.items

abbrev pub output_boxes : {F O : Type 0} → (O → ℕ) → DrawnBoxes F O → Numbered
output_boxes number d = boxes_of number d.outputs.items
