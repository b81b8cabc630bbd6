-- The numbers of the boxes that are drawn next.
use Rattle.std.specs.Prelude.{ℕ, ◌-◌, List, [], ◌∷◌, length, slice_get}
use Rattle.event_tree.specs.Paths.{over}
use Rattle.event_flow.specs.Places.{Draws}
use Rattle.foreign_parts.specs.Stocks.{Stock, left_of}
use Rattle.graph_checks.specs.Boxes.{Counts, count_of, one_more}
use Rattle.graph_checks.specs.declared.want.Want.{Want}

-- the number of the box that is drawn once so many were, of which the last is drawn first
abbrev pub number_behind : ℕ → List ℕ → ℕ
number_behind before ns = over (λ n. n) 0 (slice_get ns (length ns - 1 - before))

-- the numbers that are drawn for the ids of outputs, behind so many boxes of each name
abbrev pub draws_behind : Counts → List Want → List Stock → Draws
draws_behind cs [] ss = []
draws_behind cs (w ∷ ws) ss = (w.id, number_behind (count_of w.name cs) (left_of w.name ss)) ∷ draws_behind (one_more w.name cs) ws ss
