-- The stocks of shelves, and what the boxes on them refuse.
use Rattle.std.specs.Prelude.{ℕ, List, map}
use Rattle.foreign_parts.specs.Stocks.{Stock}
use Rattle.foreign_parts.specs.declared.named_boxes.NamedBoxes.{NamedBoxes}

module _ {T : Type 0} (number : T → ℕ) where
  abbrev pub stock_of : NamedBoxes T → Stock
  stock_of s = record { name = s.name; left = map number s.left.items; out = s.out }

  abbrev pub stocks : List (NamedBoxes T) → List Stock
  stocks ss = map stock_of ss

module _ {T R : Type 0} (refusal : T → R) where
  -- what the boxes of a shelf refuse, each by its place, behind their name
  abbrev pub refusals_on : NamedBoxes T → List ℕ × List R
  refusals_on s = (s.name, map refusal s.left.items)

  abbrev pub refusals : List (NamedBoxes T) → List (List ℕ × List R)
  refusals ss = map refusals_on ss
