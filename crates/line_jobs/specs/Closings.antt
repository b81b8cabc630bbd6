-- Boxes that are closed: of a kit, and of several.
use Rattle.std.specs.Prelude.{ℕ, zero, suc, List, [], ◌∷◌, map, Option}
use Rattle.std.specs.Option.{option_map}
use Rattle.io_traits.specs.Counts.{one_more}
use Rattle.plugin_graph.specs.Graphs.{boxes_in}
use Rattle.plugin_graph.specs.declared.kit.Kit.{Kit}

-- what is told of the box at each place, where one stands
abbrev pub told : {X : Type 0} → (X → ℕ) → List (Option X) → List (Option ℕ)
told tell boxes = map (option_map tell) boxes

-- counts, each one more
abbrev pub each_once_more : List (Option ℕ) → List (Option ℕ)
each_once_more counts = map (option_map one_more) counts

-- counts, each one more but the first few
abbrev pub once_more_from : ℕ → List (Option ℕ) → List (Option ℕ)
once_more_from zero counts = each_once_more counts
once_more_from (suc n) [] = []
once_more_from (suc n) (c ∷ counts) = c ∷ once_more_from n counts

-- what is told of each box of kits
abbrev pub told_in : {X : Type 0} → (X → ℕ) → List (Kit X) → List (List (Option ℕ))
told_in tell kits = map (λ kit. told tell (boxes_in kit)) kits

-- counts of kits, each once more
abbrev pub all_once_more : List (List (Option ℕ)) → List (List (Option ℕ))
all_once_more counts = map each_once_more counts
