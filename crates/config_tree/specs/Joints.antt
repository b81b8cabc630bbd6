-- Two conditions with a joint between them. A row of joints of one rank is one list, in the order of the text.
use Rattle.std.specs.Prelude.{List, [], ◌∷◌, ◌++◌}
use Rattle.config_tree.specs.declared.operators.Conjunction.{Conjunction}
use Rattle.config_tree.specs.declared.operators.Disjunction.{Disjunction}
use Rattle.config_tree.specs.declared.tree.Condition.{Condition, out-Condition}
use Rattle.config_tree.specs.declared.tree.Condition.TheOpen.{Condition-F}
use Rattle.config_tree.specs.declared.tree.Condition.TheVariants as c

-- a condition as the first of a row and what follows it: alone, where it is no row
abbrev pub conjuncts : Condition → Condition-F Condition → Condition × List (Conjunction × Condition)
conjuncts x (Condition-F.Conjoined first rest) = (first, rest)
conjuncts x _ = (x, [])

abbrev pub disjuncts : Condition → Condition-F Condition → Condition × List (Disjunction × Condition)
disjuncts x (Condition-F.Disjoined first rest) = (first, rest)
disjuncts x _ = (x, [])

-- with `and` or `nand` between them: the row of the left one goes on
abbrev pub conjoined : Conjunction → Condition → Condition → Condition
conjoined j x y = let row = conjuncts x (out-Condition x) in c.Conjoined row.0 (row.1 ++ (j, y) ∷ [])

-- with `or` or `xor` between them
abbrev pub disjoined : Disjunction → Condition → Condition → Condition
disjoined j x y = let row = disjuncts x (out-Condition x) in c.Disjoined row.0 (row.1 ++ (j, y) ∷ [])
