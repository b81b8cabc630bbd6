use Rattle.std.proofs.Common.{◌≡◌, ◌++◌, drop, map}
use Rattle.filters_mutate.specs.Operations.{item_cased}
use Rattle.filters_mutate.proofs.cases.items_cased.Given as goal

abbrev pub invariant-loop-item : goal.invariant-loop-item
invariant-loop-item l = l.all ++ map (item_cased l.case) (drop l.item-index l.items) ≡ map (item_cased l.case) l.items
