use Rattle.std.proofs.Common.{◌≡◌, ◌++◌, ◌∷◌, [], length, flat_map}
use Rattle.event_json.specs.Json.{escaped, quoted}
use Rattle.event_tree.specs.Adds.{Keeps}
use Rattle.event_json.proofs.json.add_quoted.Given as goal

abbrev pub invariant-loop-to : goal.invariant-loop-to
invariant-loop-to l = record {
  rest : l.to.items ++ (flat_map escaped l.rest ++ 34 ∷ []) ≡ l.fn.to.items ++ quoted l.fn.text;
  keeps : Keeps l.fn.to.items l.to.items;
}

abbrev pub decreases-loop-to : goal.decreases-loop-to
decreases-loop-to l = length l.rest
