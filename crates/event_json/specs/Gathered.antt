-- Members that are put one after the other.
use Rattle.std.specs.Prelude.{ℕ, List, [], ◌∷◌}
use Rattle.event_tree.specs.Values.{Members}
use Rattle.event_tree.specs.declared.value.Value.{Value}
use Rattle.plain_data.specs.Members.{insert_member}

-- with these pairs put into the members, from the first on: of two equal keys the last one's value stands
abbrev pub put_all : Members → List (List ℕ × Value) → Members
put_all found [] = found
put_all found (p ∷ ps) = put_all (insert_member p.0 p.1 found) ps
