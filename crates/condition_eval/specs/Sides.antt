-- The values that stand on the sides of comparisons.
use Rattle.std.specs.Prelude.{◌≡◌, ℕ, Bool, List, map, slice_get, Some}
use Rattle.event_tree.specs.declared.value.Value.{Value}
use Rattle.event_tree.specs.declared.value.Value.TheVariants as v
use Rattle.condition_eval.specs.Values as values
use Rattle.condition_eval.specs.Values.{literal_value}
use Rattle.condition_eval.specs.declared.side.Element.{Element}
use Rattle.condition_eval.specs.declared.side.Element.TheVariants as element
use Rattle.condition_eval.specs.declared.side.Elements.{Elements}
use Rattle.condition_eval.specs.declared.side.Elements.TheVariants as elements
use Rattle.condition_eval.specs.declared.side.Side.{Side}
use Rattle.condition_eval.specs.declared.side.Side.TheVariants as side

abbrev pub element_value : Element → Value
element_value (element.Value x) = x.now
element_value (element.Literal l) = literal_value l.now

abbrev pub values_of : Elements → List Value
values_of (elements.Values xs) = xs.now
values_of (elements.Literals ls) = map literal_value ls.now

abbrev pub value_of : Side → Value
value_of side.Null = v.Null
value_of (side.Bool b) = v.Bool b
value_of (side.Number n) = v.Num n.now
value_of (side.Text s) = v.Text s.now
value_of (side.Time t) = v.Time t.now
value_of (side.List xs) = v.List (values_of xs)
value_of (side.Object ms) = v.Object ms.now

-- the element stands at this place
abbrev pub IsElement : Elements → ℕ → Element → Type 0
IsElement xs i x = slice_get (values_of xs) i ≡ Some (element_value x)

abbrev pub AreSameElements : Element → Element → Type 0
AreSameElements x y = element_value x ≡ element_value y

-- whether an element equals the side
abbrev pub is_among : Side → Elements → Bool
is_among x ys = values.is_among (value_of x) (values_of ys)
