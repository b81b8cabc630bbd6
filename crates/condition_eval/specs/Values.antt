-- What operands are in an event, and how values are compared.
use Rattle.std.specs.Prelude.{ℕ, max, ◌-◌, ◌^◌, ℤ, pos, ◌*ℤ◌, Bool, true, false, ◌||◌, ◌&&◌, ◌==◌, List, [], ◌∷◌, map, unwrap_or}
use Rattle.std.specs.List.{list_any}
use Rattle.std.specs.Ordering.{int_cmp}
use Rattle.std.specs.declared.cmp.Ordering.{Ordering}
use Rattle.plain_data.specs.Keys.{text_cmp}
use Rattle.event_tree.specs.Number.{Num}
use Rattle.event_tree.specs.Events.{Ev, event_at}
use Rattle.event_tree.specs.declared.value.Value.{Value, out-Value}
use Rattle.event_tree.specs.declared.value.Value.TheOpen.{Value-F}
use Rattle.event_tree.specs.declared.value.Value.TheVariants as v
use Rattle.config_tree.specs.declared.tree.Literal.{Literal}
use Rattle.config_tree.specs.declared.tree.Literal.TheVariants as l
use Rattle.config_tree.specs.declared.tree.Operand.{Operand}
use Rattle.config_tree.specs.declared.tree.Operand.TheVariants as operand
use Rattle.condition_eval.specs.Equality.{are_equal}
use Rattle.condition_eval.specs.declared.truth.Kind.{Kind}
use Rattle.condition_eval.specs.declared.truth.Kind.TheVariants as k
use Rattle.condition_eval.specs.declared.compare.ValueOrder.{ValueOrder}
use Rattle.condition_eval.specs.declared.compare.ValueOrder.TheVariants as o

abbrev pub literal_value : Literal → Value
literal_value (l.Text s) = v.Text s
literal_value (l.Number n) = v.Num n

-- what an operand is in an event: null where the field is missing
abbrev pub operand_value : Ev → Operand → Value
operand_value e (operand.Field way) = unwrap_or (event_at way e) v.Null
operand_value e (operand.Text s) = v.Text s
operand_value e (operand.Number n) = v.Num n
operand_value e (operand.List ls) = v.List (map literal_value ls)

-- an operator between what two operands are
abbrev pub between : {A : Type 0} → (Value → Value → A) → Ev → Operand → Operand → A
between f e x y = f (operand_value e x) (operand_value e y)

abbrev pub kind_in : Value-F Value → Kind
kind_in Value-F.Null = k.Null
kind_in (Value-F.Bool b) = k.Boolean
kind_in (Value-F.Num n) = k.Number
kind_in (Value-F.Text s) = k.Text
kind_in (Value-F.Time t) = k.Time
kind_in (Value-F.List ys) = k.List
kind_in (Value-F.Object ms) = k.Object

abbrev pub kind_of : Value → Kind
kind_of x = kind_in (out-Value x)

-- the mantissa with so many places, of which the number has no more
abbrev pub raised : ℕ → Num → ℤ
raised places n = n.mantissa *ℤ pos (10 ^ (places - n.scale))

-- the order of two numbers: that of their mantissas with equally many places
unfoldable pub number_order : Num → Num → Ordering
number_order m n = let places = max m.scale n.scale in int_cmp (raised places m) (raised places n)

-- what has no order with a value of this kind, unless it is null
abbrev pub unordered : Kind → Value-F Value → ValueOrder
unordered kind Value-F.Null = o.Null
unordered kind (Value-F.Bool b) = o.Wrong kind k.Boolean
unordered kind (Value-F.Num n) = o.Wrong kind k.Number
unordered kind (Value-F.Text s) = o.Wrong kind k.Text
unordered kind (Value-F.Time t) = o.Wrong kind k.Time
unordered kind (Value-F.List ys) = o.Wrong kind k.List
unordered kind (Value-F.Object ms) = o.Wrong kind k.Object

abbrev pub after_number : Num → Value-F Value → ValueOrder
after_number m (Value-F.Num n) = o.Is (number_order m n)
after_number m y = unordered k.Number y

abbrev pub after_text : List ℕ → Value-F Value → ValueOrder
after_text s (Value-F.Text t) = o.Is (text_cmp s t)
after_text s y = unordered k.Text y

abbrev pub after_time : ℤ → Value-F Value → ValueOrder
after_time s (Value-F.Time t) = o.Is (int_cmp s t)
after_time s y = unordered k.Time y

abbrev pub order_in : Value-F Value → Value-F Value → ValueOrder
order_in Value-F.Null y = o.Null
order_in (Value-F.Bool b) y = unordered k.Boolean y
order_in (Value-F.Num n) y = after_number n y
order_in (Value-F.Text s) y = after_text s y
order_in (Value-F.Time t) y = after_time t y
order_in (Value-F.List xs) y = unordered k.List y
order_in (Value-F.Object ms) y = unordered k.Object y

-- how two values stand to one another: numbers, texts by their bytes and times have an order with their kind, null has none, and any other pair is wrong
abbrev pub order_of : Value → Value → ValueOrder
order_of x y = order_in (out-Value x) (out-Value y)

-- whether an item equals the value
abbrev pub is_among : Value → List Value → Bool
is_among x ys = list_any (are_equal x) ys

-- whether the text begins with the part
abbrev pub is_prefix : List ℕ → List ℕ → Bool
is_prefix [] text = true
is_prefix (p ∷ part) [] = false
is_prefix (p ∷ part) (b ∷ text) = p == b && is_prefix part text

-- whether the text holds the part
unfoldable pub holds : List ℕ → List ℕ → Bool
holds part [] = is_prefix part []
holds part (b ∷ text) = is_prefix part (b ∷ text) || holds part text

abbrev pub part_in : List ℕ → Value-F Value → Bool
part_in text Value-F.Null = false
part_in text (Value-F.Bool b) = false
part_in text (Value-F.Num n) = false
part_in text (Value-F.Text part) = holds part text
part_in text (Value-F.Time t) = false
part_in text (Value-F.List ys) = false
part_in text (Value-F.Object ms) = false

abbrev pub holds_in : Value → Value-F Value → Bool
holds_in x Value-F.Null = false
holds_in x (Value-F.Bool b) = false
holds_in x (Value-F.Num n) = false
holds_in x (Value-F.Text text) = part_in text (out-Value x)
holds_in x (Value-F.Time t) = false
holds_in x (Value-F.List ys) = is_among x ys
holds_in x (Value-F.Object ms) = false

-- whether the list on the right has an item equal to the left side, or the text on the right holds the left side
abbrev pub is_in : Value → Value → Bool
is_in x y = holds_in x (out-Value y)
