-- What the laws say of conditions and of truths.
use Rattle.std.specs.Prelude.{◌≡◌, ◌⊎◌, ◌↔◌, ⊤}
use Rattle.event_tree.specs.Events.{Ev}
use Rattle.event_tree.specs.Number.{Num, IsLeast}
use Rattle.event_tree.specs.declared.value.Value.{Value}
use Rattle.config_tree.specs.Joints as row
use Rattle.config_tree.specs.declared.operators.Comparison.TheVariants as is
use Rattle.config_tree.specs.declared.operators.Conjunction.TheVariants as and
use Rattle.config_tree.specs.declared.operators.Matching.TheVariants as m
use Rattle.config_tree.specs.declared.tree.MatchPattern.{MatchPattern}
use Rattle.config_tree.specs.declared.tree.Operand.{Operand}
use Rattle.config_tree.specs.declared.tree.Condition.{Condition}
use Rattle.config_tree.specs.declared.tree.Condition.TheVariants as c
use Rattle.condition_eval.specs.Truths.{negated, conjoined, disjoined, compared, truth}
use Rattle.condition_eval.specs.declared.truth.Reason.{Reason}
use Rattle.condition_eval.specs.declared.truth.Truth.{Truth}
use Rattle.condition_eval.specs.declared.truth.Truth.TheVariants as t

-- the one condition says the negation of the other
abbrev pub Denies : Condition → Condition → Type 0
Denies denial affirmed = (e : Ev) → truth denial e ≡ negated (truth affirmed e)

-- two conditions say the same of each event
abbrev pub SaysAs : Condition → Condition → Type 0
SaysAs x y = (e : Ev) → truth x e ≡ truth y e

-- `!=` says the negation of `==`
abbrev pub DeniesEqual : Operand → Operand → Type 0
DeniesEqual x y = Denies (c.Compared is.Unequal x y) (c.Compared is.Equal x y)

-- `nand` says the negation of `and`
abbrev pub DeniesAnd : Condition → Condition → Type 0
DeniesAnd x y = Denies (row.conjoined and.Nand x y) (row.conjoined and.And x y)

-- `!~` says the negation of `=~`
abbrev pub DeniesMatch : Operand → MatchPattern → Type 0
DeniesMatch x p = Denies (c.Matched m.MatchesNot x p) (c.Matched m.Matches x p)

-- what the two make joined is what is said of both
abbrev pub Joins : (Condition → Condition → Condition) → (Truth → Truth → Truth) → Type 0
Joins made said = (x y : Condition) (e : Ev) → truth (made x y) e ≡ said (truth x e) (truth y e)

-- what is wrong on the left is the result
abbrev pub MeetsWrong : (Truth → Truth → Truth) → Type 0
MeetsWrong joined = (r : Reason) (y : Truth) → joined (t.Wrong r) y ≡ t.Wrong r

-- Yes or No
abbrev pub IsRight : Truth → Type 0
IsRight t.Yes = ⊤
IsRight t.No = ⊤
IsRight (t.Wrong r) = ⊥

-- the one is Yes and the other No
abbrev pub AreYesAndNo : Truth → Truth → Type 0
AreYesAndNo x y = ((x ≡ t.Yes) × (y ≡ t.No)) ⊎ ((x ≡ t.No) × (y ≡ t.Yes))

abbrev pub IsDeMorgan : Truth → Truth → Type 0
IsDeMorgan x y = negated (conjoined x y) ≡ disjoined (negated x) (negated y)

-- `<=` and `>=` both say Yes exactly where `==` does
abbrev pub AgreesWithEquality : Value → Value → Type 0
AgreesWithEquality x y = ((compared is.AtMost x y ≡ t.Yes) × (compared is.AtLeast x y ≡ t.Yes)) ↔ (compared is.Equal x y ≡ t.Yes)

-- two numbers in least form, as each number of an event and of a condition is
abbrev pub AreLeast : Num → Num → Type 0
AreLeast m n = IsLeast m.mantissa m.scale × IsLeast n.mantissa n.scale
