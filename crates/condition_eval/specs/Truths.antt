-- What a condition says of an event.
use Rattle.std.specs.Prelude.{ℕ, Bool, if◌then◌else◌, List, [], ◌∷◌, map, is_some, option_and_then, chars}
use Rattle.std.specs.Ordering.{is_eq, is_ne, is_lt, is_gt, is_le, is_ge}
use Rattle.std.specs.declared.cmp.Ordering.{Ordering}
use Rattle.regex_hir.specs.Find.{find_str}
use Rattle.regex_syntax.specs.Grammar.{read}
use Rattle.regex_syntax.specs.Verdict.{default_config}
use Rattle.event_tree.specs.Events.{Ev}
use Rattle.event_tree.specs.declared.value.Value.{Value, out-Value}
use Rattle.event_tree.specs.declared.value.Value.TheOpen.{Value-F}
use Rattle.config_tree.specs.declared.operators.Conjunction.{Conjunction}
use Rattle.config_tree.specs.declared.operators.Conjunction.TheVariants as and
use Rattle.config_tree.specs.declared.operators.Disjunction.{Disjunction}
use Rattle.config_tree.specs.declared.operators.Disjunction.TheVariants as or
use Rattle.config_tree.specs.declared.operators.Comparison.{Comparison}
use Rattle.config_tree.specs.declared.operators.Comparison.TheVariants as is
use Rattle.config_tree.specs.declared.operators.Matching.{Matching}
use Rattle.config_tree.specs.declared.operators.Matching.TheVariants as m
use Rattle.config_tree.specs.declared.tree.MatchPattern.{MatchPattern}
use Rattle.config_tree.specs.declared.tree.Condition.{Condition}
use Rattle.config_tree.specs.declared.tree.Condition.TheOpen.{Condition-F}
use Rattle.config_tree.specs.declared.tree.Condition.TheFolds.{fold-Condition}
use Rattle.condition_eval.specs.Equality.{are_equal}
use Rattle.condition_eval.specs.Made.{pattern_text}
use Rattle.condition_eval.specs.Values.{operand_value, order_of, is_in}
use Rattle.condition_eval.specs.declared.truth.Kind.TheVariants as k
use Rattle.condition_eval.specs.declared.truth.Reason.TheVariants as r
use Rattle.condition_eval.specs.declared.truth.Truth.{Truth}
use Rattle.condition_eval.specs.declared.truth.Truth.TheVariants as t
use Rattle.condition_eval.specs.declared.compare.ValueOrder.{ValueOrder}
use Rattle.condition_eval.specs.declared.compare.ValueOrder.TheVariants as o

abbrev pub truth_of : Bool → Truth
truth_of holds = if holds then t.Yes else t.No

abbrev pub negated : Truth → Truth
negated t.Yes = t.No
negated t.No = t.Yes
negated (t.Wrong reason) = t.Wrong reason

-- `and`: the right side counts after Yes
abbrev pub conjoined : Truth → Truth → Truth
conjoined t.Yes right = right
conjoined t.No right = t.No
conjoined (t.Wrong reason) right = t.Wrong reason

-- `or`: the right side counts after No
abbrev pub disjoined : Truth → Truth → Truth
disjoined t.Yes right = t.Yes
disjoined t.No right = right
disjoined (t.Wrong reason) right = t.Wrong reason

-- `xor`: the right side counts after both
abbrev pub different : Truth → Truth → Truth
different t.Yes right = negated right
different t.No right = right
different (t.Wrong reason) right = t.Wrong reason

-- what two conditions say with `and` or `nand` between them
abbrev pub by_conjunction : Conjunction → Truth → Truth → Truth
by_conjunction and.And left right = conjoined left right
by_conjunction and.Nand left right = negated (conjoined left right)

-- what two conditions say with `or` or `xor` between them
abbrev pub by_disjunction : Disjunction → Truth → Truth → Truth
by_disjunction or.Or left right = disjoined left right
by_disjunction or.Xor left right = different left right

-- what a row of conditions says: from the left, each joint joins what stands in front of it and what stands behind it
abbrev pub in_row : {J : Type 0} → (J → Truth → Truth → Truth) → Truth → List (J × Truth) → Truth
in_row joined left [] = left
in_row joined left (p ∷ rest) = in_row joined (joined p.0 left p.1) rest

abbrev pub alone_in : Value-F Value → Truth
alone_in Value-F.Null = t.No
alone_in (Value-F.Bool b) = truth_of b
alone_in (Value-F.Num n) = t.Yes
alone_in (Value-F.Text s) = t.Yes
alone_in (Value-F.Time m) = t.Yes
alone_in (Value-F.List ys) = t.Yes
alone_in (Value-F.Object ms) = t.Yes

-- a value alone is Yes unless it is null or false
abbrev pub alone : Value → Truth
alone x = alone_in (out-Value x)

-- `==`
abbrev pub equal : Value → Value → Truth
equal x y = truth_of (are_equal x y)

-- the orders that a comparison accepts
abbrev pub accepts : Comparison → Ordering → Bool
accepts is.Equal = is_eq
accepts is.Unequal = is_ne
accepts is.Less = is_lt
accepts is.Greater = is_gt
accepts is.AtMost = is_le
accepts is.AtLeast = is_ge

-- what a comparison by order says, where values have one
abbrev pub ordered : (Ordering → Bool) → ValueOrder → Truth
ordered accepts o.Null = t.No
ordered accepts (o.Is order) = truth_of (accepts order)
ordered accepts (o.Wrong left right) = t.Wrong (r.Order left right)

abbrev pub by_order : Comparison → Value → Value → Truth
by_order j x y = ordered (accepts j) (order_of x y)

-- `==` and `!=` are of values of any kinds, and the others go by their order
abbrev pub compared : Comparison → Value → Value → Truth
compared is.Equal x y = equal x y
compared is.Unequal x y = negated (equal x y)
compared j x y = by_order j x y

-- `in`
abbrev pub within : Value → Value → Truth
within x y = truth_of (is_in x y)

-- whether the pattern that the grammar of `regex` reads is found in a text
unfoldable pub found_in : List ℕ → List ℕ → Bool
found_in pattern text = is_some (option_and_then (λ found. find_str found.0.value text 0) (read default_config (chars pattern)))

-- whether a written pattern is found in a text
abbrev pub is_found : MatchPattern → List ℕ → Bool
is_found p = found_in (pattern_text p)

abbrev pub matching_in : (List ℕ → Bool) → Value-F Value → Truth
matching_in found Value-F.Null = t.No
matching_in found (Value-F.Bool b) = t.Wrong (r.Match k.Boolean)
matching_in found (Value-F.Num n) = t.Wrong (r.Match k.Number)
matching_in found (Value-F.Text s) = truth_of (found s)
matching_in found (Value-F.Time m) = t.Wrong (r.Match k.Time)
matching_in found (Value-F.List ys) = t.Wrong (r.Match k.List)
matching_in found (Value-F.Object ms) = t.Wrong (r.Match k.Object)

-- `=~`, by the test whether the pattern is found in a text
abbrev pub matching : (List ℕ → Bool) → Value → Truth
matching found x = matching_in found (out-Value x)

-- `=~`, and its negation `!~`
abbrev pub by_matching : Matching → Truth → Truth
by_matching m.Matches found = found
by_matching m.MatchesNot found = negated found

abbrev pub matched : Matching → (List ℕ → Bool) → Value → Truth
matched j found x = by_matching j (matching found x)

abbrev pub truth_step : Ev → Condition-F Truth → Truth
truth_step e (Condition-F.Operand x) = alone (operand_value e x)
truth_step e (Condition-F.Not part) = negated part
truth_step e (Condition-F.Conjoined first rest) = in_row by_conjunction first rest
truth_step e (Condition-F.Disjoined first rest) = in_row by_disjunction first rest
truth_step e (Condition-F.Compared j x y) = compared j (operand_value e x) (operand_value e y)
truth_step e (Condition-F.Matched j x p) = matched j (found_in (pattern_text p)) (operand_value e x)
truth_step e (Condition-F.In x y) = within (operand_value e x) (operand_value e y)
truth_step e (Condition-F.NotIn x y) = negated (within (operand_value e x) (operand_value e y))

-- what a condition says of an event
unfoldable pub truth : Condition → Ev → Truth
truth condition e = fold-Condition Truth (truth_step e) condition

-- what the conditions of a row say, each behind its joint
abbrev pub truths : {J : Type 0} → Ev → List (J × Condition) → List (J × Truth)
truths e rest = map (λ p. (p.0, truth p.1 e)) rest

-- what a row says of an event whose first condition says this
abbrev pub conjoined_row : Truth → Ev → List (Conjunction × Condition) → Truth
conjoined_row first e rest = in_row by_conjunction first (truths e rest)

abbrev pub disjoined_row : Truth → Ev → List (Disjunction × Condition) → Truth
disjoined_row first e rest = in_row by_disjunction first (truths e rest)
