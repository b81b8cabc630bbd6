-- The equations of printed conditions, values and statements, one for each variant.
use Rattle.std.proofs.Common.{◌≡◌, ℕ, List, [], ◌∷◌, ◌++◌, map, false, sym, ap, ◌∙◌}
use Rattle.std.proofs.lemmas.Simd.{map-map}
use Rattle.std.proofs.lemmas.List.Folds.{flat_map-map}
use Rattle.event_tree.specs.Number.{Num}
use Rattle.config_lex.specs.declared.token.Token.TheVariants as t
use Rattle.config_lex.specs.declared.token.Word.TheVariants as w
use Rattle.config_lex.specs.Lexemes.{word_of}
use Rattle.config_tree.specs.declared.operators.Conjunction.{Conjunction}
use Rattle.config_tree.specs.declared.operators.Disjunction.{Disjunction}
use Rattle.config_tree.specs.declared.operators.Comparison.{Comparison}
use Rattle.config_tree.specs.declared.operators.Matching.{Matching}
use Rattle.config_tree.specs.declared.tree.Condition.{Condition}
use Rattle.config_tree.specs.declared.tree.Condition.TheVariants as c
use Rattle.config_tree.specs.declared.tree.Operand.{Operand}
use Rattle.config_tree.specs.declared.tree.MatchPattern.{MatchPattern}
use Rattle.config_tree.specs.declared.tree.SettingValue.{SettingValue}
use Rattle.config_tree.specs.declared.tree.SettingValue.TheOpen.{SettingValue-F}
use Rattle.config_tree.specs.declared.tree.SettingValue.TheFolds.{fold-SettingValue, fold-roll-SettingValue, fold_out-Plugin, fold_out-Settings}
use Rattle.config_tree.specs.declared.tree.SettingValue.TheVariants as v
use Rattle.config_tree.specs.declared.tree.Plugin.{Plugin}
use Rattle.config_tree.specs.declared.tree.Statement.TheOpen.{Statement-F}
use Rattle.config_tree.specs.declared.tree.Statement.TheFolds.{fold-Statement, fold-roll-Statement, fold_out-Arm}
use Rattle.config_tree.specs.declared.tree.Statement.TheVariants as s
use Rattle.config_tree.specs.declared.tree.Arm.{Arm}
use Rattle.config_tree.specs.Joining.{Entries}
use Rattle.config_tree.proofs.Folds.{fold-Operand, fold-Not, fold-Conjoined, fold-Disjoined, fold-Compared, fold-Matched, fold-In, fold-NotIn}
use Rattle.config_print.specs.declared.conditions.ConditionContext.{ConditionContext}
use Rattle.config_print.specs.declared.conditions.ConditionContext.TheVariants as at
use Rattle.config_print.specs.declared.values.Indent.{Indent}
use Rattle.config_print.specs.Tokens.{number_token}
use Rattle.config_print.specs.Layout.{spaced}
use Rattle.config_print.specs.Conditions.{condition, condition_step, joined, grouped, parts_and, parts_or, row, compared, operand, pattern, listed}
use Rattle.config_print.specs.Printed.{Laid, Gapped, one_line, deeper, braced, block, pair, setting, pairs, members_in_line, settings, value, value_step, nested_step, settings_step, plugin, test, arm, arm_step, branch, statement, statement_step}
use Rattle.config_print.proofs.Layouts.{text_both}

pub condition-Operand : (x : Operand) (place : ConditionContext) → condition (c.Operand x) place ≡ operand x
unfolding condition
condition-Operand x place = ap (λ f. f place) (fold-Operand condition_step x)

pub condition-Not : (x : Condition) (place : ConditionContext) → condition (c.Not x) place ≡ spaced t.Exclamation ∷ condition x at.Unary
unfolding condition
condition-Not x place = ap (λ f. f place) (fold-Not condition_step x)

pub condition-Conjoined : (x : Condition) (rest : List (Conjunction × Condition)) (place : ConditionContext) → condition (c.Conjoined x rest) place ≡ grouped (parts_and place) (condition x at.Joined ++ row w.Conjunction at.Unary rest)
unfolding condition
condition-Conjoined x rest place = ap (λ f. f place) (fold-Conjoined condition_step x rest) ∙ ap (λ r. grouped (parts_and place) (condition x at.Joined ++ r)) (flat_map-map (joined w.Conjunction at.Unary) (λ e. (e.0, condition e.1)) rest)

pub condition-Disjoined : (x : Condition) (rest : List (Disjunction × Condition)) (place : ConditionContext) → condition (c.Disjoined x rest) place ≡ grouped (parts_or place) (condition x at.Whole ++ row w.Disjunction at.Joined rest)
unfolding condition
condition-Disjoined x rest place = ap (λ f. f place) (fold-Disjoined condition_step x rest) ∙ ap (λ r. grouped (parts_or place) (condition x at.Whole ++ r)) (flat_map-map (joined w.Disjunction at.Joined) (λ e. (e.0, condition e.1)) rest)

pub condition-Compared : (j : Comparison) (x y : Operand) (place : ConditionContext) → condition (c.Compared j x y) place ≡ compared (t.Comparison j) x y
unfolding condition
condition-Compared j x y place = ap (λ f. f place) (fold-Compared condition_step j x y)

pub condition-Matched : (j : Matching) (x : Operand) (q : MatchPattern) (place : ConditionContext) → condition (c.Matched j x q) place ≡ operand x ++ spaced (t.Matching j) ∷ pattern q
unfolding condition
condition-Matched j x q place = ap (λ f. f place) (fold-Matched condition_step j x q)

pub condition-In : (x y : Operand) (place : ConditionContext) → condition (c.In x y) place ≡ compared (t.Word w.In) x y
unfolding condition
condition-In x y place = ap (λ f. f place) (fold-In condition_step x y)

pub condition-NotIn : (x y : Operand) (place : ConditionContext) → condition (c.NotIn x y) place ≡ operand x ++ spaced (t.Word w.Not) ∷ spaced (t.Word w.In) ∷ operand y
unfolding condition
condition-NotIn x y place = ap (λ f. f place) (fold-NotIn condition_step x y)

pub ruleset conditions = (text_both, condition-Operand, condition-Not, condition-Conjoined, condition-Disjoined, condition-Compared, condition-Matched, condition-In, condition-NotIn)

-- values
pub value-Text : (s : List ℕ) (margin : Indent) → value (v.Text s) margin ≡ spaced (t.Quoted s) ∷ []
unfolding value
value-Text s margin = ap (λ f. f margin) (ap (fold-SettingValue Laid Laid Laid value_step nested_step settings_step) (sym (v.rolls-Text s)) ∙ fold-roll-SettingValue Laid Laid Laid value_step nested_step settings_step (SettingValue-F.Text s))

pub value-Number : (n : Num) (margin : Indent) → value (v.Number n) margin ≡ spaced (number_token n) ∷ []
unfolding value
value-Number n margin = ap (λ f. f margin) (ap (fold-SettingValue Laid Laid Laid value_step nested_step settings_step) (sym (v.rolls-Number n)) ∙ fold-roll-SettingValue Laid Laid Laid value_step nested_step settings_step (SettingValue-F.Number n))

pub value-Array : (xs : List SettingValue) (margin : Indent) → value (v.Array xs) margin ≡ members_in_line xs
unfolding value
value-Array xs margin = ap (λ f. f margin) (ap (fold-SettingValue Laid Laid Laid value_step nested_step settings_step) (sym (v.rolls-Array xs)) ∙ fold-roll-SettingValue Laid Laid Laid value_step nested_step settings_step (SettingValue-F.Array xs)) ∙ ap listed (map-map (λ x. x one_line) value xs)

pub value-Hash : (es : Entries) (margin : Indent) → value (v.Hash es) margin ≡ pairs es margin
unfolding value
value-Hash es margin = ap (λ f. f margin) (ap (fold-SettingValue Laid Laid Laid value_step nested_step settings_step) (sym (v.rolls-Hash es)) ∙ fold-roll-SettingValue Laid Laid Laid value_step nested_step settings_step (SettingValue-F.Hash es))
    ∙ ap (braced margin) (flat_map-map (pair (deeper margin)) _ es)

pub value-Nested : (x : Plugin) (margin : Indent) → value (v.Nested x) margin ≡ spaced (t.Word (word_of x.name)) ∷ settings x.settings.list margin
unfolding value
value-Nested x margin = ap (λ f. f margin) (ap (fold-SettingValue Laid Laid Laid value_step nested_step settings_step) (sym (v.rolls-Nested x)) ∙ fold-roll-SettingValue Laid Laid Laid value_step nested_step settings_step (SettingValue-F.Nested x))
    ∙ ap (λ f. f margin) (fold_out-Plugin Laid Laid Laid value_step nested_step settings_step x)
    ∙ ap (λ f. spaced (t.Word (word_of x.name)) ∷ f margin) (fold_out-Settings Laid Laid Laid value_step nested_step settings_step x.settings)
    ∙ ap (λ l. spaced (t.Word (word_of x.name)) ∷ braced margin l) (flat_map-map (setting (deeper margin)) _ x.settings.list)

pub ruleset values = (text_both, value-Text, value-Number, value-Array, value-Hash, value-Nested)

-- statements
pub statement-Plugin : (x : Plugin) (margin : Indent) → statement (s.Plugin x) margin ≡ plugin x margin
unfolding statement
statement-Plugin x margin = ap (λ f. f margin) (ap (fold-Statement Laid Gapped statement_step arm_step) (sym (s.rolls-Plugin x)) ∙ fold-roll-Statement Laid Gapped statement_step arm_step (Statement-F.Plugin x))

pub statement-Branch : (xs : List Arm) (margin : Indent) → statement (s.Branch xs) margin ≡ branch false margin (map arm xs)
unfolding statement arm
statement-Branch xs margin = ap (λ f. f margin) (ap (fold-Statement Laid Gapped statement_step arm_step) (sym (s.rolls-Branch xs)) ∙ fold-roll-Statement Laid Gapped statement_step arm_step (Statement-F.Branch xs))

pub arm-is : (x : Arm) (front : Indent) (margin : Indent) → arm x front margin ≡ test front x.condition ++ block x.block margin
unfolding statement arm
arm-is x front margin = ap (λ f. f front margin) (fold_out-Arm Laid Gapped statement_step arm_step x) ∙ ap (λ l. test front x.condition ++ braced margin l) (flat_map-map (λ line. line (deeper margin)) statement x.block)

pub ruleset statements = (text_both, statement-Plugin, statement-Branch, arm-is)
