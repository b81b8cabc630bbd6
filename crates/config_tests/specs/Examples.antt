-- Three texts with their tokens and what they read as.
use Rattle.std.specs.Prelude.{ℕ, List, [], ◌∷◌, codes, Some, None, pos}
use Rattle.event_tree.specs.Number.{Num}
use Rattle.event_tree.specs.PathTexts.{way_of}
use Rattle.config_tree.specs.Joining.{Entries, plugin_of}
use Rattle.config_lex.specs.declared.token.Token.{Token}
use Rattle.config_lex.specs.declared.token.Token.TheVariants as t
use Rattle.config_lex.specs.declared.token.Word.TheVariants as w
use Rattle.config_tree.specs.declared.operators.Conjunction.TheVariants as and
use Rattle.config_tree.specs.declared.operators.Disjunction.TheVariants as or
use Rattle.config_tree.specs.declared.operators.Comparison.TheVariants as comparison
use Rattle.config_tree.specs.declared.operators.Matching.TheVariants as matching
use Rattle.config_lex.specs.declared.token.Section.TheVariants as kind
use Rattle.config_tree.specs.declared.tree.Config.{Config}
use Rattle.config_tree.specs.declared.tree.Arm.{Arm}
use Rattle.config_tree.specs.declared.tree.Condition.{Condition}
use Rattle.config_tree.specs.declared.tree.SettingValue.TheVariants as v
use Rattle.config_tree.specs.declared.tree.Statement.TheVariants as s
use Rattle.config_tree.specs.declared.tree.Condition.TheVariants as c
use Rattle.config_tree.specs.declared.tree.Operand.TheVariants as o
use Rattle.config_tree.specs.declared.tree.Literal.TheVariants as l
use Rattle.config_tree.specs.declared.tree.MatchPattern.TheVariants as p

abbrev pub whole : ℕ → Num
whole n = record { mantissa = pos n; scale = 0 }

-- an input
abbrev pub input_text : List ℕ
input_text = codes "input{stdin{}}"

abbrev pub input_config : Config
input_config = record { inputs = plugin_of (codes "stdin") [] ∷ []; filters = []; outputs = [] }

-- a filter with values of each kind
abbrev pub values_text : List ℕ
values_text = codes "filter{x{a=>{'k'=>1}b=>[c,\"d\"]e=>f{g=>[]}}}output{}"

abbrev pub values_tokens : List Token
values_tokens =
    t.Word (w.Section kind.Filter) ∷ t.OpenBrace ∷ t.Word (w.Other (codes "x")) ∷ t.OpenBrace ∷ t.Word (w.Other (codes "a")) ∷ t.Arrow ∷ t.OpenBrace ∷ t.Quoted (codes "k") ∷ t.Arrow
    ∷ t.Number (whole 1) (codes "1") ∷ t.CloseBrace ∷ t.Word (w.Other (codes "b")) ∷ t.Arrow ∷ t.OpenBracket ∷ t.Word (w.Other (codes "c")) ∷ t.Comma ∷ t.Quoted (codes "d") ∷ t.CloseBracket
    ∷ t.Word (w.Other (codes "e")) ∷ t.Arrow ∷ t.Word (w.Other (codes "f")) ∷ t.OpenBrace ∷ t.Word (w.Other (codes "g")) ∷ t.Arrow ∷ t.OpenBracket ∷ t.CloseBracket ∷ t.CloseBrace
    ∷ t.CloseBrace ∷ t.CloseBrace ∷ t.Word (w.Section kind.Output) ∷ t.OpenBrace ∷ t.CloseBrace ∷ []

abbrev pub values_settings : Entries
values_settings =
    (codes "a", v.Hash ((codes "k", v.Number (whole 1)) ∷ [])) ∷ (codes "b", v.Array (v.Text (codes "c") ∷ v.Text (codes "d") ∷ []))
    ∷ (codes "e", v.Nested (plugin_of (codes "f") ((codes "g", v.Array []) ∷ []))) ∷ []

abbrev pub values_config : Config
values_config = record { inputs = []; filters = s.Plugin (plugin_of (codes "x") values_settings) ∷ []; outputs = [] }

-- a branch with each kind of arm
abbrev pub branch_text : List ℕ
branch_text = codes "filter{if[a]==1 and!([b]=~/x/or\"c\"in['d',2]){y{}}else if[e]not in[]{}else{}}"

abbrev pub branch_tokens : List Token
branch_tokens =
    t.Word (w.Section kind.Filter) ∷ t.OpenBrace ∷ t.Word w.If ∷ t.Selector (codes "a" ∷ []) ∷ t.Comparison comparison.Equal ∷ t.Number (whole 1) (codes "1") ∷ t.Word (w.Conjunction and.And)
    ∷ t.Exclamation ∷ t.OpenParen ∷ t.Selector (codes "b" ∷ []) ∷ t.Matching matching.Matches ∷ t.Regexp (codes "x") ∷ t.Word (w.Disjunction or.Or) ∷ t.Quoted (codes "c") ∷ t.Word w.In
    ∷ t.OpenBracket ∷ t.Quoted (codes "d") ∷ t.Comma ∷ t.Number (whole 2) (codes "2") ∷ t.CloseBracket ∷ t.CloseParen ∷ t.OpenBrace ∷ t.Word (w.Other (codes "y")) ∷ t.OpenBrace ∷ t.CloseBrace
    ∷ t.CloseBrace ∷ t.Word w.Else ∷ t.Word w.If ∷ t.Selector (codes "e" ∷ []) ∷ t.Word w.Not ∷ t.Word w.In ∷ t.OpenBracket ∷ t.CloseBracket ∷ t.OpenBrace ∷ t.CloseBrace ∷ t.Word w.Else
    ∷ t.OpenBrace ∷ t.CloseBrace ∷ t.CloseBrace ∷ []

-- what the joints of the text stand between
abbrev pub is_one : Condition
is_one = c.Compared comparison.Equal (o.Field (way_of (codes "a" ∷ []))) (o.Number (whole 1))

abbrev pub has_x : Condition
has_x = c.Matched matching.Matches (o.Field (way_of (codes "b" ∷ []))) (p.Regexp (codes "x"))

abbrev pub is_listed : Condition
is_listed = c.In (o.Text (codes "c")) (o.List (l.Text (codes "d") ∷ l.Number (whole 2) ∷ []))

abbrev pub first_condition : Condition
first_condition = c.Conjoined is_one ((and.And, c.Not (c.Disjoined has_x ((or.Or, is_listed) ∷ []))) ∷ [])

abbrev pub first_arm : Condition → Arm
first_arm condition = record { condition = Some condition; block = s.Plugin (plugin_of (codes "y") []) ∷ [] }

abbrev pub second_arm : Arm
second_arm = record { condition = Some (c.NotIn (o.Field (way_of (codes "e" ∷ []))) (o.List [])); block = [] }

abbrev pub third_arm : Arm
third_arm = record { condition = None; block = [] }

abbrev pub branch_with : Condition → Config
branch_with condition = record { inputs = []; filters = s.Branch (first_arm condition ∷ second_arm ∷ third_arm ∷ []) ∷ []; outputs = [] }

abbrev pub branch_config : Config
branch_config = branch_with first_condition
