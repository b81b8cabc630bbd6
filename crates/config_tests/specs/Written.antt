-- Three texts with their tokens and what they read as, whose derivations are written out in `proofs/ReadByRules`. Between them they take
-- each rule of the grammar.
use Rattle.std.specs.Prelude.{ℕ, List, [], ◌∷◌, codes, Some, None}
use Rattle.event_tree.specs.PathTexts.{way_of}
use Rattle.config_tree.specs.Joining.{Entries, plugin_of}
use Rattle.config_lex.specs.declared.token.Token.{Token}
use Rattle.config_lex.specs.declared.token.Token.TheVariants as t
use Rattle.config_lex.specs.declared.token.Word.TheVariants as w
use Rattle.config_tree.specs.declared.operators.Conjunction.TheVariants as and
use Rattle.config_tree.specs.declared.operators.Disjunction.TheVariants as or
use Rattle.config_tree.specs.declared.operators.Comparison.{Comparison}
use Rattle.config_tree.specs.declared.operators.Comparison.TheVariants as comparison
use Rattle.config_tree.specs.declared.operators.Matching.TheVariants as matching
use Rattle.config_lex.specs.declared.token.Section.TheVariants as kind
use Rattle.config_tree.specs.declared.tree.Config.{Config}
use Rattle.config_tree.specs.declared.tree.Arm.{Arm}
use Rattle.config_tree.specs.declared.tree.Condition.{Condition}
use Rattle.config_tree.specs.declared.tree.SettingValue.TheVariants as v
use Rattle.config_tree.specs.declared.tree.Statement.TheVariants as s
use Rattle.config_tree.specs.declared.tree.Condition.TheVariants as c
use Rattle.config_tree.specs.declared.tree.Operand.{Operand}
use Rattle.config_tree.specs.declared.tree.Operand.TheVariants as o
use Rattle.config_tree.specs.declared.tree.Literal.TheVariants as l
use Rattle.config_tree.specs.declared.tree.MatchPattern.TheVariants as p
use Rattle.config_tests.specs.Examples.{whole}

abbrev pub word : List ℕ → Token
word s = t.Word (w.Other s)

abbrev pub field : List ℕ → Token
field part = t.Selector (part ∷ [])

abbrev pub digit : ℕ → List ℕ → Token
digit n s = t.Number (whole n) s

-- Settings that stand twice: arrays and hashes are joined, and of other values the later stays. Two input sections, which are joined.
abbrev pub settings_text : List ℕ
settings_text = codes "input{a{t=>[x]h=>{k=>1}t=>[\"y\",2]h=>{k=>true 7=>[]}c=>1c=>json{}}}output{b{}}input{'d'{}}"

abbrev pub settings_tokens : List Token
settings_tokens =
    t.Word (w.Section kind.Input) ∷ t.OpenBrace ∷ word (codes "a") ∷ t.OpenBrace ∷ word (codes "t") ∷ t.Arrow ∷ t.OpenBracket ∷ word (codes "x") ∷ t.CloseBracket ∷ word (codes "h") ∷ t.Arrow
    ∷ t.OpenBrace ∷ word (codes "k") ∷ t.Arrow ∷ digit 1 (codes "1") ∷ t.CloseBrace ∷ word (codes "t") ∷ t.Arrow ∷ t.OpenBracket ∷ t.Quoted (codes "y") ∷ t.Comma ∷ digit 2 (codes "2")
    ∷ t.CloseBracket ∷ word (codes "h") ∷ t.Arrow ∷ t.OpenBrace ∷ word (codes "k") ∷ t.Arrow ∷ word (codes "true") ∷ digit 7 (codes "7") ∷ t.Arrow ∷ t.OpenBracket ∷ t.CloseBracket ∷ t.CloseBrace
    ∷ word (codes "c") ∷ t.Arrow ∷ digit 1 (codes "1") ∷ word (codes "c") ∷ t.Arrow ∷ word (codes "json") ∷ t.OpenBrace ∷ t.CloseBrace ∷ t.CloseBrace ∷ t.CloseBrace
    ∷ t.Word (w.Section kind.Output) ∷ t.OpenBrace ∷ word (codes "b") ∷ t.OpenBrace ∷ t.CloseBrace ∷ t.CloseBrace ∷ t.Word (w.Section kind.Input) ∷ t.OpenBrace ∷ t.Quoted (codes "d")
    ∷ t.OpenBrace ∷ t.CloseBrace ∷ t.CloseBrace ∷ []

abbrev pub settings_of_a : Entries
settings_of_a =
    (codes "t", v.Array (v.Text (codes "x") ∷ v.Text (codes "y") ∷ v.Number (whole 2) ∷ [])) ∷ (codes "h", v.Hash ((codes "k", v.Text (codes "true")) ∷ (codes "7", v.Array []) ∷ []))
    ∷ (codes "c", v.Nested (plugin_of (codes "json") [])) ∷ []

abbrev pub settings_config : Config
settings_config = record { inputs = plugin_of (codes "a") settings_of_a ∷ plugin_of (codes "d") [] ∷ []; filters = []; outputs = s.Plugin (plugin_of (codes "b") []) ∷ [] }

-- Each joint and each comparison: `and` and `nand` bind more tightly than `or` and `xor`, and those of one rank go from the left.
abbrev pub joints_text : List ℕ
joints_text = codes "filter{if[a]==1and[b]!=2nand[c]<3or[d]>4xor!([e]<=5and[f]>=6){}}"

abbrev pub joints_tokens : List Token
joints_tokens =
    t.Word (w.Section kind.Filter) ∷ t.OpenBrace ∷ t.Word w.If ∷ field (codes "a") ∷ t.Comparison comparison.Equal ∷ digit 1 (codes "1") ∷ t.Word (w.Conjunction and.And) ∷ field (codes "b")
    ∷ t.Comparison comparison.Unequal ∷ digit 2 (codes "2") ∷ t.Word (w.Conjunction and.Nand) ∷ field (codes "c") ∷ t.Comparison comparison.Less ∷ digit 3 (codes "3")
    ∷ t.Word (w.Disjunction or.Or) ∷ field (codes "d") ∷ t.Comparison comparison.Greater ∷ digit 4 (codes "4") ∷ t.Word (w.Disjunction or.Xor) ∷ t.Exclamation ∷ t.OpenParen ∷ field (codes "e")
    ∷ t.Comparison comparison.AtMost ∷ digit 5 (codes "5") ∷ t.Word (w.Conjunction and.And) ∷ field (codes "f") ∷ t.Comparison comparison.AtLeast ∷ digit 6 (codes "6") ∷ t.CloseParen
    ∷ t.OpenBrace ∷ t.CloseBrace ∷ t.CloseBrace ∷ []

abbrev pub of_field : List ℕ → Operand
of_field part = o.Field (way_of (part ∷ []))

abbrev pub of_number : ℕ → Operand
of_number n = o.Number (whole n)

abbrev pub compared : List ℕ → Comparison → ℕ → Condition
compared part j n = c.Compared j (of_field part) (of_number n)

abbrev pub left_of_or : Condition
left_of_or = c.Conjoined (compared (codes "a") comparison.Equal 1) ((and.And, compared (codes "b") comparison.Unequal 2) ∷ (and.Nand, compared (codes "c") comparison.Less 3) ∷ [])

abbrev pub right_of_xor : Condition
right_of_xor = c.Not (c.Conjoined (compared (codes "e") comparison.AtMost 5) ((and.And, compared (codes "f") comparison.AtLeast 6) ∷ []))

abbrev pub joints_condition : Condition
joints_condition = c.Disjoined left_of_or ((or.Or, compared (codes "d") comparison.Greater 4) ∷ (or.Xor, right_of_xor) ∷ [])

abbrev pub arm_of : Condition → Arm
arm_of condition = record { condition = Some condition; block = [] }

abbrev pub joints_with : Condition → Config
joints_with condition = record { inputs = []; filters = s.Branch (arm_of condition ∷ []) ∷ []; outputs = [] }

abbrev pub joints_config : Config
joints_config = joints_with joints_condition

-- Each kind of arm, a branch in a block, and the operators that take no number. Two filter sections, which are joined.
abbrev pub arms_text : List ℕ
arms_text = codes "filter{if[a]in[\"b\",1]{c{}}else if'd'not in[]{if 1{}}else if[f]=~/g/and[h]!~'i'{}else{k{}}}filter{l{}}output{if[m]=~\"n\"{}}"

abbrev pub arms_tokens : List Token
arms_tokens =
    t.Word (w.Section kind.Filter) ∷ t.OpenBrace ∷ t.Word w.If ∷ field (codes "a") ∷ t.Word w.In ∷ t.OpenBracket ∷ t.Quoted (codes "b") ∷ t.Comma ∷ digit 1 (codes "1") ∷ t.CloseBracket
    ∷ t.OpenBrace ∷ word (codes "c") ∷ t.OpenBrace ∷ t.CloseBrace ∷ t.CloseBrace ∷ t.Word w.Else ∷ t.Word w.If ∷ t.Quoted (codes "d") ∷ t.Word w.Not ∷ t.Word w.In ∷ t.OpenBracket
    ∷ t.CloseBracket ∷ t.OpenBrace ∷ t.Word w.If ∷ digit 1 (codes "1") ∷ t.OpenBrace ∷ t.CloseBrace ∷ t.CloseBrace ∷ t.Word w.Else ∷ t.Word w.If ∷ field (codes "f")
    ∷ t.Matching matching.Matches ∷ t.Regexp (codes "g") ∷ t.Word (w.Conjunction and.And) ∷ field (codes "h") ∷ t.Matching matching.MatchesNot ∷ t.Quoted (codes "i") ∷ t.OpenBrace
    ∷ t.CloseBrace ∷ t.Word w.Else ∷ t.OpenBrace ∷ word (codes "k") ∷ t.OpenBrace ∷ t.CloseBrace ∷ t.CloseBrace ∷ t.CloseBrace ∷ t.Word (w.Section kind.Filter) ∷ t.OpenBrace
    ∷ word (codes "l") ∷ t.OpenBrace ∷ t.CloseBrace ∷ t.CloseBrace ∷ t.Word (w.Section kind.Output) ∷ t.OpenBrace ∷ t.Word w.If ∷ field (codes "m") ∷ t.Matching matching.Matches
    ∷ t.Quoted (codes "n") ∷ t.OpenBrace ∷ t.CloseBrace ∷ t.CloseBrace ∷ []

abbrev pub in_arm : Arm
in_arm = record { condition = Some (c.In (of_field (codes "a")) (o.List (l.Text (codes "b") ∷ l.Number (whole 1) ∷ []))); block = s.Plugin (plugin_of (codes "c") []) ∷ [] }

abbrev pub not_in_arm : Arm
not_in_arm = record { condition = Some (c.NotIn (o.Text (codes "d")) (o.List [])); block = s.Branch (arm_of (c.Operand (of_number 1)) ∷ []) ∷ [] }

abbrev pub has_g : Condition
has_g = c.Matched matching.Matches (of_field (codes "f")) (p.Regexp (codes "g"))

abbrev pub lacks_i : Condition
lacks_i = c.Matched matching.MatchesNot (of_field (codes "h")) (p.Text (codes "i"))

abbrev pub matching_condition : Condition
matching_condition = c.Conjoined has_g ((and.And, lacks_i) ∷ [])

abbrev pub last_arm : Arm
last_arm = record { condition = None; block = s.Plugin (plugin_of (codes "k") []) ∷ [] }

abbrev pub arms_with : Condition → Config
arms_with condition = record {
  inputs = [];
  filters = s.Branch (in_arm ∷ not_in_arm ∷ arm_of condition ∷ last_arm ∷ []) ∷ s.Plugin (plugin_of (codes "l") []) ∷ [];
  outputs = s.Branch (arm_of (c.Matched matching.Matches (of_field (codes "m")) (p.Text (codes "n"))) ∷ []) ∷ [];
}

abbrev pub arms_config : Config
arms_config = arms_with matching_condition
