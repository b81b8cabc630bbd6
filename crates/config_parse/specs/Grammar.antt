-- The grammar, one case for each rule. The number is that of the levels that may be opened. Where a rule repeats, what was read
-- in front is an index: so operators of one rank associate to the left, and settings and sections are joined as they come.
use Rattle.std.specs.Prelude.{◌≡◌, ℕ, suc, List, [], ◌∷◌, ◌++◌, Some, None, false}
use Rattle.config_lex.specs.declared.token.Token.{Token}
use Rattle.config_lex.specs.declared.token.Token.TheVariants as t
use Rattle.config_lex.specs.declared.token.Word.TheVariants as w
use Rattle.config_tree.specs.declared.operators.Conjunction.{Conjunction}
use Rattle.config_tree.specs.declared.operators.Disjunction.{Disjunction}
use Rattle.config_tree.specs.declared.operators.Comparison.{Comparison}
use Rattle.config_tree.specs.declared.operators.Matching.{Matching}
use Rattle.config_lex.specs.declared.token.Section.TheVariants as kind
use Rattle.config_tree.specs.declared.tree.SettingValue.{SettingValue}
use Rattle.config_tree.specs.declared.tree.SettingValue.TheVariants as v
use Rattle.config_tree.specs.declared.tree.Condition.{Condition}
use Rattle.config_tree.specs.declared.tree.Condition.TheVariants as c
use Rattle.config_tree.specs.declared.tree.Operand.{Operand}
use Rattle.config_tree.specs.declared.tree.Operand.TheVariants as o
use Rattle.config_tree.specs.declared.tree.Literal.{Literal}
use Rattle.config_tree.specs.declared.tree.MatchPattern.{MatchPattern}
use Rattle.config_tree.specs.declared.tree.Plugin.{Plugin}
use Rattle.config_tree.specs.declared.tree.Arm.{Arm}
use Rattle.config_tree.specs.declared.tree.Statement.{Statement}
use Rattle.config_tree.specs.declared.tree.Statement.TheVariants as s
use Rattle.config_tree.specs.declared.tree.Config.{Config}
use Rattle.config_parse.specs.Words.{bareword, setting_name, plugin_name, key, scalar, literal, operand_token, pattern}
use Rattle.config_tree.specs.Joints.{conjoined, disjoined}
use Rattle.config_tree.specs.Joining.{Entries, has, with_setting, plugin_of, empty, with_inputs, with_filters, with_outputs}

mutual
  -- value = string | number | bareword | nested | array | hash
  pub data ReadsValue : ℕ → List Token → SettingValue → Type 0 where
    scalar_value : {d : ℕ} {y : Token} {x : SettingValue} → scalar y ≡ Some x → ReadsValue d (y ∷ []) x
    bare : {d : ℕ} {name : List ℕ} {y : Token} {a : List Token} {x : SettingValue} → bareword y ≡ Some name → ReadsNest d name a x → ReadsValue d (y ∷ a) x
    array : {d : ℕ} {a : List Token} {xs : List SettingValue} → ReadsItems d a xs → ReadsValue (suc d) (t.OpenBracket ∷ a) (v.Array xs)
    hash : {d : ℕ} {a : List Token} {xs : Entries} → ReadsPairs d [] a xs → ReadsValue (suc d) (t.OpenBrace ∷ a) (v.Hash xs)

  -- behind a bareword that is a value: nothing, or the settings of a nested plugin
  pub data ReadsNest : ℕ → List ℕ → List Token → SettingValue → Type 0 where
    no_nest : {d : ℕ} {name : List ℕ} → ReadsNest d name [] (v.Text name)
    nested : {d : ℕ} {name : List ℕ} {a : List Token} {xs : Entries} → ReadsSettings d [] a xs → ReadsNest (suc d) name (t.OpenBrace ∷ a) (v.Nested (plugin_of name xs))

  -- behind the `[` of an array
  pub data ReadsItems : ℕ → List Token → List SettingValue → Type 0 where
    no_item : {d : ℕ} → ReadsItems d (t.CloseBracket ∷ []) []
    items : {d : ℕ} {a b : List Token} {x : SettingValue} {xs : List SettingValue} → ReadsValue d a x → ReadsMore d (x ∷ []) b xs → ReadsItems d (a ++ b) xs

  -- behind these items of an array
  pub data ReadsMore : ℕ → List SettingValue → List Token → List SettingValue → Type 0 where
    no_more : {d : ℕ} {front : List SettingValue} → ReadsMore d front (t.CloseBracket ∷ []) front
    more : {d : ℕ} {front : List SettingValue} {a b : List Token} {x : SettingValue} {xs : List SettingValue} → ReadsValue d a x → ReadsMore d (front ++ x ∷ []) b xs
        → ReadsMore d front (t.Comma ∷ (a ++ b)) xs

  -- behind the `{` of a hash and these entries: a key may not stand twice
  pub data ReadsPairs : ℕ → Entries → List Token → Entries → Type 0 where
    no_pair : {d : ℕ} {front : Entries} → ReadsPairs d front (t.CloseBrace ∷ []) front
    pair : {d : ℕ} {k : List ℕ} {front : Entries} {y : Token} {a b : List Token} {x : SettingValue} {xs : Entries} → key y ≡ Some k → has k front ≡ false
        → ReadsValue d a x → ReadsPairs d (front ++ (k, x) ∷ []) b xs → ReadsPairs d front (y ∷ t.Arrow ∷ (a ++ b)) xs

  -- behind the `{` of a plugin and these settings
  pub data ReadsSettings : ℕ → Entries → List Token → Entries → Type 0 where
    no_setting : {d : ℕ} {front : Entries} → ReadsSettings d front (t.CloseBrace ∷ []) front
    setting : {d : ℕ} {k : List ℕ} {front : Entries} {y : Token} {a b : List Token} {x : SettingValue} {xs : Entries} → setting_name y ≡ Some k
        → ReadsValue d a x → ReadsSettings d (with_setting k x front) b xs → ReadsSettings d front (y ∷ t.Arrow ∷ (a ++ b)) xs

-- behind these literals of a list in a condition
pub data ReadsMoreLiterals : List Literal → List Token → List Literal → Type 0 where
  no_more_literal : {front : List Literal} → ReadsMoreLiterals front (t.CloseBracket ∷ []) front
  more_literals : {y : Token} {front : List Literal} {a : List Token} {x : Literal} {xs : List Literal} → literal y ≡ Some x → ReadsMoreLiterals (front ++ x ∷ []) a xs
      → ReadsMoreLiterals front (t.Comma ∷ y ∷ a) xs

-- literals: behind the `[` of a list in a condition
pub data ReadsLiterals : List Token → List Literal → Type 0 where
  no_literal : ReadsLiterals (t.CloseBracket ∷ []) []
  literals : {y : Token} {a : List Token} {x : Literal} {xs : List Literal} → literal y ≡ Some x → ReadsMoreLiterals (x ∷ []) a xs → ReadsLiterals (y ∷ a) xs

-- operand = selector | string | number | literals
pub data ReadsOperand : ℕ → List Token → Operand → Type 0 where
  one_token : {d : ℕ} {y : Token} {x : Operand} → operand_token y ≡ Some x → ReadsOperand d (y ∷ []) x
  list : {d : ℕ} {a : List Token} {xs : List Literal} → ReadsLiterals a xs → ReadsOperand (suc d) (t.OpenBracket ∷ a) (o.List xs)

-- compare, behind its first operand
pub data ReadsTail : ℕ → Operand → List Token → Condition → Type 0 where
  alone : {d : ℕ} {x : Operand} → ReadsTail d x [] (c.Operand x)
  comparison : {d : ℕ} {x y : Operand} {j : Comparison} {a : List Token} → ReadsOperand d a y → ReadsTail d x (t.Comparison j ∷ a) (c.Compared j x y)
  matching : {d : ℕ} {x : Operand} {j : Matching} {y : Token} {q : MatchPattern} → pattern y ≡ Some q → ReadsTail d x (t.Matching j ∷ y ∷ []) (c.Matched j x q)
  within : {d : ℕ} {x y : Operand} {a : List Token} → ReadsOperand d a y → ReadsTail d x (t.Word w.In ∷ a) (c.In x y)
  not_within : {d : ℕ} {x y : Operand} {a : List Token} → ReadsOperand d a y → ReadsTail d x (t.Word w.Not ∷ t.Word w.In ∷ a) (c.NotIn x y)

mutual
  -- unary = "!" unary | "(" cond ")" | compare
  pub data ReadsUnary : ℕ → List Token → Condition → Type 0 where
    compare : {d : ℕ} {a b : List Token} {x : Operand} {y : Condition} → ReadsOperand d a x → ReadsTail d x b y → ReadsUnary d (a ++ b) y
    negation : {d : ℕ} {a : List Token} {x : Condition} → ReadsUnary d a x → ReadsUnary (suc d) (t.Exclamation ∷ a) (c.Not x)
    group : {d : ℕ} {a : List Token} {x : Condition} → ReadsCondition d a x → ReadsUnary (suc d) (t.OpenParen ∷ (a ++ t.CloseParen ∷ [])) x

  -- joined = unary { ("and" | "nand") unary }
  pub data ReadsJoined : ℕ → List Token → Condition → Type 0 where
    joined : {d : ℕ} {a b : List Token} {x y : Condition} → ReadsUnary d a x → ReadsAnds d x b y → ReadsJoined d (a ++ b) y

  pub data ReadsAnds : ℕ → Condition → List Token → Condition → Type 0 where
    no_and : {d : ℕ} {x : Condition} → ReadsAnds d x [] x
    and : {d : ℕ} {j : Conjunction} {a b : List Token} {l x y : Condition} → ReadsUnary d a x → ReadsAnds d (conjoined j l x) b y → ReadsAnds d l (t.Word (w.Conjunction j) ∷ (a ++ b)) y

  -- cond = joined { ("or" | "xor") joined }
  pub data ReadsCondition : ℕ → List Token → Condition → Type 0 where
    condition : {d : ℕ} {a b : List Token} {x y : Condition} → ReadsJoined d a x → ReadsOrs d x b y → ReadsCondition d (a ++ b) y

  pub data ReadsOrs : ℕ → Condition → List Token → Condition → Type 0 where
    no_or : {d : ℕ} {x : Condition} → ReadsOrs d x [] x
    or : {d : ℕ} {j : Disjunction} {a b : List Token} {l x y : Condition} → ReadsJoined d a x → ReadsOrs d (disjoined j l x) b y → ReadsOrs d l (t.Word (w.Disjunction j) ∷ (a ++ b)) y

-- plugin = name "{" { setting } "}"
pub data ReadsPlugin : ℕ → List Token → Plugin → Type 0 where
  plugin : {d : ℕ} {name : List ℕ} {y : Token} {a : List Token} {xs : Entries} → plugin_name y ≡ Some name → ReadsSettings d [] a xs → ReadsPlugin (suc d) (y ∷ t.OpenBrace ∷ a) (plugin_of name xs)

mutual
  -- behind the `{` of a filter or output section, or of a block, and these statements
  pub data ReadsStatements : ℕ → List Statement → List Token → List Statement → Type 0 where
    no_statement : {d : ℕ} {front : List Statement} → ReadsStatements d front (t.CloseBrace ∷ []) front
    plugin_statement : {d : ℕ} {a b : List Token} {x : Plugin} {front xs : List Statement} → ReadsPlugin d a x → ReadsStatements d (front ++ s.Plugin x ∷ []) b xs
        → ReadsStatements d front (a ++ b) xs
    branch : {d : ℕ} {a b e : List Token} {x : Arm} {arms : List Arm} {front xs : List Statement} → ReadsArm d a x → ReadsElse d (x ∷ []) b arms
        → ReadsStatements d (front ++ s.Branch arms ∷ []) e xs → ReadsStatements d front (t.Word w.If ∷ (a ++ (b ++ e))) xs

  -- behind an `if`: cond block
  pub data ReadsArm : ℕ → List Token → Arm → Type 0 where
    arm : {d : ℕ} {a b : List Token} {x : Condition} {xs : List Statement} → ReadsCondition (suc d) a x → ReadsStatements d [] b xs
        → ReadsArm (suc d) (a ++ (t.OpenBrace ∷ b)) (record { condition = Some x; block = xs })

  -- behind these arms: nothing, an `else if` with what comes behind it, or an `else`
  pub data ReadsElse : ℕ → List Arm → List Token → List Arm → Type 0 where
    no_else : {d : ℕ} {front : List Arm} → ReadsElse d front [] front
    else_if : {d : ℕ} {a b : List Token} {x : Arm} {front arms : List Arm} → ReadsArm d a x → ReadsElse d (front ++ x ∷ []) b arms
        → ReadsElse d front (t.Word w.Else ∷ t.Word w.If ∷ (a ++ b)) arms
    else : {d : ℕ} {a : List Token} {front : List Arm} {xs : List Statement} → ReadsStatements d [] a xs
        → ReadsElse (suc d) front (t.Word w.Else ∷ t.OpenBrace ∷ a) (front ++ record { condition = None; block = xs } ∷ [])

-- behind the `{` of an input section and these plugins: no branch stands there
pub data ReadsPlugins : ℕ → List Plugin → List Token → List Plugin → Type 0 where
  no_plugin : {d : ℕ} {front : List Plugin} → ReadsPlugins d front (t.CloseBrace ∷ []) front
  plugins : {d : ℕ} {a b : List Token} {x : Plugin} {front xs : List Plugin} → ReadsPlugin d a x → ReadsPlugins d (front ++ x ∷ []) b xs → ReadsPlugins d front (a ++ b) xs

-- config = { section }, behind these sections
pub data ReadsSections : ℕ → Config → List Token → Config → Type 0 where
  no_section : {d : ℕ} {front : Config} → ReadsSections d front [] front
  input : {d : ℕ} {a b : List Token} {xs : List Plugin} {front all : Config} → ReadsPlugins d [] a xs → ReadsSections (suc d) (with_inputs front xs) b all
      → ReadsSections (suc d) front (t.Word (w.Section kind.Input) ∷ t.OpenBrace ∷ (a ++ b)) all
  filter : {d : ℕ} {a b : List Token} {xs : List Statement} {front all : Config} → ReadsStatements d [] a xs → ReadsSections (suc d) (with_filters front xs) b all
      → ReadsSections (suc d) front (t.Word (w.Section kind.Filter) ∷ t.OpenBrace ∷ (a ++ b)) all
  output : {d : ℕ} {a b : List Token} {xs : List Statement} {front all : Config} → ReadsStatements d [] a xs → ReadsSections (suc d) (with_outputs front xs) b all
      → ReadsSections (suc d) front (t.Word (w.Section kind.Output) ∷ t.OpenBrace ∷ (a ++ b)) all

-- the tokens are the configuration, in which at most so many levels are open at once
abbrev pub ReadsConfig : ℕ → List Token → Config → Type 0
ReadsConfig levels tokens config = ReadsSections levels empty tokens config
