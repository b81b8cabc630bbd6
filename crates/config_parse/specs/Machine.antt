-- The grammar as a machine with a stack of what is still owed.
use Rattle.std.specs.Prelude.{ℕ, zero, suc, List, [], ◌∷◌, ◌++◌, length, Option, Some, None, Bool, true, false, ◌&&◌, cond, bytes_eq}
use Rattle.std.specs.List.{list_any}
use Rattle.config_lex.specs.declared.token.Token.{Token}
use Rattle.config_lex.specs.declared.token.Token.TheVariants as t
use Rattle.config_lex.specs.declared.token.Word.TheVariants as w
use Rattle.config_lex.specs.declared.token.Section.TheVariants as kind
use Rattle.config_tree.specs.declared.tree.SettingValue.{SettingValue}
use Rattle.config_tree.specs.declared.tree.SettingValue.TheVariants as v
use Rattle.config_tree.specs.declared.tree.Condition.{Condition}
use Rattle.config_tree.specs.declared.tree.Condition.TheVariants as c
use Rattle.config_tree.specs.declared.tree.Operand.{Operand}
use Rattle.config_tree.specs.declared.tree.Operand.TheVariants as o
use Rattle.config_tree.specs.declared.tree.Literal.{Literal}
use Rattle.config_tree.specs.declared.tree.MatchPattern.{MatchPattern}
use Rattle.config_tree.specs.declared.tree.Plugin.{Plugin}
use Rattle.config_tree.specs.declared.tree.Arm.{Arm}
use Rattle.config_tree.specs.declared.tree.Statement.{Statement}
use Rattle.config_tree.specs.declared.tree.Statement.TheVariants as s
use Rattle.config_tree.specs.declared.tree.Config.{Config}
use Rattle.config_parse.specs.Words.{spelling, setting_name, plugin_name, key, scalar, literal, operand_token, pattern}
use Rattle.config_tree.specs.Joints.{conjoined, disjoined}
use Rattle.config_tree.specs.Joining.{Entries, with_setting, plugin_of, with_inputs, with_filters, with_outputs}
use Rattle.config_parse.specs.Symbols.{Symbol}
use Rattle.config_parse.specs.Symbols as y
use Rattle.config_parse.specs.Verdicts.{Verdict}
use Rattle.config_parse.specs.Verdicts as is

abbrev pub Stack : Type 0
Stack = List Symbol

-- what a symbol adds to the tree; where something stands in front, what that becomes
abbrev pub Sem : Symbol → Type 0
Sem y.Value = SettingValue
Sem y.Nest = List ℕ → SettingValue
Sem y.Members = List SettingValue
Sem y.More = List SettingValue → List SettingValue
Sem (y.Pairs keys) = Entries → Entries
Sem y.Arrow = Unit {0}
Sem y.Settings = Entries → Entries
Sem y.SettingsBlock = Entries
Sem y.Literal = Literal
Sem y.Literals = List Literal
Sem y.MoreLiterals = List Literal → List Literal
Sem y.Operand = Operand
Sem y.Tail = Operand → Condition
Sem y.Pattern = MatchPattern
Sem y.InWord = Unit {0}
Sem y.Unary = Condition
Sem y.Ands = Condition → Condition
Sem y.Ors = Condition → Condition
Sem y.NotEnd = Unit {0}
Sem y.CloseParen = Unit {0}
Sem y.Block = List Statement
Sem y.Statements = List Statement → List Statement
Sem y.Otherwise = List Arm → List Arm
Sem y.ElseBody = List Arm → List Arm
Sem y.PluginsBlock = List Plugin
Sem y.Plugins = List Plugin → List Plugin
Sem y.Sections = Config → Config

abbrev pub Sems : Stack → Type 0
Sems [] = Unit {0}
Sems (x ∷ k) = Sem x × Sems k

-- what a symbol does at a token, with how its part of the tree is made
pub data Move (X : Type 0) : Type 0 where
  refuses : Move X
  stays : (now : Stack) → (Sems now → X) → Move X
  opens : (now : Stack) → (Sems now → X) → Move X
  shuts : X → Move X

abbrev pub on_some : {A X : Type 0} → Option A → (now : A → Stack) → ((p : A) → Sems (now p) → X) → Move X
on_some None now made = refuses
on_some (Some p) now made = stays (now p) (made p)

-- a key that is not among these
abbrev pub fresh : List (List ℕ) → Option (List ℕ) → Option (List ℕ)
fresh keys None = None
fresh keys (Some k) = cond (list_any (λ x. bytes_eq x k) keys) None (Some k)

-- a condition
abbrev pub condition : Stack → Stack
condition k = y.Unary ∷ y.Ands ∷ y.Ors ∷ k

abbrev pub arm_of : Condition → List Statement → Arm
arm_of x xs = record { condition = Some x; block = xs }

abbrev pub last_arm : List Statement → Arm
last_arm xs = record { condition = None; block = xs }

-- the table: what each symbol does at each token
abbrev pub next : (x : Symbol) → Token → Move (Sem x)
next y.Value t.OpenBracket = opens (y.Members ∷ []) (λ p. v.Array p.0)
next y.Value t.OpenBrace = opens (y.Pairs [] ∷ []) (λ p. v.Hash (p.0 []))
next y.Value (t.Word a) = stays (y.Nest ∷ []) (λ p. p.0 (spelling a))
next y.Value z = on_some (scalar z) (λ _. []) (λ x _. x)
next y.Nest t.OpenBrace = opens (y.Settings ∷ []) (λ p name. v.Nested (plugin_of name (p.0 [])))
next y.Nest _ = refuses
next y.Members t.CloseBracket = shuts []
next y.Members t.OpenBracket = opens (y.Members ∷ y.More ∷ []) (λ p. p.1.0 (v.Array p.0 ∷ []))
next y.Members t.OpenBrace = opens (y.Pairs [] ∷ y.More ∷ []) (λ p. p.1.0 (v.Hash (p.0 []) ∷ []))
next y.Members (t.Word a) = stays (y.Nest ∷ y.More ∷ []) (λ p. p.1.0 (p.0 (spelling a) ∷ []))
next y.Members z = on_some (scalar z) (λ _. y.More ∷ []) (λ x p. p.0 (x ∷ []))
next y.More t.CloseBracket = shuts (λ front. front)
next y.More t.Comma = stays (y.Value ∷ y.More ∷ []) (λ p front. p.1.0 (front ++ p.0 ∷ []))
next y.More _ = refuses
next (y.Pairs keys) t.CloseBrace = shuts (λ front. front)
next (y.Pairs keys) z = on_some (fresh keys (key z)) (λ k. y.Arrow ∷ y.Value ∷ y.Pairs (keys ++ k ∷ []) ∷ []) (λ k p front. p.1.1.0 (front ++ (k, p.1.0) ∷ []))
next y.Arrow t.Arrow = stays [] (λ _. tt)
next y.Arrow _ = refuses
next y.Settings t.CloseBrace = shuts (λ front. front)
next y.Settings z = on_some (setting_name z) (λ _. y.Arrow ∷ y.Value ∷ y.Settings ∷ []) (λ k p front. p.1.1.0 (with_setting k p.1.0 front))
next y.SettingsBlock t.OpenBrace = opens (y.Settings ∷ []) (λ p. p.0 [])
next y.SettingsBlock _ = refuses
next y.Literal z = on_some (literal z) (λ _. []) (λ x _. x)
next y.Literals t.CloseBracket = shuts []
next y.Literals z = on_some (literal z) (λ _. y.MoreLiterals ∷ []) (λ x p. p.0 (x ∷ []))
next y.MoreLiterals t.CloseBracket = shuts (λ front. front)
next y.MoreLiterals t.Comma = stays (y.Literal ∷ y.MoreLiterals ∷ []) (λ p front. p.1.0 (front ++ p.0 ∷ []))
next y.MoreLiterals _ = refuses
next y.Operand t.OpenBracket = opens (y.Literals ∷ []) (λ p. o.List p.0)
next y.Operand z = on_some (operand_token z) (λ _. []) (λ x _. x)
next y.Tail (t.Comparison j) = stays (y.Operand ∷ []) (λ p x. c.Compared j x p.0)
next y.Tail (t.Matching j) = stays (y.Pattern ∷ []) (λ p x. c.Matched j x p.0)
next y.Tail (t.Word w.In) = stays (y.Operand ∷ []) (λ p x. c.In x p.0)
next y.Tail (t.Word w.Not) = stays (y.InWord ∷ y.Operand ∷ []) (λ p x. c.NotIn x p.1.0)
next y.Tail _ = refuses
next y.Pattern z = on_some (pattern z) (λ _. []) (λ x _. x)
next y.InWord (t.Word w.In) = stays [] (λ _. tt)
next y.InWord _ = refuses
next y.Unary t.Exclamation = opens (y.Unary ∷ y.NotEnd ∷ []) (λ p. c.Not p.0)
next y.Unary t.OpenParen = opens (condition (y.CloseParen ∷ [])) (λ p. p.1.1.0 (p.1.0 p.0))
next y.Unary t.OpenBracket = opens (y.Literals ∷ y.Tail ∷ []) (λ p. p.1.0 (o.List p.0))
next y.Unary z = on_some (operand_token z) (λ _. y.Tail ∷ []) (λ x p. p.0 x)
next y.Ands (t.Word (w.Conjunction j)) = stays (y.Unary ∷ y.Ands ∷ []) (λ p l. p.1.0 (conjoined j l p.0))
next y.Ands _ = refuses
next y.Ors (t.Word (w.Disjunction j)) = stays (condition []) (λ p l. p.1.1.0 (disjoined j l (p.1.0 p.0)))
next y.Ors _ = refuses
next y.NotEnd _ = refuses
next y.CloseParen t.CloseParen = shuts tt
next y.CloseParen _ = refuses
next y.Block t.OpenBrace = opens (y.Statements ∷ []) (λ p. p.0 [])
next y.Block _ = refuses
next y.Statements t.CloseBrace = shuts (λ front. front)
next y.Statements (t.Word w.If) = stays (condition (y.Block ∷ y.Otherwise ∷ y.Statements ∷ []))
    (λ p front. p.1.1.1.1.1.0 (front ++ s.Branch (p.1.1.1.1.0 (arm_of (p.1.1.0 (p.1.0 p.0)) p.1.1.1.0 ∷ [])) ∷ []))
next y.Statements z = on_some (plugin_name z) (λ _. y.SettingsBlock ∷ y.Statements ∷ []) (λ name p front. p.1.0 (front ++ s.Plugin (plugin_of name p.0) ∷ []))
next y.Otherwise (t.Word w.Else) = stays (y.ElseBody ∷ []) (λ p. p.0)
next y.Otherwise _ = refuses
next y.ElseBody (t.Word w.If) = stays (condition (y.Block ∷ y.Otherwise ∷ [])) (λ p front. p.1.1.1.1.0 (front ++ arm_of (p.1.1.0 (p.1.0 p.0)) p.1.1.1.0 ∷ []))
next y.ElseBody t.OpenBrace = opens (y.Statements ∷ []) (λ p front. front ++ last_arm (p.0 []) ∷ [])
next y.ElseBody _ = refuses
next y.PluginsBlock t.OpenBrace = opens (y.Plugins ∷ []) (λ p. p.0 [])
next y.PluginsBlock _ = refuses
next y.Plugins t.CloseBrace = shuts (λ front. front)
next y.Plugins z = on_some (plugin_name z) (λ _. y.SettingsBlock ∷ y.Plugins ∷ []) (λ name p front. p.1.0 (front ++ plugin_of name p.0 ∷ []))
next y.Sections (t.Word (w.Section kind.Input)) = stays (y.PluginsBlock ∷ y.Sections ∷ []) (λ p front. p.1.0 (with_inputs front p.0))
next y.Sections (t.Word (w.Section kind.Filter)) = stays (y.Block ∷ y.Sections ∷ []) (λ p front. p.1.0 (with_filters front p.0))
next y.Sections (t.Word (w.Section kind.Output)) = stays (y.Block ∷ y.Sections ∷ []) (λ p front. p.1.0 (with_outputs front p.0))
next y.Sections _ = refuses

-- what a symbol adds where nothing stands for it
abbrev pub blank : (x : Symbol) → Option (Sem x)
blank y.Nest = Some (λ name. v.Text name)
blank y.Tail = Some (λ x. c.Operand x)
blank y.Ands = Some (λ x. x)
blank y.Ors = Some (λ x. x)
blank y.NotEnd = Some tt
blank y.Otherwise = Some (λ front. front)
blank y.Sections = Some (λ front. front)
blank _ = None

-- the levels that may be opened behind a symbol, by those that may be opened in it
abbrev pub rise : Symbol → ℕ → ℕ
rise y.Members d = suc d
rise y.More d = suc d
rise (y.Pairs keys) d = suc d
rise y.Settings d = suc d
rise y.Literals d = suc d
rise y.MoreLiterals d = suc d
rise y.NotEnd d = suc d
rise y.CloseParen d = suc d
rise y.Statements d = suc d
rise y.Plugins d = suc d
rise x d = d

-- the machine without trees
pub data Step : Type 0 where
  stuck : Step
  deep : Step
  goes : ℕ → Stack → Step

abbrev pub act : {X : Type 0} → Move X → Option X → (ℕ → ℕ) → ℕ → Stack → (ℕ → Step) → Step
act (stays now made) b up d k pass = goes d (now ++ k)
act (opens now made) b up zero k pass = deep
act (opens now made) b up (suc d) k pass = goes d (now ++ k)
act (shuts x) b up d k pass = goes (up d) k
act refuses None up d k pass = stuck
act refuses (Some x) up d k pass = pass (up d)

abbrev pub step : ℕ → Stack → Token → Step
step d [] z = stuck
step d (x ∷ k) z = act (next x z) (blank x) (rise x) d k (λ e. step e k z)

abbrev pub is_blank : {X : Type 0} → Option X → Bool
is_blank None = false
is_blank (Some x) = true

abbrev pub may_end : Stack → Bool
may_end [] = true
may_end (x ∷ k) = is_blank (blank x) && may_end k

abbrev pub ends : Bool → Verdict
ends true = is.Reads
ends false = is.Syntax 0

abbrev pub go : Step → ℕ → (ℕ → Stack → Verdict) → Verdict
go stuck left f = is.Syntax left
go deep left f = is.Deep left
go (goes d k) left f = f d k

abbrev pub verdict_from : ℕ → Stack → List Token → Verdict
verdict_from d k [] = ends (may_end k)
verdict_from d k (z ∷ ts) = go (step d k z) (suc (length ts)) (λ e j. verdict_from e j ts)

-- what a list of tokens is, in so many levels
abbrev pub verdict : ℕ → List Token → Verdict
verdict levels ts = verdict_from levels (y.Sections ∷ []) ts
