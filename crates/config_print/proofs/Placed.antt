-- In a configuration each token stands where the lexer takes it for what it is.
use Rattle.std.proofs.Common.{◌≡◌, ℕ, List, [], ◌∷◌, ◌++◌, Some, Bool, true, false, ◌⊎◌, inl, inr, refl, ap, sym, subst}
use Rattle.config_lex.specs.declared.token.Token.{Token}
use Rattle.config_lex.specs.declared.token.Token.TheVariants as t
use Rattle.config_lex.specs.declared.token.Word.{Word}
use Rattle.config_lex.specs.declared.token.Word.TheVariants as w
use Rattle.config_lex.specs.declared.token.Section.TheVariants as kind
use Rattle.config_lex.specs.declared.context.Context.{Context}
use Rattle.config_tree.specs.declared.tree.SettingValue.{SettingValue}
use Rattle.config_tree.specs.declared.tree.Condition.{Condition}
use Rattle.config_tree.specs.declared.tree.Operand.{Operand}
use Rattle.config_tree.specs.declared.tree.Literal.{Literal}
use Rattle.config_tree.specs.declared.tree.MatchPattern.{MatchPattern}
use Rattle.config_tree.specs.declared.tree.Plugin.{Plugin}
use Rattle.config_tree.specs.declared.tree.Arm.{Arm}
use Rattle.config_tree.specs.declared.tree.Statement.{Statement}
use Rattle.config_tree.specs.declared.tree.Config.{Config}
use Rattle.config_parse.specs.Grammar as g
use Rattle.config_tree.specs.Joining.{Entries}
use Rattle.config_parse.specs.Words.{bareword, setting_name, plugin_name, key, scalar, literal, operand_token, pattern}
use Rattle.config_lex.specs.Lexemes.{start, plain, before_branch, before_operand, after_token}

-- the context behind some tokens
abbrev pub contexts : Context → List Token → Context
contexts x [] = x
contexts x (y ∷ ts) = contexts (after_token x y) ts

-- a literal, or the end of a list of literals, comes first
abbrev pub first_literal : List Token → Bool
first_literal (t.Quoted s ∷ ts) = true
first_literal (t.Number n s ∷ ts) = true
first_literal (t.CloseBracket ∷ ts) = true
first_literal _ = false

-- the token, with those behind it, may stand in the context
abbrev pub Suits : Context → Token → List Token → Type 0
Suits x (t.Dashed s) ts = x.in_condition ≡ false
Suits x (t.Selector parts) ts = x.at_operand ≡ true
Suits x t.OpenBracket ts = (x.at_operand ≡ false) ⊎ (first_literal ts ≡ true)
Suits x t.Unreadable ts = ⊥
Suits x y ts = Unit {0}

abbrev pub Placed : Context → List Token → Type 0
Placed x [] = Unit {0}
Placed x (y ∷ ts) = Suits x y ts × Placed (after_token x y) ts

-- and the context behind them
abbrev At : Context → List Token → Context → Type 0
At x ts z = Placed x ts × (contexts x ts ≡ z)

first_more : (ts us : List Token) → first_literal ts ≡ true → first_literal (ts ++ us) ≡ true
first_more [] us h = absurd (cc)
first_more (t.Quoted s ∷ ts) us h = refl
first_more (t.Number n s ∷ ts) us h = refl
first_more (t.CloseBracket ∷ ts) us h = refl
first_more (y ∷ ts) us h = h

suits_more : (x : Context) (y : Token) (ts us : List Token) → Suits x y ts → Suits x y (ts ++ us)
suits_more x t.OpenBracket ts us (inl h) = inl h
suits_more x t.OpenBracket ts us (inr h) = inr (first_more ts us h)
suits_more x y ts us h = h

both : (x z v : Context) (ts us : List Token) → At x ts z → At z us v → At x (ts ++ us) v
both x z v [] us h u = subst (λ k. At k us v) (sym h.1) u
both x z v (y ∷ ts) us h u =
    let r = both (after_token x y) z v ts us (h.0.1, h.1) u in
    ((suits_more x y ts us h.0.0, r.0), r.1)

-- one token that may stand anywhere
free : (x z v : Context) (y : Token) (us : List Token) → Suits x y us → after_token x y ≡ z → At z us v → At x (y ∷ us) v
free x z v y us s h u = let r = subst (λ k. At k us v) (sym h) u in ((s, r.0), r.1)

-- outside conditions, and not where an operand may stand
abbrev Calm : Context → Type 0
Calm x = (x.in_condition ≡ false) × (x.at_operand ≡ false)

-- a value stands between these
abbrev CalmAt : Context → List Token → Type 0
CalmAt x ts = Placed x ts × Calm (contexts x ts)

name_suits : (x : Context) (y : Token) (k : List ℕ) (us : List Token) → Calm x → setting_name y ≡ Some k → Suits x y us
name_suits x (t.Word a) k us h e = tt
name_suits x (t.Dashed s) k us h e = h.0
name_suits x (t.Quoted s) k us h e = tt
name_suits x y k us h e = absurd (cc)

key_suits : (x : Context) (y : Token) (k : List ℕ) (us : List Token) → key y ≡ Some k → Suits x y us
key_suits x (t.Word a) k us e = tt
key_suits x (t.Quoted s) k us e = tt
key_suits x (t.Number n s) k us e = tt
key_suits x y k us e = absurd (cc)

scalar_at : (y : Token) (v : SettingValue) → scalar y ≡ Some v → CalmAt (plain false) (y ∷ [])
scalar_at (t.Quoted s) v e = ((tt, tt), (refl, refl))
scalar_at (t.Number n s) v e = ((tt, tt), (refl, refl))
scalar_at y v e = absurd (cc)

-- a word that is a value
word_calm : (a : Word) → Calm (after_token (plain false) (t.Word a))
word_calm w.If = (refl, refl)
word_calm w.Else = (refl, refl)
word_calm w.In = (refl, refl)
word_calm (w.Conjunction j) = (refl, refl)
word_calm (w.Disjunction j) = (refl, refl)
word_calm a = (refl, refl)

bare_at : (y : Token) (name : List ℕ) → bareword y ≡ Some name → (us : List Token) → ((x : Context) → Calm x → CalmAt x us) → CalmAt (plain false) (y ∷ us)
bare_at (t.Word a) name e us h = let r = h (after_token (plain false) (t.Word a)) (word_calm a) in ((tt, r.0), r.1)
bare_at y name e us h = absurd (cc)

-- `}` outside conditions
closed : (x : Context) → Calm x → after_token x t.CloseBrace ≡ before_branch false
closed x h = ap before_branch h.0

-- a comma, or `]`, there
over : (x : Context) → Calm x → plain x.in_condition ≡ plain false
over x h = ap plain h.0

calm_of : (x z : Context) (ts : List Token) → Calm z → At x ts z → CalmAt x ts
calm_of x z ts h u = (u.0, subst Calm (sym u.1) h)

-- a value, then more
value_then : (x : Context) (a b : List Token) (v : Context) → CalmAt x a → ((z : Context) → Calm z → At z b v) → At x (a ++ b) v
value_then x a b v h u = both x (contexts x a) v a b (h.0, refl) (u (contexts x a) h.1)

mutual
  value_at : {d : ℕ} {ts : List Token} {v : SettingValue} → g.ReadsValue d ts v → CalmAt (plain false) ts
  value_at (g.scalar_value {y} {x = v} e) = scalar_at y v e
  value_at (g.bare {name} {y} {a} e q) = bare_at y name e a (λ x h. nest_at q x h)
  value_at (g.array {a} q) = calm_of (plain false) (plain false) (t.OpenBracket ∷ a) (refl, refl) (free (plain false) (plain false) (plain false) t.OpenBracket a (inl refl) refl (items_at q))
  value_at (g.hash {a} q) =
      calm_of (plain false) (before_branch false) (t.OpenBrace ∷ a) (refl, refl) (free (plain false) (before_branch false) (before_branch false) t.OpenBrace a tt refl (pairs_at q (before_branch false) (refl, refl)))

  nest_at : {d : ℕ} {name : List ℕ} {ts : List Token} {v : SettingValue} → g.ReadsNest d name ts v → (x : Context) → Calm x → CalmAt x ts
  nest_at g.no_nest x h = (tt, h)
  nest_at (g.nested {a} q) x h =
      calm_of x (before_branch false) (t.OpenBrace ∷ a) (refl, refl) (free x (before_branch false) (before_branch false) t.OpenBrace a tt refl (settings_at q (before_branch false) (refl, refl)))

  items_at : {d : ℕ} {ts : List Token} {vs : List SettingValue} → g.ReadsItems d ts vs → At (plain false) ts (plain false)
  items_at g.no_item = ((tt, tt), refl)
  items_at (g.items {a} {b} p q) = value_then (plain false) a b (plain false) (value_at p) (λ x h. more_at q x h)

  more_at : {d : ℕ} {front : List SettingValue} {ts : List Token} {vs : List SettingValue} → g.ReadsMore d front ts vs → (x : Context) → Calm x → At x ts (plain false)
  more_at g.no_more x h = ((tt, tt), over x h)
  more_at (g.more {a} {b} p q) x h = free x (plain false) (plain false) t.Comma (a ++ b) tt (over x h) (value_then (plain false) a b (plain false) (value_at p) (λ z k. more_at q z k))

  pairs_at : {d : ℕ} {front : Entries} {ts : List Token} {es : Entries} → g.ReadsPairs d front ts es → (x : Context) → Calm x → At x ts (before_branch false)
  pairs_at g.no_pair x h = ((tt, tt), closed x h)
  pairs_at (g.pair {k} {y} {a} {b} e u p q) x h =
      free x (after_token x y) (before_branch false) y (t.Arrow ∷ (a ++ b)) (key_suits x y k (t.Arrow ∷ (a ++ b)) e) refl
      (free (after_token x y) (plain false) (before_branch false) t.Arrow (a ++ b) tt refl (value_then (plain false) a b (before_branch false) (value_at p) (λ z r. pairs_at q z r)))

  settings_at : {d : ℕ} {front : Entries} {ts : List Token} {es : Entries} → g.ReadsSettings d front ts es → (x : Context) → Calm x → At x ts (before_branch false)
  settings_at g.no_setting x h = ((tt, tt), closed x h)
  settings_at (g.setting {k} {y} {a} {b} e p q) x h =
      free x (after_token x y) (before_branch false) y (t.Arrow ∷ (a ++ b)) (name_suits x y k (t.Arrow ∷ (a ++ b)) h e) refl
      (free (after_token x y) (plain false) (before_branch false) t.Arrow (a ++ b) tt refl (value_then (plain false) a b (before_branch false) (value_at p) (λ z r. settings_at q z r)))

-- in a condition
abbrev operand : Context
operand = before_operand true

abbrev inside : Context
inside = plain true

literal_inside : (y : Token) (l : Literal) → literal y ≡ Some l → (us : List Token) → At inside us inside → At inside (y ∷ us) inside × (first_literal (y ∷ us) ≡ true)
literal_inside (t.Quoted s) l e us h = (((tt, h.0), h.1), refl)
literal_inside (t.Number n s) l e us h = (((tt, h.0), h.1), refl)
literal_inside y l e us h = absurd (cc)

more_literals_at : {front ls : List Literal} {ts : List Token} → g.ReadsMoreLiterals front ts ls → At inside ts inside
more_literals_at g.no_more_literal = ((tt, tt), refl)
more_literals_at (g.more_literals {y} {a} {x = l} e q) = free inside inside inside t.Comma (y ∷ a) tt refl (literal_inside y l e a (more_literals_at q)).0

literals_at : {ls : List Literal} {ts : List Token} → g.ReadsLiterals ts ls → At inside ts inside × (first_literal ts ≡ true)
literals_at g.no_literal = (((tt, tt), refl), refl)
literals_at (g.literals {y} {a} {x = l} e q) = literal_inside y l e a (more_literals_at q)

one_at : (y : Token) (o : Operand) → operand_token y ≡ Some o → At operand (y ∷ []) inside
one_at (t.Selector parts) o e = ((refl, tt), refl)
one_at (t.Quoted s) o e = ((tt, tt), refl)
one_at (t.Number n s) o e = ((tt, tt), refl)
one_at y o e = absurd (cc)

operand_at : {d : ℕ} {ts : List Token} {o : Operand} → g.ReadsOperand d ts o → At operand ts inside
operand_at (g.one_token {y} {x = o} e) = one_at y o e
operand_at (g.list {a} q) = let r = literals_at q in ((inr r.1, r.0.0), r.0.1)

pattern_at : (y : Token) (q : MatchPattern) → pattern y ≡ Some q → At operand (y ∷ []) inside
pattern_at (t.Regexp s) q e = ((tt, tt), refl)
pattern_at (t.Quoted s) q e = ((tt, tt), refl)
pattern_at y q e = absurd (cc)

tail_at : {d : ℕ} {o : Operand} {ts : List Token} {c : Condition} → g.ReadsTail d o ts c → At inside ts inside
tail_at g.alone = (tt, refl)
tail_at (g.comparison {j} {a} q) = free inside operand inside (t.Comparison j) a tt refl (operand_at q)
tail_at (g.matching {j} {y} {q} e) = free inside operand inside (t.Matching j) (y ∷ []) tt refl (pattern_at y q e)
tail_at (g.within {a} q) = free inside operand inside (t.Word w.In) a tt refl (operand_at q)
tail_at (g.not_within {a} q) = free inside inside inside (t.Word w.Not) (t.Word w.In ∷ a) tt refl (free inside operand inside (t.Word w.In) a tt refl (operand_at q))

mutual
  unary_at : {d : ℕ} {ts : List Token} {c : Condition} → g.ReadsUnary d ts c → At operand ts inside
  unary_at (g.compare {a} {b} q r) = both operand inside inside a b (operand_at q) (tail_at r)
  unary_at (g.negation {a} q) = free operand operand inside t.Exclamation a tt refl (unary_at q)
  unary_at (g.group {a} q) = free operand operand inside t.OpenParen (a ++ t.CloseParen ∷ []) tt refl (both operand inside inside a (t.CloseParen ∷ []) (condition_at q) ((tt, tt), refl))

  joined_at : {d : ℕ} {ts : List Token} {c : Condition} → g.ReadsJoined d ts c → At operand ts inside
  joined_at (g.joined {a} {b} q r) = both operand inside inside a b (unary_at q) (ands_at r)

  ands_at : {d : ℕ} {l c : Condition} {ts : List Token} → g.ReadsAnds d l ts c → At inside ts inside
  ands_at g.no_and = (tt, refl)
  ands_at (g.and {j} {a} {b} q r) = free inside operand inside (t.Word (w.Conjunction j)) (a ++ b) tt refl (both operand inside inside a b (unary_at q) (ands_at r))

  condition_at : {d : ℕ} {ts : List Token} {c : Condition} → g.ReadsCondition d ts c → At operand ts inside
  condition_at (g.condition {a} {b} q r) = both operand inside inside a b (joined_at q) (ors_at r)

  ors_at : {d : ℕ} {l c : Condition} {ts : List Token} → g.ReadsOrs d l ts c → At inside ts inside
  ors_at g.no_or = (tt, refl)
  ors_at (g.or {j} {a} {b} q r) = free inside operand inside (t.Word (w.Disjunction j)) (a ++ b) tt refl (both operand inside inside a b (joined_at q) (ors_at r))

-- where statements stand
abbrev lines : Context
lines = before_branch false

plugin_suits : (x : Context) (y : Token) (k : List ℕ) (us : List Token) → Calm x → plugin_name y ≡ Some k → Suits x y us
plugin_suits x (t.Word a) k us h e = tt
plugin_suits x (t.Dashed s) k us h e = h.0
plugin_suits x (t.Quoted s) k us h e = tt
plugin_suits x y k us h e = absurd (cc)

plugin_at : {d : ℕ} {ts : List Token} {p : Plugin} → g.ReadsPlugin d ts p → At lines ts lines
plugin_at (g.plugin {name} {y} {a} e q) =
    free lines (after_token lines y) lines y (t.OpenBrace ∷ a) (plugin_suits lines y name (t.OpenBrace ∷ a) (refl, refl) e) refl
    (free (after_token lines y) lines lines t.OpenBrace a tt refl (settings_at q lines (refl, refl)))

mutual
  statements_at : {d : ℕ} {front xs : List Statement} {ts : List Token} → g.ReadsStatements d front ts xs → At lines ts lines
  statements_at g.no_statement = ((tt, tt), refl)
  statements_at (g.plugin_statement {a} {b} q r) = both lines lines lines a b (plugin_at q) (statements_at r)
  statements_at (g.branch {a} {b} {e} q r o) = free lines operand lines (t.Word w.If) (a ++ (b ++ e)) tt refl (both operand lines lines a (b ++ e) (arm_at q) (both lines lines lines b e (else_at r) (statements_at o)))

  arm_at : {d : ℕ} {ts : List Token} {x : Arm} → g.ReadsArm d ts x → At operand ts lines
  arm_at (g.arm {a} {b} q r) = both operand inside lines a (t.OpenBrace ∷ b) (condition_at q) (free inside lines lines t.OpenBrace b tt refl (statements_at r))

  else_at : {d : ℕ} {front arms : List Arm} {ts : List Token} → g.ReadsElse d front ts arms → At lines ts lines
  else_at g.no_else = (tt, refl)
  else_at (g.else_if {a} {b} q r) = free lines lines lines (t.Word w.Else) (t.Word w.If ∷ (a ++ b)) tt refl (free lines operand lines (t.Word w.If) (a ++ b) tt refl (both operand lines lines a b (arm_at q) (else_at r)))
  else_at (g.else {a} q) = free lines lines lines (t.Word w.Else) (t.OpenBrace ∷ a) tt refl (free lines lines lines t.OpenBrace a tt refl (statements_at q))

plugins_at : {d : ℕ} {front xs : List Plugin} {ts : List Token} → g.ReadsPlugins d front ts xs → At lines ts lines
plugins_at g.no_plugin = ((tt, tt), refl)
plugins_at (g.plugins {a} {b} q r) = both lines lines lines a b (plugin_at q) (plugins_at r)

section_at : (x : Context) → Calm x → (k : Token) → Suits x k (t.OpenBrace ∷ []) → (a b : List Token) → At lines a lines → CalmAt lines b → Suits x k (t.OpenBrace ∷ (a ++ b)) → CalmAt x (k ∷ t.OpenBrace ∷ (a ++ b))
section_at x h k s a b p q u = let r = both lines lines (contexts lines b) a b p (q.0, refl) in ((u, (tt, r.0)), subst Calm (sym r.1) q.1)

sections_at : {d : ℕ} {front all : Config} {ts : List Token} → g.ReadsSections d front ts all → (x : Context) → Calm x → CalmAt x ts
sections_at g.no_section x h = (tt, h)
sections_at (g.input {a} {b} q r) x h = section_at x h (t.Word (w.Section kind.Input)) tt a b (plugins_at q) (sections_at r lines (refl, refl)) tt
sections_at (g.filter {a} {b} q r) x h = section_at x h (t.Word (w.Section kind.Filter)) tt a b (statements_at q) (sections_at r lines (refl, refl)) tt
sections_at (g.output {a} {b} q r) x h = section_at x h (t.Word (w.Section kind.Output)) tt a b (statements_at q) (sections_at r lines (refl, refl)) tt

-- each token of a configuration stands where it may
pub placed_config : (d : ℕ) (ts : List Token) (config : Config) → g.ReadsConfig d ts config → Placed start ts
placed_config d ts config q = (sections_at q start (refl, refl)).0
