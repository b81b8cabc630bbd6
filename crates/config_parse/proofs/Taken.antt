-- What the machine takes, the grammar reads: the run is turned back into a derivation, from its end on.
use Rattle.std.proofs.Common.{◌≡◌, ℕ, zero, suc, List, [], ◌∷◌, ◌++◌, length, Option, Some, None, Bool, true, false, ◌&&◌, cond, refl, ap, sym, subst, ◌∙◌, bytes_eq, append_assoc}
use Rattle.std.specs.List.{list_any}
use Rattle.config_lex.specs.declared.token.Token.{Token}
use Rattle.config_lex.specs.declared.token.Token.TheVariants as t
use Rattle.config_lex.specs.declared.token.Word.TheVariants as w
use Rattle.config_lex.specs.declared.token.Section.TheVariants as kind
use Rattle.config_tree.specs.declared.tree.SettingValue.{SettingValue}
use Rattle.config_tree.specs.declared.tree.SettingValue.TheVariants as v
use Rattle.config_tree.specs.declared.tree.Condition.{Condition}
use Rattle.config_tree.specs.declared.tree.Condition.TheVariants as c
use Rattle.config_tree.specs.declared.tree.Operand.{Operand}
use Rattle.config_tree.specs.declared.tree.Operand.TheVariants as o
use Rattle.config_tree.specs.declared.tree.Literal.{Literal}
use Rattle.config_tree.specs.declared.tree.MatchPattern.{MatchPattern}
use Rattle.config_tree.specs.declared.tree.Plugin.{Plugin}
use Rattle.config_tree.specs.declared.tree.Arm.{Arm}
use Rattle.config_tree.specs.declared.tree.Statement.{Statement}
use Rattle.config_tree.specs.declared.tree.Statement.TheVariants as s
use Rattle.config_tree.specs.declared.tree.Config.{Config}
use Rattle.config_parse.specs.Grammar as g
use Rattle.config_parse.specs.Words.{spelling, setting_name, plugin_name, key, scalar, literal, operand_token, pattern}
use Rattle.config_tree.specs.Joints.{conjoined, disjoined}
use Rattle.config_tree.specs.Joining.{Entries, with_setting, plugin_of, empty, with_inputs, with_filters, with_outputs}
use Rattle.config_parse.specs.Symbols.{Symbol}
use Rattle.config_parse.specs.Symbols as y
use Rattle.config_parse.specs.Machine.{Stack, Sem, Sems, Move, refuses, stays, opens, shuts, on_some, fresh, next, blank, rise, arm_of}
use Rattle.config_parse.specs.Machine.{Step, stuck, deep, goes, act, step, is_blank, may_end, ends, go, verdict_from}
use Rattle.config_parse.specs.Verdicts as is
use Rattle.config_parse.specs.Trees.{front, back}
use Rattle.config_parse.proofs.Takes.{keys_of, keys_more, has_keys, some_is}

-- a `{`, and what stands in it one level deeper
record Inside (d : ℕ) (a : List Token) (r : ℕ → List Token → Type 0) : Type 0 where
  below : ℕ
  rest : List Token
  level : d ≡ suc below
  whole : a ≡ t.OpenBrace ∷ rest
  reads : r below rest

-- one token of which a test tells something
record One {A : Type 0} (test : Token → Option A) (a : List Token) (x : A) : Type 0 where
  token : Token
  whole : a ≡ token ∷ []
  told : test token ≡ Some x

-- the tokens are what a symbol stands for
abbrev Of : (x : Symbol) → ℕ → List Token → Sem x → Type 0
Of y.Value d a x = g.ReadsValue d a x
Of y.Nest d a f = (name : List ℕ) → g.ReadsNest d name a (f name)
Of y.Members d a xs = g.ReadsItems d a xs
Of y.More d a f = (front : List SettingValue) → g.ReadsMore d front a (f front)
Of (y.Pairs keys) d a f = (front : Entries) → keys_of front ≡ keys → g.ReadsPairs d front a (f front)
Of y.Arrow d a p = a ≡ t.Arrow ∷ []
Of y.Settings d a f = (front : Entries) → g.ReadsSettings d front a (f front)
Of y.SettingsBlock d a xs = Inside d a (λ e b. g.ReadsSettings e [] b xs)
Of y.Literal d a x = One literal a x
Of y.Literals d a xs = g.ReadsLiterals a xs
Of y.MoreLiterals d a f = (front : List Literal) → g.ReadsMoreLiterals front a (f front)
Of y.Operand d a x = g.ReadsOperand d a x
Of y.Tail d a f = (x : Operand) → g.ReadsTail d x a (f x)
Of y.Pattern d a x = One pattern a x
Of y.InWord d a p = a ≡ t.Word w.In ∷ []
Of y.Unary d a x = g.ReadsUnary d a x
Of y.Ands d a f = (l : Condition) → g.ReadsAnds d l a (f l)
Of y.Ors d a f = (l : Condition) → g.ReadsOrs d l a (f l)
Of y.NotEnd d a p = a ≡ []
Of y.CloseParen d a p = a ≡ t.CloseParen ∷ []
Of y.Block d a xs = Inside d a (λ e b. g.ReadsStatements e [] b xs)
Of y.Statements d a f = (front : List Statement) → g.ReadsStatements d front a (f front)
Of y.Otherwise d a f = (front : List Arm) → g.ReadsElse d front a (f front)
Of y.ElseBody d a f = (front : List Arm) → g.ReadsElse d front (t.Word w.Else ∷ a) (f front)
Of y.PluginsBlock d a xs = Inside d a (λ e b. g.ReadsPlugins e [] b xs)
Of y.Plugins d a f = (front : List Plugin) → g.ReadsPlugins d front a (f front)
Of y.Sections d a f = (front : Config) → g.ReadsSections d front a (f front)

-- something in front, and something else behind it
record First {X Y : Type 0} (r : List Token → X → Type 0) (q : List Token → Y → Type 0) (ts : List Token) (p : X × Y) : Type 0 where
  part : List Token
  rest : List Token
  whole : ts ≡ part ++ rest
  here : r part p.0
  later : q rest p.1

-- one symbol behind the other
abbrev All : ℕ → (k : Stack) → List Token → Sems k → Type 0
All d [] ts p = ts ≡ []
All d (x ∷ k) ts p = First (Of x d) (All (rise x d) k) ts p

abbrev pub levels : ℕ → Stack → ℕ
levels d [] = d
levels d (x ∷ k) = levels (rise x d) k

nil : {A : Type 0} (xs : List A) → xs ++ [] ≡ xs
nil [] = refl
nil (x ∷ xs) = ap (λ l. x ∷ l) (nil xs)

to : (r : List Token → Type 0) {a b : List Token} → a ≡ b → r b → r a
to r h p = subst r (sym h) p

pad : {ts b : List Token} (a : List Token) → ts ≡ a ++ b → b ≡ [] → ts ≡ a
pad a h u = h ∙ ap (λ l. a ++ l) u ∙ nil a

-- what is made of symbols, one behind the other, from what each of them stands for
abbrev Handles : ℕ → (k : Stack) → (List Token → Sems k → Type 0) → Type 0
Handles d [] q = q [] tt
Handles d (y.Arrow ∷ k) q = Handles d k (λ b p. q (t.Arrow ∷ b) (tt, p))
Handles d (y.InWord ∷ k) q = Handles d k (λ b p. q (t.Word w.In ∷ b) (tt, p))
Handles d (y.CloseParen ∷ k) q = Handles (suc d) k (λ b p. q (t.CloseParen ∷ b) (tt, p))
Handles d (y.Literal ∷ k) q = (z : Token) (x : Literal) → literal z ≡ Some x → Handles d k (λ b p. q (z ∷ b) (x, p))
Handles d (y.Pattern ∷ k) q = (z : Token) (x : MatchPattern) → pattern z ≡ Some x → Handles d k (λ b p. q (z ∷ b) (x, p))
Handles d (x ∷ []) q = (a : List Token) (v : Sem x) → Of x d a v → q a (v, tt)
Handles d (x ∷ z ∷ k) q = (a : List Token) (v : Sem x) → Of x d a v → Handles (rise x d) (z ∷ k) (λ b p. q (a ++ b) (v, p))

handled : (d : ℕ) (k : Stack) (q : List Token → Sems k → Type 0) → Handles d k q → (ts : List Token) (p : Sems k) → All d k ts p → q ts p
handled d [] q h ts p f = to (λ l. q l tt) f h
handled d (y.Arrow ∷ k) q h ts p f = to (λ l. q l p) (f.whole ∙ ap (λ l. l ++ f.rest) f.here) (handled d k (λ b r. q (t.Arrow ∷ b) (tt, r)) h f.rest p.1 f.later)
handled d (y.InWord ∷ k) q h ts p f = to (λ l. q l p) (f.whole ∙ ap (λ l. l ++ f.rest) f.here) (handled d k (λ b r. q (t.Word w.In ∷ b) (tt, r)) h f.rest p.1 f.later)
handled d (y.CloseParen ∷ k) q h ts p f = to (λ l. q l p) (f.whole ∙ ap (λ l. l ++ f.rest) f.here) (handled (suc d) k (λ b r. q (t.CloseParen ∷ b) (tt, r)) h f.rest p.1 f.later)
handled d (y.Literal ∷ k) q h ts p f = to (λ l. q l p) (f.whole ∙ ap (λ l. l ++ f.rest) f.here.whole) (handled d k (λ b r. q (f.here.token ∷ b) (p.0, r)) (h f.here.token p.0 f.here.told) f.rest p.1 f.later)
handled d (y.Pattern ∷ k) q h ts p f = to (λ l. q l p) (f.whole ∙ ap (λ l. l ++ f.rest) f.here.whole) (handled d k (λ b r. q (f.here.token ∷ b) (p.0, r)) (h f.here.token p.0 f.here.told) f.rest p.1 f.later)
handled d (x ∷ []) q h ts p f = to (λ l. q l p) (pad f.part f.whole f.later) (h f.part p.0 f.here)
handled d (x ∷ z ∷ k) q h ts p f = to (λ l. q l p) f.whole (handled (rise x d) (z ∷ k) (λ b r. q (f.part ++ b) (p.0, r)) (h f.part p.0 f.here) f.rest p.1 f.later)

-- what a move has to keep
abbrev Made : (x : Symbol) → Token → Move (Sem x) → Type 0
Made x z refuses = Unit {0}
Made x z (stays now made) = ((d : ℕ) → Handles d now (λ a p. Of x d (z ∷ a) (made p))) × ((d : ℕ) → levels d now ≡ rise x d)
Made x z (opens now made) = ((d : ℕ) → Handles d now (λ a p. Of x (suc d) (z ∷ a) (made p))) × ((d : ℕ) → levels d now ≡ rise x (suc d))
Made x z (shuts v) = (d : ℕ) → Of x d (z ∷ []) v

made_some : {A : Type 0} (x : Symbol) (z : Token) (o : Option A) (now : A → Stack) (made : (p : A) → Sems (now p) → Sem x) → ((p : A) → o ≡ Some p → Made x z (stays (now p) (made p))) → Made x z (on_some o now made)
made_some x z None now made h = tt
made_some x z (Some p) now made h = h p refl

pub fresh_ok : (keys : List (List ℕ)) (k : List ℕ) (o : Option (List ℕ)) → fresh keys o ≡ Some k → (o ≡ Some k) × (list_any (λ x. bytes_eq x k) keys ≡ false)
fresh_ok keys k None h = absurd (cc)
fresh_ok keys k (Some j) h = at (list_any (λ x. bytes_eq x j) keys) refl h
  where
    at : (b : Bool) → list_any (λ x. bytes_eq x j) keys ≡ b → cond b None (Some j) ≡ Some k → (Some j ≡ Some k) × (list_any (λ x. bytes_eq x k) keys ≡ false)
    at true e f = absurd (cc)
    at false e f = (f, subst (λ i. list_any (λ x. bytes_eq x i) keys ≡ false) (some_is f) e)

-- the three parts of a condition
whole_of : {d : ℕ} {a b e : List Token} {x : Condition} {f h : Condition → Condition} → g.ReadsUnary d a x → ((l : Condition) → g.ReadsAnds d l b (f l)) → ((l : Condition) → g.ReadsOrs d l e (h l))
    → g.ReadsCondition d ((a ++ b) ++ e) (h (f x))
whole_of {x = x} {f = f} p q r = g.condition (g.joined p (q x)) (r (f x))

regroup : (a b e f : List Token) → a ++ (b ++ (e ++ f)) ≡ ((a ++ b) ++ e) ++ f
regroup a b e f = simp append_assoc

plugin_part : (d : ℕ) (z : Token) (name : List ℕ) (a : List Token) (xs : Entries) → plugin_name z ≡ Some name → Inside d a (λ e b. g.ReadsSettings e [] b xs) → g.ReadsPlugin d (z ∷ a) (plugin_of name xs)
plugin_part d z name a xs e q = subst (λ n. g.ReadsPlugin n (z ∷ a) (plugin_of name xs)) (sym q.level) (to (λ l. g.ReadsPlugin (suc q.below) (z ∷ l) (plugin_of name xs)) q.whole (g.plugin e q.reads))

arm_part : (d : ℕ) (a b : List Token) (x : Condition) (xs : List Statement) → g.ReadsCondition d a x → Inside d b (λ e r. g.ReadsStatements e [] r xs) → g.ReadsArm d (a ++ b) (arm_of x xs)
arm_part d a b x xs p q = subst (λ n. g.ReadsArm n (a ++ b) (arm_of x xs)) (sym q.level) (to (λ l. g.ReadsArm (suc q.below) (a ++ l) (arm_of x xs)) q.whole (g.arm (subst (λ n. g.ReadsCondition n a x) q.level p) q.reads))

-- a section's block at its level
section_part : {A : Type 0} {d : ℕ} {a b : List Token} {xs : A} {all : Config} (r : ℕ → List Token → A → Type 0) (z : Token) (front with : Config) → ((e : ℕ) (c : List Token) → r e c xs → g.ReadsSections (suc e) with b all → g.ReadsSections (suc e) front (z ∷ t.OpenBrace ∷ (c ++ b)) all)
    → Inside d a (λ e c. r e c xs) → g.ReadsSections d with b all → g.ReadsSections d front (z ∷ (a ++ b)) all
section_part {d = d} {b = b} {all = all} r z front with rule q p =
    to (λ l. g.ReadsSections d front (z ∷ (l ++ b)) all) q.whole (subst (λ n. g.ReadsSections n front (z ∷ t.OpenBrace ∷ (q.rest ++ b)) all) (sym q.level) (rule q.below q.rest q.reads (subst (λ n. g.ReadsSections n with b all) q.level p)))

block_part : {A : Type 0} (r : ℕ → List Token → A → Type 0) (d : ℕ) (a : List Token) (xs : A) → r d a xs → Inside (suc d) (t.OpenBrace ∷ a) (λ e b. r e b xs)
block_part r d a xs q = record { below = d; rest = a; level = refl; whole = refl; reads = q }

named_statement : (z : Token) → Made y.Statements z (on_some (plugin_name z) (λ _. y.SettingsBlock ∷ y.Statements ∷ []) (λ name p front. p.1.0 (front ++ s.Plugin (plugin_of name p.0) ∷ [])))
named_statement z = made_some y.Statements z (plugin_name z) (λ _. y.SettingsBlock ∷ y.Statements ∷ []) (λ name p front. p.1.0 (front ++ s.Plugin (plugin_of name p.0) ∷ [])) (λ name e.
    ((λ d a xs q b f r front. g.plugin_statement (plugin_part d z name a xs e q) (r (front ++ s.Plugin (plugin_of name xs) ∷ []))), λ d. refl))

-- each entry of the table is a rule of the grammar
made_move : (x : Symbol) (z : Token) → Made x z (next x z)
made_move y.Value t.OpenBracket = ((λ d a xs q. g.array q), λ d. refl)
made_move y.Value t.OpenBrace = ((λ d a f q. g.hash (q [] refl)), λ d. refl)
made_move y.Value (t.Word a) = ((λ d b f q. g.bare refl (q (spelling a))), λ d. refl)
made_move y.Value z = made_some y.Value z (scalar z) (λ _. []) (λ x _. x) (λ x e. ((λ d. g.scalar_value e), λ d. refl))
made_move y.Nest t.OpenBrace = ((λ d a f q name. g.nested (q [])), λ d. refl)
made_move y.Nest _ = tt
made_move y.Members t.CloseBracket = λ d. g.no_item
made_move y.Members t.OpenBracket = ((λ d a xs q b f r. g.items (g.array q) (r (v.Array xs ∷ []))), λ d. refl)
made_move y.Members t.OpenBrace = ((λ d a h q b f r. g.items (g.hash (q [] refl)) (r (v.Hash (h []) ∷ []))), λ d. refl)
made_move y.Members (t.Word a) = ((λ d c h q b f r. g.items (g.bare refl (q (spelling a))) (r (h (spelling a) ∷ []))), λ d. refl)
made_move y.Members z = made_some y.Members z (scalar z) (λ _. y.More ∷ []) (λ x p. p.0 (x ∷ [])) (λ x e. ((λ d b f r. g.items (g.scalar_value e) (r (x ∷ []))), λ d. refl))
made_move y.More t.CloseBracket = λ d front. g.no_more
made_move y.More t.Comma = ((λ d a x q b f r front. g.more q (r (front ++ x ∷ []))), λ d. refl)
made_move y.More _ = tt
made_move (y.Pairs keys) t.CloseBrace = λ d front h. g.no_pair
made_move (y.Pairs keys) z = made_some (y.Pairs keys) z (fresh keys (key z)) (λ k. y.Arrow ∷ y.Value ∷ y.Pairs (keys ++ k ∷ []) ∷ []) (λ k p front. p.1.1.0 (front ++ (k, p.1.0) ∷ [])) (λ k e. (
  (λ d a x q b f r front h. let new = fresh_ok keys k (key z) e in
      g.pair new.0 (sym (has_keys k front) ∙ ap (λ l. list_any (λ x. bytes_eq x k) l) h ∙ new.1) q (r (front ++ (k, x) ∷ []) (keys_more front k x ∙ ap (λ l. l ++ k ∷ []) h))),
  λ d. refl,
))
made_move y.Arrow t.Arrow = ((λ d. refl), λ d. refl)
made_move y.Arrow _ = tt
made_move y.Settings t.CloseBrace = λ d front. g.no_setting
made_move y.Settings z = made_some y.Settings z (setting_name z) (λ _. y.Arrow ∷ y.Value ∷ y.Settings ∷ []) (λ k p front. p.1.1.0 (with_setting k p.1.0 front)) (λ k e. ((λ d a x q b f r front. g.setting e q (r (with_setting k x front))), λ d. refl))
made_move y.SettingsBlock t.OpenBrace = ((λ d a f q. block_part (λ e b xs. g.ReadsSettings e [] b xs) d a (f []) (q [])), λ d. refl)
made_move y.SettingsBlock _ = tt
made_move y.Literal z = made_some y.Literal z (literal z) (λ _. []) (λ x _. x) (λ x e. ((λ d. record { token = z; whole = refl; told = e }), λ d. refl))
made_move y.Literals t.CloseBracket = λ d. g.no_literal
made_move y.Literals z = made_some y.Literals z (literal z) (λ _. y.MoreLiterals ∷ []) (λ x p. p.0 (x ∷ [])) (λ x e. ((λ d a f q. g.literals e (q (x ∷ []))), λ d. refl))
made_move y.MoreLiterals t.CloseBracket = λ d front. g.no_more_literal
made_move y.MoreLiterals t.Comma = ((λ d z x e a f q front. g.more_literals e (q (front ++ x ∷ []))), λ d. refl)
made_move y.MoreLiterals _ = tt
made_move y.Operand t.OpenBracket = ((λ d a xs q. g.list q), λ d. refl)
made_move y.Operand z = made_some y.Operand z (operand_token z) (λ _. []) (λ x _. x) (λ x e. ((λ d. g.one_token e), λ d. refl))
made_move y.Tail (t.Comparison j) = ((λ d a x q l. g.comparison q), λ d. refl)
made_move y.Tail (t.Matching j) = ((λ d z x e l. g.matching e), λ d. refl)
made_move y.Tail (t.Word w.In) = ((λ d a x q l. g.within q), λ d. refl)
made_move y.Tail (t.Word w.Not) = ((λ d a x q l. g.not_within q), λ d. refl)
made_move y.Tail (t.Word a) = tt
made_move y.Tail _ = tt
made_move y.Pattern z = made_some y.Pattern z (pattern z) (λ _. []) (λ x _. x) (λ x e. ((λ d. record { token = z; whole = refl; told = e }), λ d. refl))
made_move y.InWord (t.Word w.In) = ((λ d. refl), λ d. refl)
made_move y.InWord (t.Word a) = tt
made_move y.InWord _ = tt
made_move y.Unary t.Exclamation = ((λ d a x q b u n. to (λ l. g.ReadsUnary (suc d) (t.Exclamation ∷ l) (c.Not x)) (ap (λ l. a ++ l) n ∙ nil a) (g.negation q)), λ d. refl)
made_move y.Unary t.OpenParen = ((λ d a x q b f r e h s. to (λ l. g.ReadsUnary (suc d) (t.OpenParen ∷ l) (h (f x))) (regroup a b e (t.CloseParen ∷ [])) (g.group (whole_of q r s))), λ d. refl)
made_move y.Unary t.OpenBracket = ((λ d a xs q b f r. g.compare (g.list q) (r (o.List xs))), λ d. refl)
made_move y.Unary z = made_some y.Unary z (operand_token z) (λ _. y.Tail ∷ []) (λ x p. p.0 x) (λ x e. ((λ d b f r. g.compare (g.one_token e) (r x)), λ d. refl))
made_move y.Ands (t.Word (w.Conjunction j)) = ((λ d a x q b f r l. g.and q (r (conjoined j l x))), λ d. refl)
made_move y.Ands (t.Word a) = tt
made_move y.Ands _ = tt
made_move y.Ors (t.Word (w.Disjunction j)) = (
  (λ d a x q b f r e h s l. to (λ ts. g.ReadsOrs d l (t.Word (w.Disjunction j) ∷ ts) (h (disjoined j l (f x)))) (sym (append_assoc a b e)) (g.or (g.joined q (r x)) (s (disjoined j l (f x))))),
  λ d. refl,
)
made_move y.Ors (t.Word a) = tt
made_move y.Ors _ = tt
made_move y.NotEnd z = tt
made_move y.CloseParen t.CloseParen = λ d. refl
made_move y.CloseParen _ = tt
made_move y.Block t.OpenBrace = ((λ d a f q. block_part (λ e b xs. g.ReadsStatements e [] b xs) d a (f []) (q [])), λ d. refl)
made_move y.Block _ = tt
made_move y.Statements t.CloseBrace = λ d front. g.no_statement
made_move y.Statements (t.Word w.If) = (
  (λ d a x q b f r e h o_ i xs u k m v_ l n w_ front.
      let arm = arm_of (h (f x)) xs in
      to (λ ts. g.ReadsStatements d front (t.Word w.If ∷ ts) (n (front ++ s.Branch (m (arm ∷ [])) ∷ []))) (regroup a b e (i ++ (k ++ l)) ∙ sym (append_assoc ((a ++ b) ++ e) i (k ++ l)))
      (g.branch (arm_part d ((a ++ b) ++ e) i (h (f x)) xs (whole_of q r o_) u) (v_ (arm ∷ [])) (w_ (front ++ s.Branch (m (arm ∷ [])) ∷ [])))),
  λ d. refl,
)
made_move y.Statements (t.Word a) = named_statement (t.Word a)
made_move y.Statements z = named_statement z
made_move y.Otherwise (t.Word w.Else) = ((λ d a f q. q), λ d. refl)
made_move y.Otherwise (t.Word a) = tt
made_move y.Otherwise _ = tt
made_move y.ElseBody (t.Word w.If) = (
  (λ d a x q b f r e h o_ i xs u k m v_ front.
      let arm = arm_of (h (f x)) xs in
      to (λ ts. g.ReadsElse d front (t.Word w.Else ∷ t.Word w.If ∷ ts) (m (front ++ arm ∷ []))) (regroup a b e (i ++ k) ∙ sym (append_assoc ((a ++ b) ++ e) i k))
      (g.else_if (arm_part d ((a ++ b) ++ e) i (h (f x)) xs (whole_of q r o_) u) (v_ (front ++ arm ∷ [])))),
  λ d. refl,
)
made_move y.ElseBody (t.Word a) = tt
made_move y.ElseBody t.OpenBrace = ((λ d a f q front. g.else (q [])), λ d. refl)
made_move y.ElseBody _ = tt
made_move y.PluginsBlock t.OpenBrace = ((λ d a f q. block_part (λ e b xs. g.ReadsPlugins e [] b xs) d a (f []) (q [])), λ d. refl)
made_move y.PluginsBlock _ = tt
made_move y.Plugins t.CloseBrace = λ d front. g.no_plugin
made_move y.Plugins z = made_some y.Plugins z (plugin_name z) (λ _. y.SettingsBlock ∷ y.Plugins ∷ []) (λ name p front. p.1.0 (front ++ plugin_of name p.0 ∷ [])) (λ name e.
    ((λ d a xs q b f r front. g.plugins (plugin_part d z name a xs e q) (r (front ++ plugin_of name xs ∷ []))), λ d. refl))
made_move y.Sections (t.Word (w.Section kind.Input)) = ((λ d a xs q b f r front. section_part (λ e c xs. g.ReadsPlugins e [] c xs) (t.Word (w.Section kind.Input)) front (with_inputs front xs) (λ e c i p. g.input i p) q (r (with_inputs front xs))), λ d. refl)
made_move y.Sections (t.Word (w.Section kind.Filter)) = ((λ d a xs q b f r front. section_part (λ e c xs. g.ReadsStatements e [] c xs) (t.Word (w.Section kind.Filter)) front (with_filters front xs) (λ e c i p. g.filter i p) q (r (with_filters front xs))), λ d. refl)
made_move y.Sections (t.Word (w.Section kind.Output)) = ((λ d a xs q b f r front. section_part (λ e c xs. g.ReadsStatements e [] c xs) (t.Word (w.Section kind.Output)) front (with_outputs front xs) (λ e c i p. g.output i p) q (r (with_outputs front xs))), λ d. refl)
made_move y.Sections (t.Word a) = tt
made_move y.Sections _ = tt

-- what comes behind a symbol's move may open as many levels as what comes behind the symbol
abbrev pub Rises : {X : Type 0} → Symbol → Move X → Type 0
Rises x refuses = Unit {0}
Rises x (stays now made) = (d : ℕ) → levels d now ≡ rise x d
Rises x (opens now made) = (d : ℕ) → levels d now ≡ rise x (suc d)
Rises x (shuts v) = Unit {0}

made_rises : (x : Symbol) (z : Token) (m : Move (Sem x)) → Made x z m → Rises x m
made_rises x z refuses h = tt
made_rises x z (stays now made) h = h.1
made_rises x z (opens now made) h = h.1
made_rises x z (shuts v_) h = tt

pub rises : (x : Symbol) (z : Token) → Rises x (next x z)
rises x z = made_rises x z (next x z) (made_move x z)

abbrev Blank : (x : Symbol) → Option (Sem x) → Type 0
Blank x None = Unit {0}
Blank x (Some p) = (d : ℕ) → Of x d [] p

blank_of : (x : Symbol) → Blank x (blank x)
blank_of y.Nest = λ d name. g.no_nest
blank_of y.Tail = λ d x. g.alone
blank_of y.Ands = λ d l. g.no_and
blank_of y.Ors = λ d l. g.no_or
blank_of y.NotEnd = λ d. refl
blank_of y.Otherwise = λ d front. g.no_else
blank_of y.Sections = λ d front. g.no_section
blank_of y.Value = tt
blank_of _ = tt

record Apart (d : ℕ) (now k : Stack) (ts : List Token) (p : Sems (now ++ k)) : Type 0 where
  part : List Token
  rest : List Token
  whole : ts ≡ part ++ rest
  here : All d now part (front now k p)
  later : All (levels d now) k rest (back now k p)

apart : (d : ℕ) (now k : Stack) (ts : List Token) (p : Sems (now ++ k)) → All d (now ++ k) ts p → Apart d now k ts p
apart d [] k ts p q = record { part = []; rest = ts; whole = refl; here = refl; later = q }
apart d (x ∷ now) k ts p q =
    let r = apart (rise x d) now k q.rest p.1 q.later in
    record {
      part = q.part ++ r.part;
      rest = r.rest;
      whole = q.whole ∙ ap (λ l. q.part ++ l) r.whole ∙ sym (append_assoc q.part r.part r.rest);
      here = record { part = q.part; rest = r.part; whole = refl; here = q.here; later = r.here };
      later = r.later;
    }

-- what a step leaves is read
abbrev Left : List Token → Step → Type 0
Left ts stuck = ⊥
Left ts deep = ⊥
Left ts (goes e j) = (p : Sems j) × All e j ts p

act_back : (x : Symbol) (z : Token) (m : Move (Sem x)) (b : Option (Sem x)) (d : ℕ) (k : Stack) (ts : List Token) (pass : ℕ → Step) → Made x z m → Blank x b
    → ((e : ℕ) → Left ts (pass e) → (p : Sems k) × All e k (z ∷ ts) p) → Left ts (act m b (rise x) d k pass) → (p : Sems (x ∷ k)) × All d (x ∷ k) (z ∷ ts) p
act_back x z (stays now made) b d k ts pass h u again q =
    let r = apart d now k ts q.0 q.1 in (
      (made (front now k q.0), back now k q.0),
      record { part = z ∷ r.part; rest = r.rest; whole = ap (λ l. z ∷ l) r.whole; here = handled d now (λ a p. Of x d (z ∷ a) (made p)) (h.0 d) r.part (front now k q.0) r.here; later = subst (λ n. All n k r.rest (back now k q.0)) (h.1 d) r.later },
    )
act_back x z (opens now made) b zero k ts pass h u again q = absurd q
act_back x z (opens now made) b (suc d) k ts pass h u again q =
    let r = apart d now k ts q.0 q.1 in (
      (made (front now k q.0), back now k q.0),
      record { part = z ∷ r.part; rest = r.rest; whole = ap (λ l. z ∷ l) r.whole; here = handled d now (λ a p. Of x (suc d) (z ∷ a) (made p)) (h.0 d) r.part (front now k q.0) r.here; later = subst (λ n. All n k r.rest (back now k q.0)) (h.1 d) r.later },
    )
act_back x z (shuts v_) b d k ts pass h u again q = ((v_, q.0), record { part = z ∷ []; rest = ts; whole = refl; here = h d; later = q.1 })
act_back x z refuses None d k ts pass h u again q = absurd q
act_back x z refuses (Some v_) d k ts pass h u again q =
    let r = again (rise x d) q in ((v_, r.0), record { part = []; rest = z ∷ ts; whole = refl; here = u d; later = r.1 })

step_back : (d : ℕ) (k : Stack) (z : Token) (ts : List Token) → Left ts (step d k z) → (p : Sems k) × All d k (z ∷ ts) p
step_back d [] z ts q = absurd q
step_back d (x ∷ k) z ts q = act_back x z (next x z) (blank x) d k ts (λ e. step e k z) (made_move x z) (blank_of x) (λ e r. step_back e k z ts r) q

end_back : (d : ℕ) (k : Stack) → may_end k ≡ true → (p : Sems k) × All d k [] p
end_back d [] h = (tt, refl)
end_back d (x ∷ k) h = at (blank x) (blank_of x) (λ g. end_back (rise x d) k g) h
  where
    at : (b : Option (Sem x)) → Blank x b → (may_end k ≡ true → (p : Sems k) × All (rise x d) k [] p) → (is_blank b && may_end k) ≡ true → (p : Sems (x ∷ k)) × All d (x ∷ k) [] p
    at None u again g = absurd (cc)
    at (Some v_) u again g = let r = again g in ((v_, r.0), record { part = []; rest = []; whole = refl; here = u d; later = r.1 })

-- what the machine takes
run_back : (d : ℕ) (k : Stack) (ts : List Token) → verdict_from d k ts ≡ is.Reads → (p : Sems k) × All d k ts p
run_back d k [] h = end_back d k (ended (may_end k) h)
  where
    ended : (b : Bool) → ends b ≡ is.Reads → b ≡ true
    ended true g = refl
    ended false g = absurd (cc)
run_back d k (z ∷ ts) h = step_back d k z ts (at (step d k z) (λ e j g. run_back e j ts g) h)
  where
    at : (r : Step) → ((e : ℕ) (j : Stack) → verdict_from e j ts ≡ is.Reads → (p : Sems j) × All e j ts p) → go r (suc (length ts)) (λ e j. verdict_from e j ts) ≡ is.Reads → Left ts r
    at stuck again g = absurd (cc)
    at deep again g = absurd (cc)
    at (goes e j) again g = again e j g

pub taken : (d : ℕ) (ts : List Token) → verdict_from d (y.Sections ∷ []) ts ≡ is.Reads → (all : Config) × g.ReadsConfig d ts all
taken d ts h =
    let r = run_back d (y.Sections ∷ []) ts h in
    (r.0.0 empty, to (λ l. g.ReadsConfig d l (r.0.0 empty)) (pad r.1.part r.1.whole r.1.later) (r.1.here empty))
