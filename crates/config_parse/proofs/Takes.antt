-- What the grammar reads, the machine takes: each derivation is a run, which makes its tree.
use Rattle.std.proofs.Common.{◌≡◌, ℕ, zero, suc, List, [], ◌∷◌, ◌++◌, length, map, Option, Some, None, Result, Ok, Bool, true, false, cond, ◌||◌, refl, ap, sym, ◌∙◌, bytes_eq, append_assoc}
use Rattle.std.specs.List.{list_any}
use Rattle.config_lex.specs.declared.token.Token.{Token}
use Rattle.config_lex.specs.declared.token.Token.TheVariants as t
use Rattle.config_lex.specs.declared.token.Word.TheVariants as w
use Rattle.config_tree.specs.declared.tree.SettingValue.{SettingValue}
use Rattle.config_tree.specs.declared.tree.SettingValue.TheVariants as v
use Rattle.config_tree.specs.declared.tree.Condition.{Condition}
use Rattle.config_tree.specs.declared.tree.Condition.TheVariants as c
use Rattle.config_tree.specs.declared.tree.Operand.{Operand}
use Rattle.config_tree.specs.declared.tree.Operand.TheVariants as o
use Rattle.config_tree.specs.declared.tree.Literal.{Literal}
use Rattle.config_tree.specs.declared.tree.Plugin.{Plugin}
use Rattle.config_tree.specs.declared.tree.Arm.{Arm}
use Rattle.config_tree.specs.declared.tree.Statement.{Statement}
use Rattle.config_tree.specs.declared.tree.Statement.TheVariants as s
use Rattle.config_tree.specs.declared.tree.Config.{Config}
use Rattle.config_parse.specs.Grammar as g
use Rattle.config_parse.specs.Words.{bareword, setting_name, plugin_name, key, scalar, literal, operand_token}
use Rattle.config_tree.specs.Joints.{conjoined, disjoined}
use Rattle.config_tree.specs.Joining.{Entries, has, with_setting, plugin_of, with_inputs, with_filters, with_outputs}
use Rattle.config_parse.specs.Symbols.{Symbol}
use Rattle.config_parse.specs.Symbols as y
use Rattle.config_parse.specs.Machine.{Stack, Sem, Sems, Move, refuses, stays, opens, shuts, on_some, fresh, next, blank, rise, condition, arm_of, last_arm}
use Rattle.config_parse.specs.Verdicts.{Verdict}
use Rattle.config_parse.specs.Trees.{act_with, step_with, end_blank, end_with, run_with}

pub some_is : {A : Type 0} {a b : A} → Some a ≡ Some b → a ≡ b
some_is h = cc

pub ok_is : {A : Type 0} {a b : A} → ◌≡◌ {A = Result A Verdict} (Ok a) (Ok b) → a ≡ b
ok_is h = cc

abbrev pub is_refusal : {X : Type 0} → Move X → Bool
is_refusal refuses = true
is_refusal _ = false

-- the symbol doesn't take the first token
abbrev pub refused : Symbol → List Token → Bool
refused x [] = true
refused x (z ∷ ts) = is_refusal (next x z)

-- nor do those that may be left out behind an operand, and behind a condition
abbrev CalmAnd : List Token → Type 0
CalmAnd ts = (refused y.Ands ts ≡ true) × (refused y.Tail ts ≡ true)

abbrev CalmOr : List Token → Type 0
CalmOr ts = (refused y.Ors ts ≡ true) × CalmAnd ts

-- tokens by what they stand for
scalar_move : (z : Token) (x : SettingValue) → scalar z ≡ Some x → next y.Value z ≡ stays [] (λ _. x)
scalar_move t.OpenBracket x h = absurd (cc)
scalar_move t.OpenBrace x h = absurd (cc)
scalar_move (t.Word a) x h = absurd (cc)
scalar_move z x h = ap (λ o. on_some o (λ _. []) (λ x _. x)) h

bare_move : (z : Token) (name : List ℕ) → bareword z ≡ Some name → next y.Value z ≡ stays (y.Nest ∷ []) (λ p. p.0 name)
bare_move (t.Word a) name h = ap (λ n. stays (y.Nest ∷ []) (λ p. p.0 n)) (some_is h)
bare_move z name h = absurd (cc)

setting_move : (z : Token) (k : List ℕ) → setting_name z ≡ Some k → next y.Settings z ≡ stays (y.Arrow ∷ y.Value ∷ y.Settings ∷ []) (λ p front. p.1.1.0 (with_setting k p.1.0 front))
setting_move t.CloseBrace k h = absurd (cc)
setting_move z k h = ap (λ o. on_some o (λ _. y.Arrow ∷ y.Value ∷ y.Settings ∷ []) (λ k p front. p.1.1.0 (with_setting k p.1.0 front))) h

literals_move : (z : Token) (x : Literal) → literal z ≡ Some x → next y.Literals z ≡ stays (y.MoreLiterals ∷ []) (λ p. p.0 (x ∷ []))
literals_move t.CloseBracket x h = absurd (cc)
literals_move z x h = ap (λ o. on_some o (λ _. y.MoreLiterals ∷ []) (λ x p. p.0 (x ∷ []))) h

operand_move : (z : Token) (x : Operand) → operand_token z ≡ Some x → next y.Operand z ≡ stays [] (λ _. x)
operand_move t.OpenBracket x h = absurd (cc)
operand_move z x h = ap (λ o. on_some o (λ _. []) (λ x _. x)) h

unary_move : (z : Token) (x : Operand) → operand_token z ≡ Some x → next y.Unary z ≡ stays (y.Tail ∷ []) (λ p. p.0 x)
unary_move t.OpenBracket x h = absurd (cc)
unary_move t.OpenParen x h = absurd (cc)
unary_move t.Exclamation x h = absurd (cc)
unary_move z x h = ap (λ o. on_some o (λ _. y.Tail ∷ []) (λ x p. p.0 x)) h

statement_move : (z : Token) (name : List ℕ) → plugin_name z ≡ Some name → next y.Statements z ≡ stays (y.SettingsBlock ∷ y.Statements ∷ []) (λ p front. p.1.0 (front ++ s.Plugin (plugin_of name p.0) ∷ []))
statement_move t.CloseBrace name h = absurd (cc)
statement_move (t.Word w.If) name h = absurd (cc)
statement_move (t.Word a) name h = ap (λ o. on_some o (λ _. y.SettingsBlock ∷ y.Statements ∷ []) (λ name p front. p.1.0 (front ++ s.Plugin (plugin_of name p.0) ∷ []))) h
statement_move z name h = ap (λ o. on_some o (λ _. y.SettingsBlock ∷ y.Statements ∷ []) (λ name p front. p.1.0 (front ++ s.Plugin (plugin_of name p.0) ∷ []))) h

plugin_move : (z : Token) (name : List ℕ) → plugin_name z ≡ Some name → next y.Plugins z ≡ stays (y.SettingsBlock ∷ y.Plugins ∷ []) (λ p front. p.1.0 (front ++ plugin_of name p.0 ∷ []))
plugin_move t.CloseBrace name h = absurd (cc)
plugin_move z name h = ap (λ o. on_some o (λ _. y.SettingsBlock ∷ y.Plugins ∷ []) (λ name p front. p.1.0 (front ++ plugin_of name p.0 ∷ []))) h

abbrev pub keys_of : Entries → List (List ℕ)
keys_of front = map (λ e. e.0) front

pub keys_more : (front : Entries) (k : List ℕ) (x : SettingValue) → keys_of (front ++ (k, x) ∷ []) ≡ keys_of front ++ k ∷ []
keys_more [] k x = refl
keys_more (e ∷ front) k x = ap (λ l. e.0 ∷ l) (keys_more front k x)

pub has_keys : (k : List ℕ) (front : Entries) → list_any (λ x. bytes_eq x k) (keys_of front) ≡ has k front
has_keys k [] = refl
has_keys k (e ∷ front) = ap (λ b. bytes_eq e.0 k || b) (has_keys k front)

fresh_is : (k : List ℕ) (front : Entries) (o : Option (List ℕ)) → o ≡ Some k → has k front ≡ false → fresh (keys_of front) o ≡ Some k
fresh_is k front o h u = ap (fresh (keys_of front)) h ∙ ap (λ b. cond b None (Some k)) (has_keys k front ∙ u)

pair_move : (z : Token) (k : List ℕ) (front : Entries) → key z ≡ Some k → has k front ≡ false
    → next (y.Pairs (keys_of front)) z ≡ stays (y.Arrow ∷ y.Value ∷ y.Pairs (keys_of front ++ k ∷ []) ∷ []) (λ p front. p.1.1.0 (front ++ (k, p.1.0) ∷ []))
pair_move t.CloseBrace k front h u = absurd (cc)
pair_move z k front h u = ap (λ o. on_some o (λ k. y.Arrow ∷ y.Value ∷ y.Pairs (keys_of front ++ k ∷ []) ∷ []) (λ k p front. p.1.1.0 (front ++ (k, p.1.0) ∷ []))) (fresh_is k front (key z) h u)

-- what stands behind a value begins with no `{`
more_open : {d : ℕ} {front xs : List SettingValue} {b : List Token} → g.ReadsMore d front b xs → (rest : List Token) → refused y.Nest (b ++ rest) ≡ true
more_open g.no_more rest = refl
more_open (g.more p q) rest = refl

key_open : (z : Token) (k : List ℕ) (ts : List Token) → key z ≡ Some k → refused y.Nest (z ∷ ts) ≡ true
key_open t.OpenBrace k ts h = absurd (cc)
key_open z k ts h = refl

pairs_open : {d : ℕ} {front xs : Entries} {b : List Token} → g.ReadsPairs d front b xs → (rest : List Token) → refused y.Nest (b ++ rest) ≡ true
pairs_open g.no_pair rest = refl
pairs_open (g.pair {k = k} {y = z} {a = a} {b = b} e u p q) rest = key_open z k (t.Arrow ∷ ((a ++ b) ++ rest)) e

name_open : (z : Token) (k : List ℕ) (ts : List Token) → setting_name z ≡ Some k → refused y.Nest (z ∷ ts) ≡ true
name_open t.OpenBrace k ts h = absurd (cc)
name_open z k ts h = refl

settings_open : {d : ℕ} {front xs : Entries} {b : List Token} → g.ReadsSettings d front b xs → (rest : List Token) → refused y.Nest (b ++ rest) ≡ true
settings_open g.no_setting rest = refl
settings_open (g.setting {k = k} {y = z} {a = a} {b = b} e p q) rest = name_open z k (t.Arrow ∷ ((a ++ b) ++ rest)) e

abbrev no_close : List Token → Bool
no_close (t.CloseBracket ∷ ts) = false
no_close _ = true

value_close : {d : ℕ} {x : SettingValue} {a : List Token} → g.ReadsValue d a x → (rest : List Token) → no_close (a ++ rest) ≡ true
value_close (g.scalar_value {y = z} {x = x} e) rest = at z x e
  where
    at : (z : Token) (x : SettingValue) → scalar z ≡ Some x → no_close (z ∷ rest) ≡ true
    at t.CloseBracket x e = absurd (cc)
    at z x e = refl
value_close (g.bare {name = n} {y = z} {a = a} e q) rest = at z n (a ++ rest) e
  where
    at : (z : Token) (n : List ℕ) (ts : List Token) → bareword z ≡ Some n → no_close (z ∷ ts) ≡ true
    at t.CloseBracket n ts e = absurd (cc)
    at z n ts e = refl
value_close (g.array q) rest = refl
value_close (g.hash q) rest = refl

ands_calm : {d : ℕ} {l x : Condition} {b : List Token} → g.ReadsAnds d l b x → (rest : List Token) → CalmAnd rest → refused y.Tail (b ++ rest) ≡ true
ands_calm g.no_and rest h = h.1
ands_calm (g.and p q) rest h = refl

ors_calm : {d : ℕ} {l x : Condition} {b : List Token} → g.ReadsOrs d l b x → (rest : List Token) → CalmOr rest → CalmAnd (b ++ rest)
ors_calm g.no_or rest h = h.1
ors_calm (g.or p q) rest h = (refl, refl)

name_calm : (z : Token) (n : List ℕ) (ts : List Token) → plugin_name z ≡ Some n → refused y.Otherwise (z ∷ ts) ≡ true
name_calm (t.Word w.Else) n ts h = absurd (cc)
name_calm (t.Word a) n ts h = refl
name_calm z n ts h = refl

statements_calm : {d : ℕ} {front xs : List Statement} {b : List Token} → g.ReadsStatements d front b xs → (rest : List Token) → refused y.Otherwise (b ++ rest) ≡ true
statements_calm g.no_statement rest = refl
statements_calm (g.plugin_statement {b = b} (g.plugin {name = n} {y = z} {a = a} e q) r) rest = name_calm z n (t.OpenBrace ∷ ((a ++ b) ++ rest)) e
statements_calm (g.branch p q r) rest = refl

pub never : (ts : List Token) → refused y.NotEnd ts ≡ true
never [] = refl
never (z ∷ ts) = refl

module _ {R : Type 0} where
  moved : (d : ℕ) (x : Symbol) (k : Stack) (f : Sem x × Sems k → R) (z : Token) (ts : List Token) (m : Move (Sem x)) → next x z ≡ m
      → run_with d (x ∷ k) f (z ∷ ts) ≡ act_with m (blank x) (rise x) (suc (length ts)) d k f (λ e j h. run_with e j h ts) (λ e h. step_with (suc (length ts)) e k h z (λ e j h. run_with e j h ts))
  moved d x k f z ts m h = ap (λ m. act_with m (blank x) (rise x) (suc (length ts)) d k f (λ e j h. run_with e j h ts) (λ e h. step_with (suc (length ts)) e k h z (λ e j h. run_with e j h ts))) h

  -- a symbol that may be left out is, where it doesn't take the token
  skip : (x : Symbol) (v : Sem x) → blank x ≡ Some v → (d : ℕ) (k : Stack) (f : Sem x × Sems k → R) (ts : List Token) → refused x ts ≡ true → run_with d (x ∷ k) f ts ≡ run_with (rise x d) k (λ p. f (v, p)) ts
  skip x v b d k f [] h = ap (λ o. end_blank o (λ u. end_with k (λ p. f (u, p)))) b
  skip x v b d k f (z ∷ ts) h = ap (λ o. act_with (next x z) o (rise x) (suc (length ts)) d k f (λ e j h. run_with e j h ts) (λ e h. step_with (suc (length ts)) e k h z (λ e j h. run_with e j h ts))) b ∙ at (next x z) h
    where
      at : (m : Move (Sem x)) → is_refusal m ≡ true → act_with m (Some v) (rise x) (suc (length ts)) d k f (λ e j h. run_with e j h ts) (λ e h. step_with (suc (length ts)) e k h z (λ e j h. run_with e j h ts)) ≡ run_with (rise x d) k (λ p. f (v, p)) (z ∷ ts)
      at refuses e = refl
      at (stays now made) e = absurd (cc)
      at (opens now made) e = absurd (cc)
      at (shuts u) e = absurd (cc)

  lead : (d : ℕ) (k : Stack) (h : List SettingValue → Sems k → R) (ts : List Token) → no_close ts ≡ true
      → run_with d (y.Members ∷ k) (λ p. h p.0 p.1) ts ≡ run_with d (y.Value ∷ y.More ∷ k) (λ p. h (p.1.0 (p.0 ∷ [])) p.1.1) ts
  lead d k h [] e = refl
  lead d k h (t.CloseBracket ∷ ts) e = absurd (cc)
  lead zero k h (t.OpenBracket ∷ ts) e = refl
  lead (suc d) k h (t.OpenBracket ∷ ts) e = refl
  lead zero k h (t.OpenBrace ∷ ts) e = refl
  lead (suc d) k h (t.OpenBrace ∷ ts) e = refl
  lead d k h (z ∷ ts) e = refl

  mutual
    take_value : {d : ℕ} {a : List Token} {x : SettingValue} → g.ReadsValue d a x → (k : Stack) (f : SettingValue × Sems k → R) (rest : List Token) → refused y.Nest rest ≡ true
        → run_with d (y.Value ∷ k) f (a ++ rest) ≡ run_with d k (λ p. f (x, p)) rest
    take_value (g.scalar_value {d} {y = z} {x = x} e) k f rest h = moved d y.Value k f z rest (stays [] (λ _. x)) (scalar_move z x e)
    take_value (g.bare {d} {name = name} {y = z} {a = a} {x = x} e q) k f rest h = moved d y.Value k f z (a ++ rest) (stays (y.Nest ∷ []) (λ p. p.0 name)) (bare_move z name e) ∙ take_nest q k (λ x p. f (x, p)) rest h
    take_value (g.array q) k f rest h = take_members q k (λ xs p. f (v.Array xs, p)) rest
    take_value (g.hash q) k f rest h = take_pairs q k (λ xs p. f (v.Hash xs, p)) rest

    take_nest : {d : ℕ} {name : List ℕ} {a : List Token} {x : SettingValue} → g.ReadsNest d name a x → (k : Stack) (h : SettingValue → Sems k → R) (rest : List Token) → refused y.Nest rest ≡ true
        → run_with d (y.Nest ∷ k) (λ p. h (p.0 name) p.1) (a ++ rest) ≡ run_with d k (h x) rest
    take_nest (g.no_nest {d} {name}) k h rest e = skip y.Nest (λ name. v.Text name) refl d k (λ p. h (p.0 name) p.1) rest e
    take_nest (g.nested {d} {name} q) k h rest e = take_settings q k (λ xs. h (v.Nested (plugin_of name xs))) rest

    take_members : {d : ℕ} {a : List Token} {xs : List SettingValue} → g.ReadsItems d a xs → (k : Stack) (h : List SettingValue → Sems k → R) (rest : List Token)
        → run_with d (y.Members ∷ k) (λ p. h p.0 p.1) (a ++ rest) ≡ run_with (suc d) k (h xs) rest
    take_members g.no_item k h rest = refl
    take_members (g.items {d} {a} {b} {x} {xs} p q) k h rest =
        ap (run_with d (y.Members ∷ k) (λ p. h p.0 p.1)) (append_assoc a b rest) ∙ lead d k h (a ++ (b ++ rest)) (value_close p (b ++ rest))
        ∙ take_value p (y.More ∷ k) (λ p. h (p.1.0 (p.0 ∷ [])) p.1.1) (b ++ rest) (more_open q rest) ∙ take_more q k h rest

    take_more : {d : ℕ} {front : List SettingValue} {a : List Token} {xs : List SettingValue} → g.ReadsMore d front a xs → (k : Stack) (h : List SettingValue → Sems k → R) (rest : List Token)
        → run_with d (y.More ∷ k) (λ p. h (p.0 front) p.1) (a ++ rest) ≡ run_with (suc d) k (h xs) rest
    take_more g.no_more k h rest = refl
    take_more (g.more {d} {front} {a} {b} {x} {xs} p q) k h rest =
        let f = λ (p : SettingValue × ((List SettingValue → List SettingValue) × Sems k)). h (p.1.0 (front ++ p.0 ∷ [])) p.1.1 in
        ap (run_with d (y.Value ∷ y.More ∷ k) f) (append_assoc a b rest) ∙ take_value p (y.More ∷ k) f (b ++ rest) (more_open q rest) ∙ take_more q k h rest

    take_pairs : {d : ℕ} {front : Entries} {a : List Token} {xs : Entries} → g.ReadsPairs d front a xs → (k : Stack) (h : Entries → Sems k → R) (rest : List Token)
        → run_with d (y.Pairs (keys_of front) ∷ k) (λ p. h (p.0 front) p.1) (a ++ rest) ≡ run_with (suc d) k (h xs) rest
    take_pairs g.no_pair k h rest = refl
    take_pairs (g.pair {d} {k = n} {front = front} {y = z} {a = a} {b = b} {x = x} {xs = xs} e u p q) k h rest =
        let f = λ (p : SettingValue × ((Entries → Entries) × Sems k)). h (p.1.0 (front ++ (n, p.0) ∷ [])) p.1.1 in
        moved d (y.Pairs (keys_of front)) k (λ p. h (p.0 front) p.1) z (t.Arrow ∷ ((a ++ b) ++ rest)) _ (pair_move z n front e u)
        ∙ ap (run_with d (y.Value ∷ y.Pairs (keys_of front ++ n ∷ []) ∷ k) f) (append_assoc a b rest) ∙ take_value p (y.Pairs (keys_of front ++ n ∷ []) ∷ k) f (b ++ rest) (pairs_open q rest)
        ∙ ap (λ ks. run_with d (y.Pairs ks ∷ k) (λ p. h (p.0 (front ++ (n, x) ∷ [])) p.1) (b ++ rest)) (sym (keys_more front n x)) ∙ take_pairs q k h rest

    take_settings : {d : ℕ} {front : Entries} {a : List Token} {xs : Entries} → g.ReadsSettings d front a xs → (k : Stack) (h : Entries → Sems k → R) (rest : List Token)
        → run_with d (y.Settings ∷ k) (λ p. h (p.0 front) p.1) (a ++ rest) ≡ run_with (suc d) k (h xs) rest
    take_settings g.no_setting k h rest = refl
    take_settings (g.setting {d} {k = n} {front = front} {y = z} {a = a} {b = b} {x = x} {xs = xs} e p q) k h rest =
        let f = λ (p : SettingValue × ((Entries → Entries) × Sems k)). h (p.1.0 (with_setting n p.0 front)) p.1.1 in
        moved d y.Settings k (λ p. h (p.0 front) p.1) z (t.Arrow ∷ ((a ++ b) ++ rest)) _ (setting_move z n e)
        ∙ ap (run_with d (y.Value ∷ y.Settings ∷ k) f) (append_assoc a b rest) ∙ take_value p (y.Settings ∷ k) f (b ++ rest) (settings_open q rest) ∙ take_settings q k h rest

  take_more_literals : (d : ℕ) {front : List Literal} {a : List Token} {xs : List Literal} → g.ReadsMoreLiterals front a xs → (k : Stack) (h : List Literal → Sems k → R) (rest : List Token)
      → run_with d (y.MoreLiterals ∷ k) (λ p. h (p.0 front) p.1) (a ++ rest) ≡ run_with (suc d) k (h xs) rest
  take_more_literals d g.no_more_literal k h rest = refl
  take_more_literals d (g.more_literals {y = z} {front = front} {a = a} {x = x} e q) k h rest =
      moved d y.Literal (y.MoreLiterals ∷ k) (λ p. h (p.1.0 (front ++ p.0 ∷ [])) p.1.1) z (a ++ rest) (stays [] (λ _. x)) (ap (λ o. on_some o (λ _. []) (λ x _. x)) e) ∙ take_more_literals d q k h rest

  take_literals : (d : ℕ) {a : List Token} {xs : List Literal} → g.ReadsLiterals a xs → (k : Stack) (h : List Literal → Sems k → R) (rest : List Token)
      → run_with d (y.Literals ∷ k) (λ p. h p.0 p.1) (a ++ rest) ≡ run_with (suc d) k (h xs) rest
  take_literals d g.no_literal k h rest = refl
  take_literals d (g.literals {y = z} {a = a} {x = x} e q) k h rest =
      moved d y.Literals k (λ p. h p.0 p.1) z (a ++ rest) _ (literals_move z x e) ∙ take_more_literals d q k h rest

  take_operand : {d : ℕ} {a : List Token} {x : Operand} → g.ReadsOperand d a x → (k : Stack) (f : Operand × Sems k → R) (rest : List Token) → run_with d (y.Operand ∷ k) f (a ++ rest) ≡ run_with d k (λ p. f (x, p)) rest
  take_operand (g.one_token {d} {y = z} {x = x} e) k f rest = moved d y.Operand k f z rest (stays [] (λ _. x)) (operand_move z x e)
  take_operand (g.list {d} q) k f rest = take_literals d q k (λ xs p. f (o.List xs, p)) rest

  take_first : {d : ℕ} {a : List Token} {x : Operand} → g.ReadsOperand d a x → (k : Stack) (f : Condition × Sems k → R) (rest : List Token) → run_with d (y.Unary ∷ k) f (a ++ rest) ≡ run_with d (y.Tail ∷ k) (λ p. f (p.0 x, p.1)) rest
  take_first (g.one_token {d} {y = z} {x = x} e) k f rest = moved d y.Unary k f z rest (stays (y.Tail ∷ []) (λ p. p.0 x)) (unary_move z x e)
  take_first (g.list {d} q) k f rest = take_literals d q (y.Tail ∷ k) (λ xs p. f (p.0 (o.List xs), p.1)) rest

  take_tail : {d : ℕ} {x : Operand} {a : List Token} {r : Condition} → g.ReadsTail d x a r → (k : Stack) (h : Condition → Sems k → R) (rest : List Token) → refused y.Tail rest ≡ true
      → run_with d (y.Tail ∷ k) (λ p. h (p.0 x) p.1) (a ++ rest) ≡ run_with d k (h r) rest
  take_tail (g.alone {d} {x}) k h rest e = skip y.Tail (λ x. c.Operand x) refl d k (λ p. h (p.0 x) p.1) rest e
  take_tail (g.comparison {x = x} {j = j} q) k h rest e = take_operand q k (λ p. h (c.Compared j x p.0) p.1) rest
  take_tail (g.matching {d} {x = x} {j = j} {y = z} {q = q} u) k h rest e = moved d y.Pattern k (λ p. h (c.Matched j x p.0) p.1) z rest (stays [] (λ _. q)) (ap (λ o. on_some o (λ _. []) (λ x _. x)) u)
  take_tail (g.within {x = x} q) k h rest e = take_operand q k (λ p. h (c.In x p.0) p.1) rest
  take_tail (g.not_within {x = x} q) k h rest e = take_operand q k (λ p. h (c.NotIn x p.0) p.1) rest

  mutual
    take_unary : {d : ℕ} {a : List Token} {x : Condition} → g.ReadsUnary d a x → (k : Stack) (f : Condition × Sems k → R) (rest : List Token) → refused y.Tail rest ≡ true
        → run_with d (y.Unary ∷ k) f (a ++ rest) ≡ run_with d k (λ p. f (x, p)) rest
    take_unary (g.compare {d} {a} {b} p q) k f rest e = ap (run_with d (y.Unary ∷ k) f) (append_assoc a b rest) ∙ take_first p k f (b ++ rest) ∙ take_tail q k (λ x p. f (x, p)) rest e
    take_unary (g.negation {d} {a} {x} p) k f rest e = take_unary p (y.NotEnd ∷ k) (λ p. f (c.Not p.0, p.1.1)) rest e ∙ skip y.NotEnd tt refl d k (λ p. f (c.Not x, p.1)) rest (never rest)
    take_unary (g.group {d} {a} {x} p) k f rest e =
        ap (run_with d (condition (y.CloseParen ∷ k)) (λ p. f (p.1.1.0 (p.1.0 p.0), p.1.1.1.1))) (append_assoc a (t.CloseParen ∷ []) rest) ∙ take_condition p (y.CloseParen ∷ k) (λ x p. f (x, p.1)) (t.CloseParen ∷ rest) (refl, (refl, refl))

    take_joined : {d : ℕ} {a : List Token} {x : Condition} → g.ReadsJoined d a x → (k : Stack) (h : Condition → Sems k → R) (rest : List Token) → CalmAnd rest
        → run_with d (y.Unary ∷ y.Ands ∷ k) (λ p. h (p.1.0 p.0) p.1.1) (a ++ rest) ≡ run_with d k (h x) rest
    take_joined (g.joined {d} {a} {b} p q) k h rest e =
        ap (run_with d (y.Unary ∷ y.Ands ∷ k) (λ p. h (p.1.0 p.0) p.1.1)) (append_assoc a b rest) ∙ take_unary p (y.Ands ∷ k) (λ p. h (p.1.0 p.0) p.1.1) (b ++ rest) (ands_calm q rest e) ∙ take_ands q k h rest e

    take_ands : {d : ℕ} {l : Condition} {a : List Token} {x : Condition} → g.ReadsAnds d l a x → (k : Stack) (h : Condition → Sems k → R) (rest : List Token) → CalmAnd rest
        → run_with d (y.Ands ∷ k) (λ p. h (p.0 l) p.1) (a ++ rest) ≡ run_with d k (h x) rest
    take_ands (g.no_and {d} {x = l}) k h rest e = skip y.Ands (λ x. x) refl d k (λ p. h (p.0 l) p.1) rest e.0
    take_ands (g.and {d} {j} {a} {b} {l} p q) k h rest e =
        let f = λ (p : Condition × ((Condition → Condition) × Sems k)). h (p.1.0 (conjoined j l p.0)) p.1.1 in
        ap (run_with d (y.Unary ∷ y.Ands ∷ k) f) (append_assoc a b rest) ∙ take_unary p (y.Ands ∷ k) f (b ++ rest) (ands_calm q rest e) ∙ take_ands q k h rest e

    take_condition : {d : ℕ} {a : List Token} {x : Condition} → g.ReadsCondition d a x → (k : Stack) (h : Condition → Sems k → R) (rest : List Token) → CalmOr rest
        → run_with d (condition k) (λ p. h (p.1.1.0 (p.1.0 p.0)) p.1.1.1) (a ++ rest) ≡ run_with d k (h x) rest
    take_condition (g.condition {d} {a} {b} p q) k h rest e =
        ap (run_with d (condition k) (λ p. h (p.1.1.0 (p.1.0 p.0)) p.1.1.1)) (append_assoc a b rest) ∙ take_joined p (y.Ors ∷ k) (λ x p. h (p.0 x) p.1) (b ++ rest) (ors_calm q rest e) ∙ take_ors q k h rest e

    take_ors : {d : ℕ} {l : Condition} {a : List Token} {x : Condition} → g.ReadsOrs d l a x → (k : Stack) (h : Condition → Sems k → R) (rest : List Token) → CalmOr rest
        → run_with d (y.Ors ∷ k) (λ p. h (p.0 l) p.1) (a ++ rest) ≡ run_with d k (h x) rest
    take_ors (g.no_or {d} {x = l}) k h rest e = skip y.Ors (λ x. x) refl d k (λ p. h (p.0 l) p.1) rest e.0
    take_ors (g.or {d} {j} {a} {b} {l} p q) k h rest e =
        ap (run_with d (condition k) (λ p. h (p.1.1.0 (disjoined j l (p.1.0 p.0))) p.1.1.1)) (append_assoc a b rest) ∙ take_joined p (y.Ors ∷ k) (λ x p. h (p.0 (disjoined j l x)) p.1) (b ++ rest) (ors_calm q rest e) ∙ take_ors q k h rest e

  mutual
    take_statements : {d : ℕ} {front : List Statement} {a : List Token} {xs : List Statement} → g.ReadsStatements d front a xs → (k : Stack) (h : List Statement → Sems k → R) (rest : List Token)
        → run_with d (y.Statements ∷ k) (λ p. h (p.0 front) p.1) (a ++ rest) ≡ run_with (suc d) k (h xs) rest
    take_statements g.no_statement k h rest = refl
    take_statements (g.plugin_statement {b = b} {front = front} (g.plugin {d} {name = n} {y = z} {a = a} {xs = xs} e q) r) k h rest =
        let f = λ (p : (Entries → Entries) × ((List Statement → List Statement) × Sems k)). h (p.1.0 (front ++ s.Plugin (plugin_of n (p.0 [])) ∷ [])) p.1.1 in
        moved (suc d) y.Statements k (λ p. h (p.0 front) p.1) z (t.OpenBrace ∷ ((a ++ b) ++ rest)) _ (statement_move z n e)
        ∙ ap (run_with d (y.Settings ∷ y.Statements ∷ k) f) (append_assoc a b rest)
        ∙ take_settings q (y.Statements ∷ k) (λ xs p. h (p.0 (front ++ s.Plugin (plugin_of n xs) ∷ [])) p.1) (b ++ rest) ∙ take_statements r k h rest
    take_statements (g.branch {d} {a} {b} {e} {x} {arms} {front} p q r) k h rest =
        let f = λ (p : Sems (condition (y.Block ∷ y.Otherwise ∷ y.Statements ∷ k))). h (p.1.1.1.1.1.0 (front ++ s.Branch (p.1.1.1.1.0 (arm_of (p.1.1.0 (p.1.0 p.0)) p.1.1.1.0 ∷ [])) ∷ [])) p.1.1.1.1.1.1 in
        ap (run_with d (condition (y.Block ∷ y.Otherwise ∷ y.Statements ∷ k)) f) (append_assoc a (b ++ e) rest ∙ ap (λ l. a ++ l) (append_assoc b e rest))
        ∙ take_arm p (y.Otherwise ∷ y.Statements ∷ k) (λ arm p. h (p.1.0 (front ++ s.Branch (p.0 (arm ∷ [])) ∷ [])) p.1.1) (b ++ (e ++ rest))
        ∙ take_else q (y.Statements ∷ k) (λ arms p. h (p.0 (front ++ s.Branch arms ∷ [])) p.1) (e ++ rest) (statements_calm r rest) ∙ take_statements r k h rest

    take_arm : {d : ℕ} {a : List Token} {x : Arm} → g.ReadsArm d a x → (k : Stack) (h : Arm → Sems k → R) (rest : List Token)
        → run_with d (condition (y.Block ∷ k)) (λ p. h (arm_of (p.1.1.0 (p.1.0 p.0)) p.1.1.1.0) p.1.1.1.1) (a ++ rest) ≡ run_with d k (h x) rest
    take_arm (g.arm {d} {a} {b} {x} {xs} p q) k h rest =
        ap (run_with (suc d) (condition (y.Block ∷ k)) (λ p. h (arm_of (p.1.1.0 (p.1.0 p.0)) p.1.1.1.0) p.1.1.1.1)) (append_assoc a (t.OpenBrace ∷ b) rest)
        ∙ take_condition p (y.Block ∷ k) (λ x p. h (arm_of x p.0) p.1) (t.OpenBrace ∷ (b ++ rest)) (refl, (refl, refl)) ∙ take_statements q k (λ xs. h (arm_of x xs)) rest

    take_else : {d : ℕ} {front : List Arm} {a : List Token} {arms : List Arm} → g.ReadsElse d front a arms → (k : Stack) (h : List Arm → Sems k → R) (rest : List Token) → refused y.Otherwise rest ≡ true
        → run_with d (y.Otherwise ∷ k) (λ p. h (p.0 front) p.1) (a ++ rest) ≡ run_with d k (h arms) rest
    take_else (g.no_else {d} {front}) k h rest e = skip y.Otherwise (λ x. x) refl d k (λ p. h (p.0 front) p.1) rest e
    take_else (g.else_if {d} {a} {b} {x} {front} p q) k h rest e =
        let f = λ (p : Sems (condition (y.Block ∷ y.Otherwise ∷ k))). h (p.1.1.1.1.0 (front ++ arm_of (p.1.1.0 (p.1.0 p.0)) p.1.1.1.0 ∷ [])) p.1.1.1.1.1 in
        ap (run_with d (condition (y.Block ∷ y.Otherwise ∷ k)) f) (append_assoc a b rest) ∙ take_arm p (y.Otherwise ∷ k) (λ arm p. h (p.0 (front ++ arm ∷ [])) p.1) (b ++ rest) ∙ take_else q k h rest e
    take_else (g.else {d} {a} {front} q) k h rest e = take_statements q k (λ xs. h (front ++ last_arm xs ∷ [])) rest

  take_plugins : {d : ℕ} {front : List Plugin} {a : List Token} {xs : List Plugin} → g.ReadsPlugins d front a xs → (k : Stack) (h : List Plugin → Sems k → R) (rest : List Token)
      → run_with d (y.Plugins ∷ k) (λ p. h (p.0 front) p.1) (a ++ rest) ≡ run_with (suc d) k (h xs) rest
  take_plugins g.no_plugin k h rest = refl
  take_plugins (g.plugins {b = b} {front = front} (g.plugin {d} {name = n} {y = z} {a = a} {xs = xs} e q) r) k h rest =
      let f = λ (p : (Entries → Entries) × ((List Plugin → List Plugin) × Sems k)). h (p.1.0 (front ++ plugin_of n (p.0 []) ∷ [])) p.1.1 in
      moved (suc d) y.Plugins k (λ p. h (p.0 front) p.1) z (t.OpenBrace ∷ ((a ++ b) ++ rest)) _ (plugin_move z n e)
      ∙ ap (run_with d (y.Settings ∷ y.Plugins ∷ k) f) (append_assoc a b rest)
      ∙ take_settings q (y.Plugins ∷ k) (λ xs p. h (p.0 (front ++ plugin_of n xs ∷ [])) p.1) (b ++ rest) ∙ take_plugins r k h rest

-- the run over a configuration makes it
pub take_sections : {d : ℕ} {front : Config} {a : List Token} {all : Config} → g.ReadsSections d front a all → run_with d (y.Sections ∷ []) (λ p. p.0 front) a ≡ Ok all
take_sections g.no_section = refl
take_sections (g.input {b = b} {front = front} q r) = take_plugins q (y.Sections ∷ []) (λ xs p. p.0 (with_inputs front xs)) b ∙ take_sections r
take_sections (g.filter {b = b} {front = front} q r) = take_statements q (y.Sections ∷ []) (λ xs p. p.0 (with_filters front xs)) b ∙ take_sections r
take_sections (g.output {b = b} {front = front} q r) = take_statements q (y.Sections ∷ []) (λ xs p. p.0 (with_outputs front xs)) b ∙ take_sections r
