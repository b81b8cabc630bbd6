-- The machine's levels are those of the tokens.
use Rattle.std.proofs.Common.{◌≡◌, ℕ, zero, suc, ◌+◌, List, [], ◌∷◌, ◌++◌, length, Option, Some, None, Bool, true, false, refl, ap, sym, subst, ◌∙◌, arith}
use Rattle.config_lex.specs.declared.token.Token.{Token}
use Rattle.config_lex.specs.declared.token.Token.TheVariants as t
use Rattle.config_lex.specs.declared.token.Word.{Word}
use Rattle.config_lex.specs.declared.token.Word.TheVariants as w
use Rattle.config_lex.specs.declared.token.Section.TheVariants as kind
use Rattle.config_tree.specs.declared.tree.SettingValue.{SettingValue}
use Rattle.config_tree.specs.declared.tree.Operand.{Operand}
use Rattle.config_tree.specs.declared.tree.Literal.{Literal}
use Rattle.config_tree.specs.declared.tree.MatchPattern.{MatchPattern}
use Rattle.config_parse.specs.Words.{setting_name, plugin_name, key, scalar, literal, operand_token, pattern}
use Rattle.config_parse.specs.Levels.{Open, settled, after}
use Rattle.config_parse.specs.Levels.{Bracket, Denial}
use Rattle.config_parse.specs.Symbols.{Symbol}
use Rattle.config_parse.specs.Symbols as y
use Rattle.config_parse.specs.Machine.{Stack, Sem, Sems, Move, refuses, stays, opens, shuts, on_some, fresh, Step, deep, goes, step, act, is_blank, next, blank, rise}
use Rattle.config_tree.specs.declared.tree.Statement.TheVariants as s
use Rattle.config_tree.specs.Joining.{with_setting, plugin_of}

-- what a stack has open
abbrev pub shape_by : Symbol → Open → Open
shape_by y.Members l = Bracket ∷ l
shape_by y.More l = Bracket ∷ l
shape_by (y.Pairs keys) l = Bracket ∷ l
shape_by y.Settings l = Bracket ∷ l
shape_by y.Literals l = Bracket ∷ l
shape_by y.MoreLiterals l = Bracket ∷ l
shape_by y.NotEnd l = Denial ∷ l
shape_by y.CloseParen l = Bracket ∷ l
shape_by y.Statements l = Bracket ∷ l
shape_by y.Plugins l = Bracket ∷ l
shape_by x l = l

abbrev pub shape : Stack → Open
shape [] = []
shape (x ∷ k) = shape_by x (shape k)

abbrev after_unary : Stack → Bool
after_unary (y.Ands ∷ k) = true
after_unary (y.NotEnd ∷ k) = true
after_unary _ = false

abbrev after_ands : Stack → Bool
after_ands (y.Ors ∷ k) = true
after_ands _ = false

abbrev after_ors : Stack → Bool
after_ors (y.Block ∷ k) = true
after_ors (y.CloseParen ∷ k) = true
after_ors _ = false

-- what may stand below a symbol
abbrev fits : Symbol → Stack → Type 0
fits y.Unary k = after_unary k ≡ true
fits y.NotEnd k = after_unary k ≡ true
fits y.Ands k = (after_ands k ≡ true) × (settled (shape k) ≡ shape k)
fits y.Ors k = (after_ors k ≡ true) × (settled (shape k) ≡ shape k)
fits y.Value k = settled (shape k) ≡ shape k
fits y.Nest k = settled (shape k) ≡ shape k
fits y.SettingsBlock k = settled (shape k) ≡ shape k
fits y.Block k = settled (shape k) ≡ shape k
fits y.PluginsBlock k = settled (shape k) ≡ shape k
fits y.Otherwise k = settled (shape k) ≡ shape k
fits y.ElseBody k = settled (shape k) ≡ shape k
fits y.Sections k = settled (shape k) ≡ shape k
fits _ k = Unit {0}

abbrev pub Fits : Stack → Type 0
Fits [] = Unit {0}
Fits (x ∷ k) = fits x k × Fits k

pub record Good (d : ℕ) (k : Stack) (z : Token) (e : ℕ) (j : Stack) : Type 0 where
  pub fits : Fits j
  pub shape_is : shape j ≡ after (shape k) z
  pub levels : e + length (shape j) ≡ d + length (shape k)

-- what a move does to the levels
abbrev Fine : {X : Type 0} → Move X → Symbol → Stack → Token → Type 0
Fine refuses x k z = Unit {0}
Fine (stays now made) x k z = Fits (now ++ k) × (shape (now ++ k) ≡ after (shape (x ∷ k)) z) × (length (shape (now ++ k)) ≡ length (shape (x ∷ k)))
Fine (opens now made) x k z = Fits (now ++ k) × (shape (now ++ k) ≡ after (shape (x ∷ k)) z) × (length (shape (now ++ k)) ≡ suc (length (shape (x ∷ k))))
Fine (shuts v) x k z = Fits k × (shape k ≡ after (shape (x ∷ k)) z) × (suc (length (shape k)) ≡ length (shape (x ∷ k))) × ((d : ℕ) → rise x d ≡ suc d)

fine_some : {A X : Type 0} (o : Option A) (now : A → Stack) (made : (p : A) → Sems (now p) → X) (x : Symbol) (k : Stack) (z : Token) → ((p : A) → o ≡ Some p → Fine (stays (now p) (made p)) x k z) → Fine (on_some o now made) x k z
fine_some None now made x k z h = tt
fine_some (Some p) now made x k z h = h p refl

-- tokens that open and end nothing
word_after : (a : Word) (l : Open) → settled l ≡ l → l ≡ after l (t.Word a)
word_after (w.Conjunction j) l h = sym h
word_after (w.Disjunction j) l h = sym h
word_after a l h = refl

scalar_after : (z : Token) (x : SettingValue) (l : Open) → scalar z ≡ Some x → l ≡ after l z
scalar_after (t.Quoted s) x l h = refl
scalar_after (t.Number n s) x l h = refl
scalar_after z x l h = absurd (cc)

literal_after : (z : Token) (x : Literal) (l : Open) → literal z ≡ Some x → l ≡ after l z
literal_after (t.Quoted s) x l h = refl
literal_after (t.Number n s) x l h = refl
literal_after z x l h = absurd (cc)

pattern_after : (z : Token) (x : MatchPattern) (l : Open) → pattern z ≡ Some x → l ≡ after l z
pattern_after (t.Quoted s) x l h = refl
pattern_after (t.Regexp s) x l h = refl
pattern_after z x l h = absurd (cc)

operand_after : (z : Token) (x : Operand) (l : Open) → operand_token z ≡ Some x → l ≡ after l z
operand_after (t.Selector parts) x l h = refl
operand_after (t.Quoted s) x l h = refl
operand_after (t.Number n s) x l h = refl
operand_after z x l h = absurd (cc)

setting_after : (z : Token) (k : List ℕ) (l : Open) → setting_name z ≡ Some k → Bracket ∷ l ≡ after (Bracket ∷ l) z
setting_after (t.Quoted s) k l h = refl
setting_after (t.Dashed s) k l h = refl
setting_after (t.Word a) k l h = word_after a (Bracket ∷ l) refl
setting_after z k l h = absurd (cc)

plugin_after : (z : Token) (k : List ℕ) (l : Open) → plugin_name z ≡ Some k → Bracket ∷ l ≡ after (Bracket ∷ l) z
plugin_after (t.Quoted s) k l h = refl
plugin_after (t.Dashed s) k l h = refl
plugin_after (t.Word a) k l h = word_after a (Bracket ∷ l) refl
plugin_after z k l h = absurd (cc)

fresh_none : (keys : List (List ℕ)) (a : List ℕ) → fresh keys None ≡ Some a → ⊥
fresh_none keys a h = let q : ◌≡◌ {A = Option (List ℕ)} None (Some a) = h in absurd (cc)

key_after : (keys : List (List ℕ)) (z : Token) (k : List ℕ) (l : Open) → fresh keys (key z) ≡ Some k → Bracket ∷ l ≡ after (Bracket ∷ l) z
key_after keys (t.Quoted s) k l h = refl
key_after keys (t.Number n s) k l h = refl
key_after keys (t.Word a) k l h = word_after a (Bracket ∷ l) refl
key_after keys z k l h = absurd (fresh_none keys k h)

fine : (x : Symbol) (k : Stack) (z : Token) → Fits (x ∷ k) → Fine (next x z) x k z
fine y.Value k t.OpenBracket f = ((tt, f.1), refl, refl)
fine y.Value k t.OpenBrace f = ((tt, f.1), ap (λ l. Bracket ∷ l) (sym f.0), refl)
fine y.Value k (t.Word a) f = (f, word_after a (shape k) f.0, refl)
fine y.Value k z f = fine_some (scalar z) (λ _. []) (λ x _. x) y.Value k z (λ x e. (f.1, scalar_after z x (shape k) e, refl))
fine y.Nest k t.OpenBrace f = ((tt, f.1), ap (λ l. Bracket ∷ l) (sym f.0), refl)
fine y.Nest k _ f = tt
fine y.Members k t.CloseBracket f = (f.1, refl, refl, λ d. refl)
fine y.Members k t.OpenBracket f = ((tt, (tt, f.1)), refl, refl)
fine y.Members k t.OpenBrace f = ((tt, (tt, f.1)), refl, refl)
fine y.Members k (t.Word a) f = ((refl, (tt, f.1)), word_after a (Bracket ∷ shape k) refl, refl)
fine y.Members k z f = fine_some (scalar z) (λ _. y.More ∷ []) (λ x p. p.0 (x ∷ [])) y.Members k z (λ x e. ((tt, f.1), scalar_after z x (Bracket ∷ shape k) e, refl))
fine y.More k t.CloseBracket f = (f.1, refl, refl, λ d. refl)
fine y.More k t.Comma f = ((refl, f), refl, refl)
fine y.More k _ f = tt
fine (y.Pairs keys) k t.CloseBrace f = (f.1, refl, refl, λ d. refl)
fine (y.Pairs keys) k z f = fine_some {X = Sem (y.Pairs keys)} (fresh keys (key z)) (λ n. y.Arrow ∷ y.Value ∷ y.Pairs (keys ++ n ∷ []) ∷ []) (λ n p front. p.1.1.0 (front ++ (n, p.1.0) ∷ [])) (y.Pairs keys) k z
    (λ n e. ((tt, (refl, (tt, f.1))), key_after keys z n (shape k) e, refl))
fine y.Arrow k t.Arrow f = (f.1, refl, refl)
fine y.Arrow k _ f = tt
fine y.Settings k t.CloseBrace f = (f.1, refl, refl, λ d. refl)
fine y.Settings k z f = fine_some {X = Sem y.Settings} (setting_name z) (λ _. y.Arrow ∷ y.Value ∷ y.Settings ∷ []) (λ n p front. p.1.1.0 (with_setting n p.1.0 front)) y.Settings k z (λ n e. ((tt, (refl, f)), setting_after z n (shape k) e, refl))
fine y.SettingsBlock k t.OpenBrace f = ((tt, f.1), ap (λ l. Bracket ∷ l) (sym f.0), refl)
fine y.SettingsBlock k _ f = tt
fine y.Literal k z f = fine_some (literal z) (λ _. []) (λ x _. x) y.Literal k z (λ x e. (f.1, literal_after z x (shape k) e, refl))
fine y.Literals k t.CloseBracket f = (f.1, refl, refl, λ d. refl)
fine y.Literals k z f = fine_some (literal z) (λ _. y.MoreLiterals ∷ []) (λ x p. p.0 (x ∷ [])) y.Literals k z (λ x e. ((tt, f.1), literal_after z x (Bracket ∷ shape k) e, refl))
fine y.MoreLiterals k t.CloseBracket f = (f.1, refl, refl, λ d. refl)
fine y.MoreLiterals k t.Comma f = ((tt, f), refl, refl)
fine y.MoreLiterals k _ f = tt
fine y.Operand k t.OpenBracket f = ((tt, f.1), refl, refl)
fine y.Operand k z f = fine_some (operand_token z) (λ _. []) (λ x _. x) y.Operand k z (λ x e. (f.1, operand_after z x (shape k) e, refl))
fine y.Tail k (t.Comparison j) f = (f, refl, refl)
fine y.Tail k (t.Matching j) f = (f, refl, refl)
fine y.Tail k (t.Word w.In) f = (f, refl, refl)
fine y.Tail k (t.Word w.Not) f = ((tt, f), refl, refl)
fine y.Tail k (t.Word a) f = tt
fine y.Tail k _ f = tt
fine y.Pattern k z f = fine_some (pattern z) (λ _. []) (λ x _. x) y.Pattern k z (λ x e. (f.1, pattern_after z x (shape k) e, refl))
fine y.InWord k (t.Word w.In) f = (f.1, refl, refl)
fine y.InWord k (t.Word a) f = tt
fine y.InWord k _ f = tt
fine y.Unary k t.Exclamation f = ((refl, f), refl, refl)
fine y.Unary k t.OpenParen f = ((refl, ((refl, refl), ((refl, refl), (tt, f.1)))), refl, refl)
fine y.Unary k t.OpenBracket f = ((tt, (tt, f.1)), refl, refl)
fine y.Unary k z f = fine_some (operand_token z) (λ _. y.Tail ∷ []) (λ x p. p.0 x) y.Unary k z (λ x e. ((tt, f.1), operand_after z x (shape k) e, refl))
fine y.Ands k (t.Word (w.Conjunction j)) f = ((refl, f), sym f.0.1, refl)
fine y.Ands k (t.Word a) f = tt
fine y.Ands k _ f = tt
fine y.Ors k (t.Word (w.Disjunction j)) f = ((refl, ((refl, f.0.1), f)), sym f.0.1, refl)
fine y.Ors k (t.Word a) f = tt
fine y.Ors k _ f = tt
fine y.NotEnd k z f = tt
fine y.CloseParen k t.CloseParen f = (f.1, refl, refl, λ d. refl)
fine y.CloseParen k _ f = tt
fine y.Block k t.OpenBrace f = ((tt, f.1), ap (λ l. Bracket ∷ l) (sym f.0), refl)
fine y.Block k _ f = tt
fine y.Statements k t.CloseBrace f = (f.1, refl, refl, λ d. refl)
fine y.Statements k (t.Word w.If) f = ((refl, ((refl, refl), ((refl, refl), (refl, (refl, f))))), refl, refl)
fine y.Statements k (t.Word a) f = fine_some {X = Sem y.Statements} (plugin_name (t.Word a)) (λ _. y.SettingsBlock ∷ y.Statements ∷ []) (λ name p front. p.1.0 (front ++ s.Plugin (plugin_of name p.0) ∷ [])) y.Statements k (t.Word a) (λ n e. ((refl, f), word_after a (Bracket ∷ shape k) refl, refl))
fine y.Statements k z f = fine_some {X = Sem y.Statements} (plugin_name z) (λ _. y.SettingsBlock ∷ y.Statements ∷ []) (λ name p front. p.1.0 (front ++ s.Plugin (plugin_of name p.0) ∷ [])) y.Statements k z (λ n e. ((refl, f), plugin_after z n (shape k) e, refl))
fine y.Otherwise k (t.Word w.Else) f = (f, refl, refl)
fine y.Otherwise k (t.Word a) f = tt
fine y.Otherwise k _ f = tt
fine y.ElseBody k (t.Word w.If) f = ((refl, ((refl, f.0), ((refl, f.0), (f.0, f)))), refl, refl)
fine y.ElseBody k (t.Word a) f = tt
fine y.ElseBody k t.OpenBrace f = ((tt, f.1), ap (λ l. Bracket ∷ l) (sym f.0), refl)
fine y.ElseBody k _ f = tt
fine y.PluginsBlock k t.OpenBrace f = ((tt, f.1), ap (λ l. Bracket ∷ l) (sym f.0), refl)
fine y.PluginsBlock k _ f = tt
fine y.Plugins k t.CloseBrace f = (f.1, refl, refl, λ d. refl)
fine y.Plugins k z f = fine_some {X = Sem y.Plugins} (plugin_name z) (λ _. y.SettingsBlock ∷ y.Plugins ∷ []) (λ name p front. p.1.0 (front ++ plugin_of name p.0 ∷ [])) y.Plugins k z (λ n e. ((refl, f), plugin_after z n (shape k) e, refl))
fine y.Sections k (t.Word (w.Section kind.Input)) f = ((f.0, f), refl, refl)
fine y.Sections k (t.Word (w.Section kind.Filter)) f = ((f.0, f), refl, refl)
fine y.Sections k (t.Word (w.Section kind.Output)) f = ((f.0, f), refl, refl)
fine y.Sections k (t.Word a) f = tt
fine y.Sections k _ f = tt

-- behind an operand the tokens that can come end the `!` before it
block_end : (d : ℕ) (k : Stack) (z : Token) (e : ℕ) (j : Stack) (l : Open) → after_ors k ≡ true → step d k z ≡ goes e j → after (Denial ∷ l) z ≡ after l z
block_end d [] z e j l f h = absurd (cc)
block_end d (y.Block ∷ k) t.OpenBrace e j l f h = refl
block_end d (y.Block ∷ k) z e j l f h = absurd (cc)
block_end d (y.CloseParen ∷ k) t.CloseParen e j l f h = refl
block_end d (y.CloseParen ∷ k) z e j l f h = absurd (cc)
block_end d (y.Value ∷ k) z e j l f h = absurd (cc)
block_end d (x ∷ k) z e j l f h = absurd (cc)

ors_end : (d : ℕ) (k : Stack) (z : Token) (e : ℕ) (j : Stack) (l : Open) → Fits k → after_ands k ≡ true → step d k z ≡ goes e j → after (Denial ∷ l) z ≡ after l z
ors_end d [] z e j l g f h = absurd (cc)
ors_end d (y.Ors ∷ k) (t.Word (w.Disjunction i)) e j l g f h = refl
ors_end d (y.Ors ∷ k) (t.Word a) e j l g f h = block_end d k (t.Word a) e j l g.0.0 h
ors_end d (y.Ors ∷ k) z e j l g f h = block_end d k z e j l g.0.0 h
ors_end d (x ∷ k) z e j l g f h = absurd (cc)

unary_end : (d : ℕ) (k : Stack) (z : Token) (e : ℕ) (j : Stack) (l : Open) → Fits k → after_unary k ≡ true → step d k z ≡ goes e j → after (Denial ∷ l) z ≡ after l z
unary_end d [] z e j l g f h = absurd (cc)
unary_end d (y.Ands ∷ k) (t.Word (w.Conjunction i)) e j l g f h = refl
unary_end d (y.Ands ∷ k) (t.Word a) e j l g f h = ors_end d k (t.Word a) e j l g.1 g.0.0 h
unary_end d (y.Ands ∷ k) z e j l g f h = ors_end d k z e j l g.1 g.0.0 h
unary_end d (y.NotEnd ∷ k) z e j l g f h = unary_end (suc d) k z e j l g.1 g.0 h
unary_end d (x ∷ k) z e j l g f h = absurd (cc)

good_act : {X : Type 0} (a : Move X) (b : Option X) (x : Symbol) (k : Stack) (d : ℕ) (z : Token) (e : ℕ) (j : Stack) (pass : ℕ → Step) → Fine a x k z → act a b (rise x) d k pass ≡ goes e j
    → (is_blank b ≡ true → pass (rise x d) ≡ goes e j → Good d (x ∷ k) z e j) → Good d (x ∷ k) z e j
good_act (stays now made) b x k d z e j pass f h p =
    let u : d ≡ e = cc in let q : now ++ k ≡ j = cc in
    subst (λ i. Good d (x ∷ k) z e i) q (record { fits = f.0; shape_is = f.1; levels = let g = f.2 in omega (arith, g) })
good_act (opens now made) b x k zero z e j pass f h p = absurd (cc)
good_act (opens now made) b x k (suc d) z e j pass f h p =
    let u : d ≡ e = cc in let q : now ++ k ≡ j = cc in
    subst (λ i. Good (suc d) (x ∷ k) z e i) q (record { fits = f.0; shape_is = f.1; levels = let g = f.2 in omega (arith, g) })
good_act (shuts v) b x k d z e j pass f h p =
    let u : rise x d ≡ e = cc in let q : k ≡ j = cc in let r = f.3 d in
    subst (λ i. Good d (x ∷ k) z e i) q (record { fits = f.0; shape_is = f.1; levels = let g = f.2 in omega (arith, g, u, r) })
good_act refuses None x k d z e j pass f h p = absurd (cc)
good_act refuses (Some v) x k d z e j pass f h p = p refl h

under_blank : (d : ℕ) (x : Symbol) (k : Stack) (z : Token) (e : ℕ) (j : Stack) → is_blank (blank x) ≡ true → Fits (x ∷ k) → step (rise x d) k z ≡ goes e j → Good (rise x d) k z e j → Good d (x ∷ k) z e j
under_blank d y.NotEnd k z e j b f h g = record { fits = g.fits; shape_is = g.shape_is ∙ sym (unary_end (suc d) k z e j (shape k) f.1 f.0 h); levels = let l = g.levels in omega (arith, l) }
under_blank d y.Nest k z e j b f h g = record { fits = g.fits; shape_is = g.shape_is; levels = g.levels }
under_blank d y.Tail k z e j b f h g = record { fits = g.fits; shape_is = g.shape_is; levels = g.levels }
under_blank d y.Ands k z e j b f h g = record { fits = g.fits; shape_is = g.shape_is; levels = g.levels }
under_blank d y.Ors k z e j b f h g = record { fits = g.fits; shape_is = g.shape_is; levels = g.levels }
under_blank d y.Otherwise k z e j b f h g = record { fits = g.fits; shape_is = g.shape_is; levels = g.levels }
under_blank d y.Sections k z e j b f h g = record { fits = g.fits; shape_is = g.shape_is; levels = g.levels }
under_blank d y.Value k z e j b f h g = absurd (cc)
under_blank d x k z e j b f h g = absurd (cc)

pub step_good : (d : ℕ) (k : Stack) (z : Token) (e : ℕ) (j : Stack) → Fits k → step d k z ≡ goes e j → Good d k z e j
step_good d [] z e j f h = absurd (cc)
step_good d (x ∷ k) z e j f h =
    good_act (next x z) (blank x) x k d z e j (λ i. step i k z) (fine x k z f) h (λ b g. under_blank d x k z e j b f g (step_good (rise x d) k z e j f.1 g))
