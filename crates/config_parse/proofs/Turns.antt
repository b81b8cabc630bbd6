-- What the code's loops and cases read, by the parts that they read.
use Rattle.std.proofs.Common.{◌≡◌, Bool, true, false, if◌then◌else◌, Result, IsErrAnd, ℕ, zero, suc, ◌≤◌, List, [], ◌∷◌, ◌++◌, length, Option, Some, None, Ok, Err, refl, ap, sym, subst, ◌∙◌, arith}
use Rattle.config_lex.specs.declared.token.Token.{Token}
use Rattle.config_lex.specs.declared.token.Token.TheVariants as t
use Rattle.config_lex.specs.declared.token.Word.{Word}
use Rattle.config_lex.specs.declared.token.Word.TheVariants as w
use Rattle.config_tree.specs.declared.operators.Disjunction.{Disjunction}
use Rattle.config_tree.specs.declared.tree.SettingValue.{SettingValue}
use Rattle.config_tree.specs.declared.tree.SettingValue.TheVariants as v
use Rattle.config_tree.specs.declared.tree.Operand.{Operand}
use Rattle.config_tree.specs.declared.tree.Operand.TheVariants as o
use Rattle.config_tree.specs.declared.tree.Condition.{Condition}
use Rattle.config_tree.specs.declared.tree.Condition.TheVariants as c
use Rattle.config_tree.specs.declared.tree.Plugin.{Plugin}
use Rattle.config_tree.specs.declared.tree.Arm.{Arm}
use Rattle.config_tree.specs.declared.tree.Statement.{Statement}
use Rattle.config_tree.specs.declared.tree.Statement.TheVariants as s
use Rattle.config_tree.specs.Joints.{disjoined}
use Rattle.config_tree.specs.Joining.{Entries, with_setting, plugin_of}
use Rattle.config_lex.specs.Spelling.{spelling}
use Rattle.config_parse.specs.Words.{setting_name, plugin_name, key}
use Rattle.config_parse.specs.Symbols.{Symbol}
use Rattle.config_parse.specs.Symbols as y
use Rattle.config_parse.specs.Machine.{Sems, on_some, fresh, next, arm_of}
use Rattle.config_parse.specs.Verdicts as is
use Rattle.config_parse.specs.declared.error.ReadError.{ReadError}
use Rattle.config_parse.specs.declared.error.ReadError.TheVariants as errors
use Rattle.config_lex.specs.declared.token.Lexeme.{Lexeme}
use Rattle.std.specs.Borrow.{Bor}
use Rattle.std.proofs.lemmas.Result.{err_from_is_err_and}
use Rattle.config_parse.specs.Gives.{Fails, Fills, GivesRead}
use Rattle.config_parse.specs.Seen.{tokens_of}
use Rattle.config_parse.specs.Read as r
use Rattle.config_parse.specs.Read.{Read, Reader, ◌>>=◌, moved, behind, told, one}
use Rattle.config_parse.proofs.Reading.{Short, Shrinks, bound, ok, none, read_short, read_front, read_end, assoc}

pub ruleset turns = (read_front, read_end, assoc)

pub bind_is : {A B : Type 0} {q : Read A} {x : A × List Token} {y : Read B} (f : A × List Token → Read B) → q ≡ Ok x → f x ≡ y → (q >>= f) ≡ y
bind_is f e h = ap (λ p. p >>= f) e ∙ h

-- what is read behind the first token leaves fewer tokens
pub fewer : {A : Type 0} {q : Read A} {ts behind after : List Token} {z : Token} {x : A} → Short q (length behind) → ts ≡ z ∷ behind → q ≡ Ok (x, after) → suc (length after) ≤ length ts
fewer {behind = behind} {after = after} {x = x} s is v = let l = s (x, after) v in let k = ap length is in omega (arith, l, k)

pub fewer_two : {A : Type 0} {q : Read A} {ts behind next after : List Token} {y z : Token} {x : A} → Short q (length next) → ts ≡ y ∷ behind → behind ≡ z ∷ next → q ≡ Ok (x, after) → suc (length after) ≤ length ts
fewer_two s is nis v = let k = ap length is in let l = fewer s nis v in omega (arith, l, k)

fails_bind : {A B : Type 0} (e : ReadError) (q : Read A) (f : A × List Token → Read B) → Fails e q → Fails e (q >>= f)
fails_bind errors.Memory q f h = tt
fails_bind (errors.Syntax left) q f h = ap (λ p. p >>= f) h
fails_bind (errors.Deep left) q f h = ap (λ p. p >>= f) h

-- an item, and what goes on behind it
abbrev pub turn : {A B C : Type 0} → Read A → Reader (B → C) → (B → A → B) → Read (B → C)
turn q on add = q >>= λ x. on x.1 >>= λ f. Ok ((λ front. f.0 (add front x.0)), f.1)

-- one turn of a loop, and the fault of its item
pub turned : {A B C : Type 0} (here on : Reader (B → C)) (add : B → A → B) (front : B) (ts : List Token) {q : Read A} {x : A} {after : List Token} {all : Read C} → here ts ≡ turn q on add → behind front here ts ≡ all
    → q ≡ Ok (x, after) → behind (add front x) on after ≡ all
turned here on add front ts {q} {x} {after} {all} is all_is v =
    sym (ap (λ p. p >>= λ f. Ok (f.0 front, f.1)) (is ∙ bind_is (λ x. on x.1 >>= λ f. Ok ((λ front. f.0 (add front x.0)), f.1)) v refl) ∙ assoc (on after) (λ f. Ok ((λ front. f.0 (add front x)), f.1)) (λ f. Ok (f.0 front, f.1))) ∙ all_is

-- the fault of an item is that of all
item_fails : {A B C : Type 0} (here on : Reader (B → C)) (add : B → A → B) (front : B) (ts : List Token) (q : Read A) {all : Read C} (e : ReadError) → here ts ≡ turn q on add → behind front here ts ≡ all → Fails e q → Fails e all
item_fails here on add front ts q e is all_is h =
    subst (Fails e) (ap (λ p. p >>= λ f. Ok (f.0 front, f.1)) (sym is) ∙ all_is) (fails_bind e (turn q on add) (λ f. Ok (f.0 front, f.1)) (fails_bind e q (λ x. on x.1 >>= λ f. Ok ((λ front. f.0 (add front x.0)), f.1)) h))

-- what a `?` behind the item's fault returns
pub failed : {A B C D : Type 0} (stands : D → C) (here on : Reader (B → C)) (add : B → A → B) (front : B) (ts : List Token) (q : Read A) {all : Read C} (e : ReadError) (result : Result (D × Bor (List Lexeme)) ReadError)
    → IsErrAnd result (λ y. y ≡ e) → here ts ≡ turn q on add → behind front here ts ≡ all → Fails e q → GivesRead stands result all
failed stands here on add front ts q {all} e result err is all_is h =
    let p = err_from_is_err_and result err in subst (λ r. GivesRead stands r all) (sym (p.1 ∙ ap (λ y. Err y) p.2)) (item_fails here on add front ts q e is all_is h)

-- and where it is made in place
pub failed_in : {A C : Type 0} (made : C) (reader : Reader C) (found : List Lexeme) (here on : Reader (C → C)) (add : C → A → C) (front : C) (ts : List Token) (q : Read A) (e : ReadError) (result : Result (Bor (List Lexeme)) ReadError)
    → IsErrAnd result (λ y. y ≡ e) → here ts ≡ turn q on add → behind front here ts ≡ reader (tokens_of found) → Fails e q → Fills made result reader found
failed_in made reader found here on add front ts q e result err is all_is h =
    let p = err_from_is_err_and result err in subst (λ r. Fills made r reader found) (sym (p.1 ∙ ap (λ y. Err y) p.2)) (item_fails here on add front ts q e is all_is h)

-- what is made of two parts, and goes on
joins : {A B C D : Type 0} (q : Read A) (f : A × List Token → Read B) (made : A → B → C) (k : C × List Token → Read D) → ((q >>= λ x. f x >>= λ g. Ok (made x.0 g.0, g.1)) >>= k) ≡ (q >>= λ x. f x >>= λ g. k (made x.0 g.0, g.1))
joins (Ok x) f made k = assoc (f x) (λ g. Ok (made x.0 g.0, g.1)) k
joins (Err e) f made k = refl

under : {A B : Type 0} (q : Read A) (f g : A × List Token → Read B) → ((x : A × List Token) → f x ≡ g x) → (q >>= f) ≡ (q >>= g)
under (Ok x) f g h = h x
under (Err e) f g h = refl

joined_is : {B : Type 0} (d : ℕ) (ts : List Token) (k : Condition × List Token → Read B) → (r.joined d ts >>= k) ≡ (r.read d y.Unary ts >>= λ a. r.read d y.Ands a.1 >>= λ b. k (b.0 a.0, b.1))
unfolding r.joined
joined_is d ts k = joins (r.read d y.Unary ts) (λ x. r.read d y.Ands x.1) (λ x f. f x) k

condition_is : {B : Type 0} (d : ℕ) (ts : List Token) (k : Condition × List Token → Read B)
    → (r.condition d ts >>= k) ≡ (r.read d y.Unary ts >>= λ a. r.read d y.Ands a.1 >>= λ b. r.read d y.Ors b.1 >>= λ o. k (o.0 (b.0 a.0), o.1))
unfolding r.condition
condition_is d ts k = joins (r.joined d ts) (λ x. r.read d y.Ors x.1) (λ x f. f x) k ∙ joined_is d ts (λ x. r.read d y.Ors x.1 >>= λ o. k (o.0 x.0, o.1))

arm_is : {B : Type 0} (d : ℕ) (ts : List Token) (k : Arm × List Token → Read B)
    → (r.arm d ts >>= k) ≡ (r.read d y.Unary ts >>= λ a. r.read d y.Ands a.1 >>= λ b. r.read d y.Ors b.1 >>= λ o. r.read d y.Block o.1 >>= λ e. k (arm_of (o.0 (b.0 a.0)) e.0, e.1))
unfolding r.arm
arm_is d ts k = joins (r.condition d ts) (λ x. r.read d y.Block x.1) arm_of k ∙ condition_is d ts (λ x. r.read d y.Block x.1 >>= λ e. k (arm_of x.0 e.0, e.1))

behind_short : {A B : Type 0} (front : A) (read : Reader (A → B)) → Shrinks read → Shrinks (behind front read)
behind_short front read sr ts = bound (read ts) (λ f. Ok (f.0 front, f.1)) (length ts) (sr ts) (λ f. ok (f.0 front) f.1 (length f.1) (omega arith))

pub joined_short : (d : ℕ) → Shrinks (r.joined d)
unfolding r.joined
joined_short d ts = bound (r.read d y.Unary ts) (λ x. behind x.0 (r.read d y.Ands) x.1) (length ts) (read_short d y.Unary ts) (λ x. behind_short x.0 (r.read d y.Ands) (read_short d y.Ands) x.1)

pub arm_short : (d : ℕ) → Shrinks (r.arm d)
unfolding r.arm r.condition
arm_short d ts =
    bound (r.condition d ts) (λ x. r.read d y.Block x.1 >>= λ b. Ok (arm_of x.0 b.0, b.1)) (length ts)
    (bound (r.joined d ts) (λ x. behind x.0 (r.read d y.Ors) x.1) (length ts) (joined_short d ts) (λ x. behind_short x.0 (r.read d y.Ors) (read_short d y.Ors) x.1))
    (λ x. bound (r.read d y.Block x.1) (λ b. Ok (arm_of x.0 b.0, b.1)) (length x.1) (read_short d y.Block x.1) (λ b. ok (arm_of x.0 b.0) b.1 (length b.1) (omega arith)))

pub arms_short : (d : ℕ) → Shrinks (r.arms d)
unfolding r.arms
arms_short d ts = bound (r.arm d ts) (λ x. behind (x.0 ∷ []) (r.read d y.Otherwise) x.1) (length ts) (arm_short d ts) (λ x. behind_short (x.0 ∷ []) (r.read d y.Otherwise) (read_short d y.Otherwise) x.1)

one_short : {A : Type 0} (test : Token → Option A) (z : Token) (ts : List Token) → Short (one test (z ∷ ts)) (length ts)
one_short test z ts = at (test z)
  where
    at : {A : Type 0} (o : Option A) → Short (told o (z ∷ ts) ts) (length ts)
    at None = none (is.Syntax (suc (length ts))) (length ts)
    at (Some a) = ok a ts (length ts) (omega arith)

pub entry_short : (d : ℕ) → Shrinks (r.entry d)
unfolding r.entry
entry_short d [] x h = none (is.Syntax 0) 0 x h
entry_short d (z ∷ ts) x h =
    let l = bound (one r.is_arrow (z ∷ ts)) (λ a. r.read d y.Value a.1) (length ts) (one_short r.is_arrow z ts) (λ a. read_short d y.Value a.1) x h in omega (arith, l)

-- a plugin has tokens
pub plugin_short : (d : ℕ) {ts behind after : List Token} {z : Token} {x : Plugin} → ts ≡ z ∷ behind → r.plugin d ts ≡ Ok (x, after) → suc (length after) ≤ length ts
unfolding r.plugin
plugin_short d {behind = behind} {after = after} {z = z} {x = x} is v =
    let l = bound (one plugin_name (z ∷ behind)) (λ k. r.read d y.SettingsBlock k.1 >>= λ x. Ok (plugin_of k.0 x.0, x.1)) (length behind) (one_short plugin_name z behind)
    (λ k. bound (r.read d y.SettingsBlock k.1) (λ x. Ok (plugin_of k.0 x.0, x.1)) (length k.1) (read_short d y.SettingsBlock k.1) (λ x. ok (plugin_of k.0 x.0) x.1 (length x.1) (omega arith))) (x, after) (ap (r.plugin d) (sym is) ∙ v) in
    let k = ap length is in omega (arith, l, k)

-- a statement has tokens
pub statement_short : (d : ℕ) {ts behind after : List Token} {z : Token} {x : Statement} → ts ≡ z ∷ behind → r.statement d ts ≡ Ok (x, after) → suc (length after) ≤ length ts
unfolding r.statement
statement_short d {ts} {behind} {after} {z} {x} is v = at (r.is_if z) (ap (r.statement d) (sym is) ∙ v)
  where
    at : (b : Bool) → (if b then (r.arms d behind >>= λ x. Ok (s.Branch x.0, x.1)) else (r.plugin d (z ∷ behind) >>= λ x. Ok (s.Plugin x.0, x.1))) ≡ Ok (x, after) → suc (length after) ≤ length ts
    at true h = let l = bound (r.arms d behind) (λ x. Ok (s.Branch x.0, x.1)) (length behind) (arms_short d behind) (λ x. ok (s.Branch x.0) x.1 (length x.1) (omega arith)) (x, after) h in let k = ap length is in omega (arith, l, k)
    at false h =
        let l = bound (r.plugin d (z ∷ behind)) (λ x. Ok (s.Plugin x.0, x.1)) (length behind) (λ a e. let m = plugin_short d {z = z} refl e in omega (arith, m)) (λ x. ok (s.Plugin x.0) x.1 (length x.1) (omega arith)) (x, after) h in let k = ap length is in omega (arith, l, k)

pub word_is : {a b : Word} → a ≡ b → t.Word a ≡ t.Word b
word_is h = ap t.Word h

-- tokens of which nothing is made
arrow_is : (d : ℕ) (ts : List Token) → r.read d y.Arrow ts ≡ one r.is_arrow ts
arrow_is d [] = read_end d y.Arrow
arrow_is d (t.Arrow ∷ ts) = read_front d y.Arrow t.Arrow ts
arrow_is d (z ∷ ts) = read_front d y.Arrow z ts

close_paren_is : (d : ℕ) (ts : List Token) → r.read d y.CloseParen ts ≡ one r.is_close_paren ts
close_paren_is d [] = read_end d y.CloseParen
close_paren_is d (t.CloseParen ∷ ts) = read_front d y.CloseParen t.CloseParen ts
close_paren_is d (z ∷ ts) = read_front d y.CloseParen z ts

not_end_is : (d : ℕ) (ts : List Token) → r.read d y.NotEnd ts ≡ Ok (tt, ts)
not_end_is d [] = read_end d y.NotEnd
not_end_is d (z ∷ ts) = read_front d y.NotEnd z ts

-- values
pub members_item : (d : ℕ) (z : Token) (ts : List Token) → (z ≡ t.CloseBracket → ⊥) → r.read d y.Members (z ∷ ts) ≡ (r.read d y.Value (z ∷ ts) >>= λ x. behind (x.0 ∷ []) (r.read d y.More) x.1)
members_item d t.CloseBracket ts n = absurd (n refl)
members_item zero t.OpenBracket ts n = read_front zero y.Members t.OpenBracket ts ∙ sym (ap (λ q. q >>= λ x. behind (x.0 ∷ []) (r.read zero y.More) x.1) (read_front zero y.Value t.OpenBracket ts))
members_item (suc d) t.OpenBracket ts n =
    let on = λ (x : SettingValue × List Token). behind (x.0 ∷ []) (r.read (suc d) y.More) x.1 in
    read_front (suc d) y.Members t.OpenBracket ts ∙ sym (ap (λ q. q >>= on) (read_front (suc d) y.Value t.OpenBracket ts) ∙ assoc (r.read d y.Members ts) (λ a. Ok (v.Array a.0, a.1)) on)
members_item zero t.OpenBrace ts n = read_front zero y.Members t.OpenBrace ts ∙ sym (ap (λ q. q >>= λ x. behind (x.0 ∷ []) (r.read zero y.More) x.1) (read_front zero y.Value t.OpenBrace ts))
members_item (suc d) t.OpenBrace ts n =
    let on = λ (x : SettingValue × List Token). behind (x.0 ∷ []) (r.read (suc d) y.More) x.1 in
    read_front (suc d) y.Members t.OpenBrace ts ∙ sym (ap (λ q. q >>= on) (read_front (suc d) y.Value t.OpenBrace ts) ∙ assoc (r.read d (y.Pairs []) ts) (λ a. Ok (v.Hash (a.0 []), a.1)) on)
members_item d (t.Word a) ts n =
    let on = λ (x : SettingValue × List Token). behind (x.0 ∷ []) (r.read d y.More) x.1 in
    read_front d y.Members (t.Word a) ts ∙ sym (ap (λ q. q >>= on) (read_front d y.Value (t.Word a) ts) ∙ assoc (r.read d y.Nest ts) (λ b. Ok (b.0 (spelling a), b.1)) on)
members_item d z ts n = read_front d y.Members z ts ∙ sym (ap (λ q. q >>= λ x. behind (x.0 ∷ []) (r.read d y.More) x.1) (read_front d y.Value z ts))

entry_is : {B : Type 0} (d : ℕ) (ts : List Token) (k : SettingValue × List Token → Read B) → (r.entry d ts >>= k) ≡ (r.read d y.Arrow ts >>= λ a. r.read d y.Value a.1 >>= k)
unfolding r.entry
entry_is d ts k = assoc (one r.is_arrow ts) (λ a. r.read d y.Value a.1) k ∙ sym (ap (λ q. q >>= λ a. r.read d y.Value a.1 >>= k) (arrow_is d ts))

pub pairs_item : (d : ℕ) (keys : List (List ℕ)) (k : List ℕ) (z : Token) (ts : List Token) → fresh keys (key z) ≡ Some k
    → r.read d (y.Pairs keys) (z ∷ ts) ≡ turn {B = Entries} (r.entry d ts) (r.read d (y.Pairs (keys ++ k ∷ []))) (λ front x. front ++ (k, x) ∷ [])
pairs_item d keys k t.CloseBrace ts h = absurd (cc)
pairs_item d keys k z ts h =
    read_front d (y.Pairs keys) z ts
    ∙ ap (λ o. moved {X = Entries → Entries} r.read (on_some o (λ k. y.Arrow ∷ y.Value ∷ y.Pairs (keys ++ k ∷ []) ∷ []) (λ k p front. p.1.1.0 (front ++ (k, p.1.0) ∷ []))) None d (z ∷ ts) ts) h
    ∙ sym (entry_is d ts (λ x. r.read d (y.Pairs (keys ++ k ∷ [])) x.1 >>= λ f. Ok ((λ front. f.0 (front ++ (k, x.0) ∷ [])), f.1)))

pub settings_item : (d : ℕ) (k : List ℕ) (z : Token) (ts : List Token) → setting_name z ≡ Some k → r.read d y.Settings (z ∷ ts) ≡ turn {B = Entries} (r.entry d ts) (r.read d y.Settings) (λ front x. with_setting k x front)
settings_item d k t.CloseBrace ts h = absurd (cc)
settings_item d k z ts h =
    read_front d y.Settings z ts
    ∙ ap (λ o. moved {X = Entries → Entries} r.read (on_some o (λ _. y.Arrow ∷ y.Value ∷ y.Settings ∷ []) (λ k p front. p.1.1.0 (with_setting k p.1.0 front))) None d (z ∷ ts) ts) h
    ∙ sym (entry_is d ts (λ x. r.read d y.Settings x.1 >>= λ f. Ok ((λ front. f.0 (with_setting k x.0 front)), f.1)))

-- conditions
pub ors_item : (d : ℕ) (j : Disjunction) (ts : List Token) → r.read d y.Ors (t.Word (w.Disjunction j) ∷ ts) ≡ turn {B = Condition} (r.joined d ts) (r.read d y.Ors) (λ l x. disjoined j l x)
ors_item d j ts = read_front d y.Ors (t.Word (w.Disjunction j)) ts ∙ sym (joined_is d ts (λ x. r.read d y.Ors x.1 >>= λ f. Ok ((λ l. f.0 (disjoined j l x.0)), f.1)))

pub unary_not : (d : ℕ) (ts : List Token) → r.read (suc d) y.Unary (t.Exclamation ∷ ts) ≡ (r.read d y.Unary ts >>= λ x. Ok (c.Not x.0, x.1))
unary_not d ts = read_front (suc d) y.Unary t.Exclamation ts ∙ under (r.read d y.Unary ts) _ _ (λ x. ap (λ q. q >>= λ a. Ok (c.Not x.0, a.1)) (not_end_is d x.1))

pub unary_group : (d : ℕ) (ts : List Token) → r.read (suc d) y.Unary (t.OpenParen ∷ ts) ≡ (r.condition d ts >>= λ x. one r.is_close_paren x.1 >>= λ q. Ok (x.0, q.1))
unary_group d ts =
    read_front (suc d) y.Unary t.OpenParen ts
    ∙ ap (λ (close : Reader (Unit {0})). r.read d y.Unary ts >>= λ a. r.read d y.Ands a.1 >>= λ b. r.read d y.Ors b.1 >>= λ o. close o.1 >>= λ e. Ok (o.0 (b.0 a.0), e.1)) (λ i us. close_paren_is d us i)
    ∙ sym (condition_is d ts (λ x. one r.is_close_paren x.1 >>= λ q. Ok (x.0, q.1)))

pub unary_end : (d : ℕ) → r.read d y.Unary [] ≡ Err (is.Syntax 0)
unary_end d = read_end d y.Unary

pub unary_deep_not : (ts : List Token) → r.read 0 y.Unary (t.Exclamation ∷ ts) ≡ Err (is.Deep (suc (length ts)))
unary_deep_not ts = read_front 0 y.Unary t.Exclamation ts

pub unary_deep_group : (ts : List Token) → r.read 0 y.Unary (t.OpenParen ∷ ts) ≡ Err (is.Deep (suc (length ts)))
unary_deep_group ts = read_front 0 y.Unary t.OpenParen ts

pub ruleset unaries = (unary_not, unary_group, unary_end, unary_deep_not, unary_deep_group)

pub unary_compare : (d : ℕ) (z : Token) (ts : List Token) → (z ≡ t.Exclamation → ⊥) → (z ≡ t.OpenParen → ⊥) → r.read d y.Unary (z ∷ ts) ≡ r.compare d (z ∷ ts)
unfolding r.compare
unary_compare d t.Exclamation ts n m = absurd (n refl)
unary_compare d t.OpenParen ts n m = absurd (m refl)
unary_compare zero t.OpenBracket ts n m = read_front zero y.Unary t.OpenBracket ts ∙ sym (ap (λ q. q >>= λ x. behind x.0 (r.read zero y.Tail) x.1) (read_front zero y.Operand t.OpenBracket ts))
unary_compare (suc d) t.OpenBracket ts n m =
    let on = λ (x : Operand × List Token). behind x.0 (r.read (suc d) y.Tail) x.1 in
    read_front (suc d) y.Unary t.OpenBracket ts ∙ sym (ap (λ q. q >>= on) (read_front (suc d) y.Operand t.OpenBracket ts) ∙ assoc (r.read d y.Literals ts) (λ a. Ok (o.List a.0, a.1)) on)
unary_compare d (t.Selector []) ts n m = read_front d y.Unary (t.Selector []) ts ∙ sym (ap (λ q. q >>= λ x. behind x.0 (r.read d y.Tail) x.1) (read_front d y.Operand (t.Selector []) ts))
unary_compare d (t.Selector (a ∷ parts)) ts n m = read_front d y.Unary (t.Selector (a ∷ parts)) ts ∙ sym (ap (λ q. q >>= λ x. behind x.0 (r.read d y.Tail) x.1) (read_front d y.Operand (t.Selector (a ∷ parts)) ts))
unary_compare d z ts n m = read_front d y.Unary z ts ∙ sym (ap (λ q. q >>= λ x. behind x.0 (r.read d y.Tail) x.1) (read_front d y.Operand z ts))

-- statements
named : {X : Type 0} (d : ℕ) (on : Symbol) (mk : List ℕ → Sems (y.SettingsBlock ∷ on ∷ []) → X) (k : Plugin × List Token → Read X) (z : Token) (ts : List Token)
    → ((name : List ℕ) (a : Entries × List Token) → k (plugin_of name a.0, a.1) ≡ (r.read d on a.1 >>= λ f. Ok (mk name (a.0, (f.0, tt)), f.1)))
    → moved r.read (on_some (plugin_name z) (λ _. y.SettingsBlock ∷ on ∷ []) mk) None d (z ∷ ts) ts ≡ (r.plugin d (z ∷ ts) >>= k)
unfolding r.plugin
named d on mk k z ts same = at (plugin_name z)
  where
    at : (o : Option (List ℕ)) → moved r.read (on_some o (λ _. y.SettingsBlock ∷ on ∷ []) mk) None d (z ∷ ts) ts ≡ ((told o (z ∷ ts) ts >>= λ n. r.read d y.SettingsBlock n.1 >>= λ x. Ok (plugin_of n.0 x.0, x.1)) >>= k)
    at None = refl
    at (Some name) = sym (assoc (r.read d y.SettingsBlock ts) (λ x. Ok (plugin_of name x.0, x.1)) k ∙ under (r.read d y.SettingsBlock ts) _ _ (same name))

pub plugins_item : (d : ℕ) (z : Token) (ts : List Token) → (z ≡ t.CloseBrace → ⊥) → r.read d y.Plugins (z ∷ ts) ≡ turn {B = List Plugin} (r.plugin d (z ∷ ts)) (r.read d y.Plugins) (λ front x. front ++ x ∷ [])
plugins_item d t.CloseBrace ts n = absurd (n refl)
plugins_item d z ts n =
    read_front d y.Plugins z ts
    ∙ named {X = List Plugin → List Plugin} d y.Plugins (λ name p front. p.1.0 (front ++ plugin_of name p.0 ∷ [])) (λ x. r.read d y.Plugins x.1 >>= λ f. Ok ((λ front. f.0 (front ++ x.0 ∷ [])), f.1)) z ts (λ name a. refl)

statements_plugin : (d : ℕ) (z : Token) (ts : List Token)
    → moved {X = List Statement → List Statement} r.read (on_some (plugin_name z) (λ _. y.SettingsBlock ∷ y.Statements ∷ []) (λ name p front. p.1.0 (front ++ s.Plugin (plugin_of name p.0) ∷ []))) None d (z ∷ ts) ts
    ≡ turn {B = List Statement} (r.plugin d (z ∷ ts) >>= λ x. Ok (s.Plugin x.0, x.1)) (r.read d y.Statements) (λ front x. front ++ x ∷ [])
statements_plugin d z ts =
    let on = λ (x : Statement × List Token). (r.read d y.Statements x.1 >>= λ (f : (List Statement → List Statement) × List Token). Ok ((λ (front : List Statement). f.0 (front ++ x.0 ∷ [])), f.1)) in
    named {X = List Statement → List Statement} d y.Statements (λ name p front. p.1.0 (front ++ s.Plugin (plugin_of name p.0) ∷ [])) (λ x. on (s.Plugin x.0, x.1)) z ts (λ name a. refl)
    ∙ sym (assoc (r.plugin d (z ∷ ts)) (λ x. Ok (s.Plugin x.0, x.1)) on)

pub statements_item : (d : ℕ) (z : Token) (ts : List Token) → (z ≡ t.CloseBrace → ⊥) → r.read d y.Statements (z ∷ ts) ≡ turn {B = List Statement} (r.statement d (z ∷ ts)) (r.read d y.Statements) (λ front x. front ++ x ∷ [])
unfolding r.statement r.arms
statements_item d t.CloseBrace ts n = absurd (n refl)
statements_item d (t.Word w.If) ts n =
    let on = λ (x : Statement × List Token). (r.read d y.Statements x.1 >>= λ (f : (List Statement → List Statement) × List Token). Ok ((λ (front : List Statement). f.0 (front ++ x.0 ∷ [])), f.1)) in
    read_front d y.Statements (t.Word w.If) ts
    ∙ sym (assoc (r.arms d ts) (λ x. Ok (s.Branch x.0, x.1)) on ∙ joins (r.arm d ts) (λ x. r.read d y.Otherwise x.1) (λ x f. f (x ∷ [])) (λ x. on (s.Branch x.0, x.1))
    ∙ arm_is d ts (λ x. r.read d y.Otherwise x.1 >>= λ g. on (s.Branch (g.0 (x.0 ∷ [])), g.1)))
statements_item d (t.Word a) ts n = read_front d y.Statements (t.Word a) ts ∙ statements_plugin d (t.Word a) ts
statements_item d z ts n = read_front d y.Statements z ts ∙ statements_plugin d z ts

itself : {A : Type 0} (q : Read A) → (q >>= λ a. Ok (a.0, a.1)) ≡ q
itself (Ok x) = refl
itself (Err e) = refl

pub otherwise_if : (d : ℕ) (ts : List Token) → r.read d y.Otherwise (t.Word w.Else ∷ t.Word w.If ∷ ts) ≡ turn {B = List Arm} (r.arm d ts) (r.read d y.Otherwise) (λ front x. front ++ x ∷ [])
otherwise_if d ts =
    read_front d y.Otherwise (t.Word w.Else) (t.Word w.If ∷ ts)
    ∙ ap (λ q. q >>= λ a. Ok (a.0, a.1)) (read_front d y.ElseBody (t.Word w.If) ts ∙ sym (arm_is d ts (λ x. r.read d y.Otherwise x.1 >>= λ f. Ok ((λ front. f.0 (front ++ x.0 ∷ [])), f.1))))
    ∙ itself (turn {B = List Arm} (r.arm d ts) (r.read d y.Otherwise) (λ front x. front ++ x ∷ []))

-- a plugin at the front of the tokens
pub plugins_turn : (d : ℕ) {ts behind : List Token} {z : Token} → ts ≡ z ∷ behind → (z ≡ t.CloseBrace → ⊥) → r.read d y.Plugins ts ≡ turn {B = List Plugin} (r.plugin d ts) (r.read d y.Plugins) (λ front x. front ++ x ∷ [])
plugins_turn d {behind = behind} {z = z} is n = ap (r.read d y.Plugins) is ∙ plugins_item d z behind n ∙ ap (λ us. turn {B = List Plugin} (r.plugin d us) (r.read d y.Plugins) (λ front x. front ++ x ∷ [])) (sym is)

pub statements_turn : (d : ℕ) {ts behind : List Token} {z : Token} → ts ≡ z ∷ behind → (z ≡ t.CloseBrace → ⊥) → r.read d y.Statements ts ≡ turn {B = List Statement} (r.statement d ts) (r.read d y.Statements) (λ front x. front ++ x ∷ [])
statements_turn d {behind = behind} {z = z} is n = ap (r.read d y.Statements) is ∙ statements_item d z behind n ∙ ap (λ us. turn {B = List Statement} (r.statement d us) (r.read d y.Statements) (λ front x. front ++ x ∷ [])) (sym is)

if_is : (z : Token) → r.is_if z ≡ true → z ≡ t.Word w.If
if_is (t.Word w.If) h = refl
if_is (t.Word a) h = absurd (cc)
if_is z h = absurd (cc)

-- behind an `else`
pub otherwise_turn : (d : ℕ) {ts behind next : List Token} {z : Token} → ts ≡ t.Word w.Else ∷ behind → behind ≡ z ∷ next → r.is_if z ≡ true
    → r.read d y.Otherwise ts ≡ turn {B = List Arm} (r.arm d next) (r.read d y.Otherwise) (λ front x. front ++ x ∷ [])
otherwise_turn d {next = next} {z = z} is nis h = ap (r.read d y.Otherwise) (is ∙ ap (λ us. t.Word w.Else ∷ us) (nis ∙ ap (λ a. a ∷ next) (if_is z h))) ∙ otherwise_if d next

-- an entry of a hash, and a setting
pub pairs_turn : (d : ℕ) (front : Entries) (k : List ℕ) {ts behind : List Token} {z : Token} → ts ≡ z ∷ behind → r.fresh_key front z ≡ Some k
    → r.read d (y.Pairs (r.keys_of front)) ts ≡ turn {B = Entries} (r.entry d behind) (r.read d (y.Pairs (r.keys_of front ++ k ∷ []))) (λ front x. front ++ (k, x) ∷ [])
pairs_turn d front k {behind = behind} {z = z} is h = ap (r.read d (y.Pairs (r.keys_of front))) is ∙ pairs_item d (r.keys_of front) k z behind h

keys_more : (front : Entries) (k : List ℕ) (x : SettingValue) → r.keys_of (front ++ (k, x) ∷ []) ≡ r.keys_of front ++ k ∷ []
keys_more [] k x = refl
keys_more (e ∷ front) k x = ap (λ l. e.0 ∷ l) (keys_more front k x)

pub pairs_turned : (d : ℕ) (front : Entries) (k : List ℕ) (x : SettingValue) {ts rest after : List Token} {z : Token} {all : Read Entries} → ts ≡ z ∷ rest → r.fresh_key front z ≡ Some k
    → behind front (r.read d (y.Pairs (r.keys_of front))) ts ≡ all → r.entry d rest ≡ Ok (x, after) → behind (front ++ (k, x) ∷ []) (r.read d (y.Pairs (r.keys_of (front ++ (k, x) ∷ [])))) after ≡ all
pairs_turned d front k x {after = after} is h all v =
    ap (λ keys. behind (front ++ (k, x) ∷ []) (r.read d (y.Pairs keys)) after) (keys_more front k x)
    ∙ turned (r.read d (y.Pairs (r.keys_of front))) (r.read d (y.Pairs (r.keys_of front ++ k ∷ []))) (λ front x. front ++ (k, x) ∷ []) front _ (pairs_turn d front k is h) all v

pub settings_turn : (d : ℕ) (k : List ℕ) {ts behind : List Token} {z : Token} → ts ≡ z ∷ behind → setting_name z ≡ Some k → r.read d y.Settings ts ≡ turn {B = Entries} (r.entry d behind) (r.read d y.Settings) (λ front x. with_setting k x front)
settings_turn d k {behind = behind} {z = z} is h = ap (r.read d y.Settings) is ∙ settings_item d k z behind h

-- the first member of an array
pub members_turn : (d : ℕ) {ts rest after : List Token} {z : Token} {x : SettingValue} → ts ≡ z ∷ rest → (z ≡ t.CloseBracket → ⊥) → r.read d y.Value ts ≡ Ok (x, after) → r.read d y.Members ts ≡ behind (x ∷ []) (r.read d y.More) after
members_turn d {rest = rest} {z = z} is n v = ap (r.read d y.Members) is ∙ members_item d z rest n ∙ bind_is (λ x. behind (x.0 ∷ []) (r.read d y.More) x.1) (ap (r.read d y.Value) (sym is) ∙ v) refl
