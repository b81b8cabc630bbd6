-- Reading by descent is what the machine does, symbol by symbol.
use Rattle.std.proofs.Common.{◌≡◌, ℕ, zero, suc, ◌≤◌, ◌<◌, List, [], ◌∷◌, ◌++◌, length, Option, Some, None, Ok, Err, refl, ap, ◌∙◌, arith}
use Rattle.config_lex.specs.declared.token.Token.{Token}
use Rattle.config_tree.specs.declared.tree.Config.{Config}
use Rattle.config_tree.specs.Joining.{empty}
use Rattle.config_parse.specs.Symbols.{Symbol}
use Rattle.config_parse.specs.Symbols as y
use Rattle.config_parse.specs.Machine.{Stack, Sem, Sems, Move, refuses, stays, opens, shuts, next, blank, rise}
use Rattle.config_parse.specs.Trees.{Made, front, back, act_with, end_blank, end_with, run_with, step_with, made}
use Rattle.config_parse.specs.Verdicts.{Verdict}
use Rattle.config_parse.specs.Verdicts as is
use Rattle.config_parse.proofs.Taken.{Rises, levels, rises}
use Rattle.config_parse.specs.Read as r
use Rattle.config_parse.specs.Read.{Read, Reader, Readers, ◌>>=◌, refuse, each, skipped, moved, read_by, behind}

-- at most so many tokens are left
abbrev pub Short : {A : Type 0} → Read A → ℕ → Type 0
Short {A} q n = (x : A × List Token) → q ≡ Ok x → length x.1 ≤ n

abbrev pub Shrinks : {A : Type 0} → Reader A → Type 0
Shrinks read = (ts : List Token) → Short (read ts) (length ts)

pub none : {A : Type 0} (e : Verdict) (n : ℕ) → Short {A = A} (Err e) n
none e n x h = absurd (cc)

pub ok : {A : Type 0} (a : A) (ts : List Token) (n : ℕ) → length ts ≤ n → Short (Ok (a, ts)) n
ok a ts n b x h = let q : (a, ts) ≡ x = cc in let l = ap (λ p. length p.1) q in omega (arith, l, b)

pub bound : {A B : Type 0} (q : Read A) (f : A × List Token → Read B) (n : ℕ) → Short q n → ((x : A × List Token) → Short (f x) (length x.1)) → Short (q >>= f) n
bound (Ok x) f n s u y h = let a = s x refl in let b = u x y h in omega (arith, a, b)
bound (Err e) f n s u y h = absurd (cc)

skipped_short : {X : Type 0} (b : Option X) → Shrinks (skipped b)
skipped_short None ts = none (is.Syntax (length ts)) (length ts)
skipped_short (Some v) ts = ok v ts (length ts) (omega arith)

each_short : {B : Type 0} (read : Readers) → ((d : ℕ) (x : Symbol) → Shrinks (read d x)) → (d : ℕ) (k : Stack) (ts : List Token) (made : Sems k → B) → Short (each read d k ts made) (length ts)
each_short read s d [] ts made = ok (made tt) ts (length ts) (omega arith)
each_short read s d (x ∷ k) ts made = bound (read d x ts) (λ a. each read (rise x d) k a.1 (λ p. made (a.0, p))) (length ts) (s d x ts) (λ a. each_short read s (rise x d) k a.1 (λ p. made (a.0, p)))

less : {A : Type 0} (q : Read A) (n : ℕ) → Short q n → Short q (suc n)
less q n s x h = let l = s x h in omega (arith, l)

moved_short : {X : Type 0} (read : Readers) → ((d : ℕ) (x : Symbol) → Shrinks (read d x)) → (m : Move X) (b : Option X) (d : ℕ) (z : Token) (ts : List Token) → Short (moved read m b d (z ∷ ts) ts) (suc (length ts))
moved_short read s refuses b d z ts = skipped_short b (z ∷ ts)
moved_short read s (stays now made) b d z ts = less (each read d now ts made) (length ts) (each_short read s d now ts made)
moved_short read s (opens now made) b zero z ts = none (is.Deep (suc (length ts))) (suc (length ts))
moved_short read s (opens now made) b (suc d) z ts = less (each read d now ts made) (length ts) (each_short read s d now ts made)
moved_short read s (shuts v) b d z ts = ok v ts (suc (length ts)) (omega arith)

short_by : (n d : ℕ) (x : Symbol) → Shrinks (read_by n d x)
short_by zero d x ts = none (is.Syntax (length ts)) (length ts)
short_by (suc n) d x [] = skipped_short (blank x) []
short_by (suc n) d x (z ∷ ts) = moved_short (read_by n) (short_by n) (next x z) (blank x) d z ts

pub read_short : (d : ℕ) (x : Symbol) → Shrinks (r.read d x)
unfolding r.read
read_short d x ts = short_by (suc (length ts)) d x ts

-- a turn for each token is enough
bind_same : {A B : Type 0} (q p : Read A) (f g : A × List Token → Read B) → q ≡ p → ((a : A × List Token) → q ≡ Ok a → f a ≡ g a) → (q >>= f) ≡ (p >>= g)
bind_same (Ok a) p f g e h = h a refl ∙ ap (λ o. o >>= g) e
bind_same (Err v) p f g e h = ap (λ o. o >>= g) e

module _ (read other : Readers) (n : ℕ) (s : (d : ℕ) (x : Symbol) → Shrinks (read d x)) (same : (d : ℕ) (x : Symbol) (ts : List Token) → length ts ≤ n → read d x ts ≡ other d x ts) where
  each_same : {B : Type 0} (d : ℕ) (k : Stack) (ts : List Token) (made : Sems k → B) → length ts ≤ n → each read d k ts made ≡ each other d k ts made
  each_same d [] ts made h = refl
  each_same d (x ∷ k) ts made h = bind_same (read d x ts) (other d x ts) _ _ (same d x ts h) (λ a e. let l = s d x ts a e in each_same (rise x d) k a.1 (λ p. made (a.0, p)) (omega (arith, l, h)))

  moved_same : {X : Type 0} (m : Move X) (b : Option X) (d : ℕ) (z : Token) (ts : List Token) → length ts ≤ n → moved read m b d (z ∷ ts) ts ≡ moved other m b d (z ∷ ts) ts
  moved_same refuses b d z ts h = refl
  moved_same (stays now made) b d z ts h = each_same d now ts made h
  moved_same (opens now made) b zero z ts h = refl
  moved_same (opens now made) b (suc d) z ts h = each_same d now ts made h
  moved_same (shuts v) b d z ts h = refl

enough : (n m d : ℕ) (x : Symbol) (ts : List Token) → length ts < n → length ts < m → read_by n d x ts ≡ read_by m d x ts
enough zero m d x ts h g = absurd (omega (arith, h))
enough (suc n) zero d x ts h g = absurd (omega (arith, g))
enough (suc n) (suc m) d x [] h g = refl
enough (suc n) (suc m) d x (z ∷ ts) h g =
    moved_same (read_by n) (read_by m) (length ts) (short_by n) (λ e i us b. enough n m e i us (omega (arith, h, b)) (omega (arith, g, b))) (next x z) (blank x) d z ts (omega arith)

-- the first token moves the symbol
pub read_front : (d : ℕ) (x : Symbol) (z : Token) (ts : List Token) → r.read d x (z ∷ ts) ≡ moved r.read (next x z) (blank x) d (z ∷ ts) ts
unfolding r.read
read_front d x z ts =
    moved_same (read_by (suc (length ts))) (λ e i us. read_by (suc (length us)) e i us) (length ts) (short_by (suc (length ts)))
    (λ e i us b. enough (suc (length ts)) (suc (length us)) e i us (omega (arith, b)) (omega arith)) (next x z) (blank x) d z ts (omega arith)

pub read_end : (d : ℕ) (x : Symbol) → r.read d x [] ≡ skipped (blank x) []
unfolding r.read
read_end d x = refl

pub assoc : {A B C : Type 0} (q : Read A) (f : A × List Token → Read B) (g : B × List Token → Read C) → ((q >>= f) >>= g) ≡ (q >>= λ x. f x >>= g)
assoc (Ok x) f g = refl
assoc (Err e) f g = refl

-- the machine with trees reads a symbol, and goes on with the rest of its stack
abbrev along : {A R : Type 0} → Read A → (A × List Token → Made R) → Made R
along (Ok x) k = k x
along (Err e) k = Err e

along_bind : {A B R : Type 0} (q : Read A) (f : A × List Token → Read B) (k : B × List Token → Made R) → along q (λ x. along (f x) k) ≡ along (q >>= f) k
along_bind (Ok x) f k = refl
along_bind (Err e) f k = refl

along_same : {A R : Type 0} (q : Read A) (f g : A × List Token → Made R) → ((x : A × List Token) → q ≡ Ok x → f x ≡ g x) → along q f ≡ along q g
along_same (Ok x) f g h = h x refl
along_same (Err e) f g h = refl

module _ (R : Type 0) where
  abbrev Runs : Readers → ℕ → Type 0
  Runs read n = (d : ℕ) (x : Symbol) (k : Stack) (f : Sem x × Sems k → R) (ts : List Token) → length ts < n → run_with d (x ∷ k) f ts ≡ along (read d x ts) (λ a. run_with (rise x d) k (λ p. f (a.0, p)) a.1)

  module _ (read : Readers) (n : ℕ) (s : (d : ℕ) (x : Symbol) → Shrinks (read d x)) (runs : Runs read n) where
    each_runs : {A : Type 0} (d : ℕ) (now k : Stack) (made : Sems now → A) (g : A → Sems k → R) (ts : List Token) → length ts < n
        → run_with d (now ++ k) (λ p. g (made (front now k p)) (back now k p)) ts ≡ along (each read d now ts made) (λ a. run_with (levels d now) k (g a.0) a.1)
    each_runs d [] k made g ts h = refl
    each_runs d (x ∷ now) k made g ts h =
        runs d x (now ++ k) (λ p. g (made (p.0, front now k p.1)) (back now k p.1)) ts h
        ∙ along_same (read d x ts) _ _ (λ a e. let l = s d x ts a e in each_runs (rise x d) now k (λ p. made (a.0, p)) g a.1 (omega (arith, l, h)))
        ∙ along_bind (read d x ts) (λ a. each read (rise x d) now a.1 (λ p. made (a.0, p))) _

    moved_runs : {X : Type 0} (x : Symbol) (m : Move X) (b : Option X) (d : ℕ) (k : Stack) (f : X × Sems k → R) (z : Token) (ts : List Token) → length ts < n → Rises x m
        → act_with m b (rise x) (suc (length ts)) d k f (λ e j h. run_with e j h ts) (λ e g. step_with (suc (length ts)) e k g z (λ e j h. run_with e j h ts))
        ≡ along (moved read m b d (z ∷ ts) ts) (λ a. run_with (rise x d) k (λ p. f (a.0, p)) a.1)
    moved_runs x refuses None d k f z ts h u = refl
    moved_runs x refuses (Some v) d k f z ts h u = refl
    moved_runs x (stays now made) b d k f z ts h u = each_runs d now k made (λ v p. f (v, p)) ts h ∙ along_same (each read d now ts made) _ _ (λ a e. ap (λ i. run_with i k (λ p. f (a.0, p)) a.1) (u d))
    moved_runs x (opens now made) b zero k f z ts h u = refl
    moved_runs x (opens now made) b (suc d) k f z ts h u = each_runs d now k made (λ v p. f (v, p)) ts h ∙ along_same (each read d now ts made) _ _ (λ a e. ap (λ i. run_with i k (λ p. f (a.0, p)) a.1) (u d))
    moved_runs x (shuts v) b d k f z ts h u = refl

  end_runs : {X : Type 0} (b : Option X) (e : ℕ) (k : Stack) (f : X × Sems k → R) → end_blank b (λ v. end_with k (λ p. f (v, p))) ≡ along (skipped b []) (λ a. run_with e k (λ p. f (a.0, p)) a.1)
  end_runs None e k f = refl
  end_runs (Some v) e k f = refl

  runs_by : (n : ℕ) → Runs (read_by n) n
  runs_by zero d x k f ts h = absurd (omega (arith, h))
  runs_by (suc n) d x k f [] h = end_runs (blank x) (rise x d) k f
  runs_by (suc n) d x k f (z ∷ ts) h = moved_runs (read_by n) n (short_by n) (runs_by n) x (next x z) (blank x) d k f z ts (omega (arith, h)) (rises x z)

-- reading makes what the machine makes
pub reads_made : (levels : ℕ) (ts : List Token) → made levels ts ≡ r.descended levels ts
unfolding r.read
reads_made levels ts = runs_by Config (suc (length ts)) levels y.Sections [] (λ p. p.0 empty) ts (omega arith) ∙ at (read_by (suc (length ts)) levels y.Sections ts)
  where
    at : (q : Read (Config → Config)) → along q (λ a. run_with levels [] (λ p. a.0 empty) a.1) ≡ r.whole (q >>= λ f. Ok (f.0 empty, f.1))
    at (Ok (f, [])) = refl
    at (Ok (f, z ∷ ts)) = refl
    at (Err e) = refl
