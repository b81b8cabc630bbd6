-- The machine stops at the first token that opens a level too many.
use Rattle.std.proofs.Common.{◌≡◌, ℕ, suc, ◌+◌, ◌≤◌, List, [], ◌∷◌, ◌++◌, length, refl, ap, sym, subst, ◌∙◌, arith, Bool, true, false, append_assoc, length-append}
use Rattle.config_lex.specs.declared.token.Token.{Token}
use Rattle.config_parse.specs.Symbols as y
use Rattle.config_parse.specs.Verdicts as is
use Rattle.config_parse.specs.Levels.{after_all, IsDeep, IsSyntax}
use Rattle.config_parse.specs.Machine.{Stack, Step, stuck, deep, goes, verdict_from, step, go, may_end, ends}
use Rattle.config_parse.proofs.Exact.{walk, onward, viable, walk_grows, step_deep, stops, too_deep, is_fault}
use Rattle.config_parse.proofs.Levels.{shape, Fits, step_good}

pub record Walked (d : ℕ) (k : Stack) (used : List Token) (e : ℕ) (j : Stack) : Type 0 where
  pub fits : Fits j
  pub shape_is : shape j ≡ after_all (shape k) used
  pub levels : e + length (shape j) ≡ d + length (shape k)

pub walked : (d : ℕ) (k : Stack) (used : List Token) (e : ℕ) (j : Stack) → Fits k → walk d k used ≡ goes e j → Walked d k used e j
walked d k [] e j f h =
    let p : d ≡ e = cc in let q : k ≡ j = cc in
    subst (λ z. Walked d k [] z j) p (subst (λ z. Walked d k [] d z) q (record { fits = f; shape_is = refl; levels = refl }))
walked d k (z ∷ used) e j f h = at (step d k z) refl (λ e_ j_ f_ g. walked e_ j_ used e j f_ g) h
  where
    at : (s : Step) → step d k z ≡ s → ((e_ : ℕ) (j_ : Stack) → Fits j_ → walk e_ j_ used ≡ goes e j → Walked e_ j_ used e j) → onward s (λ e_ j_. walk e_ j_ used) ≡ goes e j
        → Walked d k (z ∷ used) e j
    at stuck is again g = absurd (cc)
    at deep is again g = absurd (cc)
    at (goes e_ j_) is again g =
        let a = step_good d k z e_ j_ f is in
        let w = again e_ j_ a.fits g in
        record { fits = w.fits; shape_is = w.shape_is ∙ ap (λ l. after_all l used) a.shape_is; levels = w.levels ∙ a.levels }

-- a front of what was walked was walked
front : (d : ℕ) (k : Stack) (a b : List Token) (e : ℕ) (j : Stack) → walk d k (a ++ b) ≡ goes e j → (e1 : ℕ) × (j1 : Stack) × (walk d k a ≡ goes e1 j1)
front d k [] b e j h = (d, k, refl)
front d k (z ∷ a) b e j h = at (step d k z) (λ e_ j_ g. front e_ j_ a b e j g) h
  where
    at : (s : Step) → ((e_ : ℕ) (j_ : Stack) → walk e_ j_ (a ++ b) ≡ goes e j → (e1 : ℕ) × (j1 : Stack) × (walk e_ j_ a ≡ goes e1 j1)) → onward s (λ e_ j_. walk e_ j_ (a ++ b)) ≡ goes e j
        → (e1 : ℕ) × (j1 : Stack) × (onward s (λ e_ j_. walk e_ j_ a) ≡ goes e1 j1)
    at stuck again g = absurd (cc)
    at deep again g = absurd (cc)
    at (goes e_ j_) again g = again e_ j_ g

-- one more token
one_more : (d : ℕ) (k : Stack) (used : List Token) (z : Token) (e e1 : ℕ) (j j1 : Stack) → walk d k used ≡ goes e j → step e j z ≡ goes e1 j1 → walk d k (used ++ z ∷ []) ≡ goes e1 j1
one_more d k [] z e e1 j j1 h g =
    let p : d ≡ e = cc in let q : k ≡ j = cc in
    ap (λ s. onward s (λ a b. goes a b)) (ap (λ i. step i k z) p ∙ ap (λ i. step e i z) q ∙ g)
one_more d k (x ∷ used) z e e1 j j1 h g = at (step d k x) (λ e_ j_ w. one_more e_ j_ used z e e1 j j1 w g) h
  where
    at : (s : Step) → ((e_ : ℕ) (j_ : Stack) → walk e_ j_ used ≡ goes e j → walk e_ j_ (used ++ z ∷ []) ≡ goes e1 j1) → onward s (λ e_ j_. walk e_ j_ used) ≡ goes e j
        → onward s (λ e_ j_. walk e_ j_ (used ++ z ∷ [])) ≡ goes e1 j1
    at stuck again w = absurd (cc)
    at deep again w = absurd (cc)
    at (goes e_ j_) again w = again e_ j_ w

pub is_deep : (d : ℕ) (ts : List Token) (n : ℕ) → verdict_from d (y.Sections ∷ []) ts ≡ is.Deep n → IsDeep d ts n
is_deep d ts n h =
    let t = stops d (y.Sections ∷ []) ts in
    let s = t.0 in
    let r = too_deep s.level s.stack s.rest n s.halts (sym t.1 ∙ h) in
    let z = step_deep s.level s.stack r.0 r.4 in
    let w = one_more (suc d) (y.Sections ∷ []) s.used r.0 (suc s.level) 0 s.stack z.0 (walk_grows d (y.Sections ∷ []) s.used s.level s.stack s.walked) z.1 in
    let a = walked (suc d) (y.Sections ∷ []) (s.used ++ r.0 ∷ []) 0 z.0 (refl, tt) w in
    let q = a.levels in let p = ap length a.shape_is in
    record {
      used = s.used;
      token = r.0;
      behind = r.1;
      whole = s.whole ∙ ap (λ l. s.used ++ l) r.2;
      place = r.3 ∙ ap length r.2;
      viable = viable (suc d) (s.used ++ r.0 ∷ []) 0 z.0 w;
      deep = omega (arith, p, q);
      within = λ x z e.
          let f = front d (y.Sections ∷ []) x z s.level s.stack (subst (λ l. walk d (y.Sections ∷ []) l ≡ goes s.level s.stack) e s.walked) in
          let b = walked d (y.Sections ∷ []) x f.0 f.1 (refl, tt) f.2 in
          let bl = b.levels in let bs = ap length b.shape_is in omega (arith, bl, bs);
    }

-- what stands before the fault was walked
before : (d : ℕ) (k : Stack) (a b : List Token) (n : ℕ) → verdict_from d k (a ++ b) ≡ is.Syntax n → n ≤ length b → (e : ℕ) × (j : Stack) × (walk d k a ≡ goes e j)
before d k [] b n h l = (d, k, refl)
before d k (z ∷ a) b n h l = at (step d k z) (λ e_ j_ g. before e_ j_ a b n g l) h
  where
    at : (s : Step) → ((e_ : ℕ) (j_ : Stack) → verdict_from e_ j_ (a ++ b) ≡ is.Syntax n → (e : ℕ) × (j : Stack) × (walk e_ j_ a ≡ goes e j))
        → go s (suc (length (a ++ b))) (λ e_ j_. verdict_from e_ j_ (a ++ b)) ≡ is.Syntax n → (e : ℕ) × (j : Stack) × (onward s (λ e_ j_. walk e_ j_ a) ≡ goes e j)
    at stuck again f = let q : suc (length (a ++ b)) ≡ n = cc in absurd (omega (arith, q, length-append a b))
    at deep again f = absurd (cc)
    at (goes e_ j_) again f = again e_ j_ f

pub is_syntax : (d : ℕ) (ts : List Token) (n : ℕ) → verdict_from d (y.Sections ∷ []) ts ≡ is.Syntax n → IsSyntax d ts n
is_syntax d ts n h =
    let f = is_fault d ts n h in
    record {
      fault = f;
      within = λ a b e.
          let p = f.place in
          let w : ts ≡ a ++ (b ++ f.rest) = f.whole ∙ ap (λ l. l ++ f.rest) e ∙ append_assoc a b f.rest in
          let q = before d (y.Sections ∷ []) a (b ++ f.rest) n (subst (λ l. verdict_from d (y.Sections ∷ []) l ≡ is.Syntax n) w h) (omega (arith, p, length-append b f.rest)) in
          let g = walked d (y.Sections ∷ []) a q.0 q.1 (refl, tt) q.2 in
          let gl = g.levels in let gs = ap length g.shape_is in omega (arith, gl, gs);
    }
