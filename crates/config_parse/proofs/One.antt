-- A list of tokens has one answer.
use Rattle.std.proofs.Common.{◌≡◌, ℕ, suc, ◌≤◌, List, [], ◌∷◌, ◌++◌, length, refl, ap, sym, subst, ◌∙◌, arith, append_assoc, ◌⊎◌, inl, inr}
use Rattle.config_lex.specs.declared.token.Token.{Token}
use Rattle.config_tree.specs.declared.tree.Config.{Config}
use Rattle.config_parse.specs.Grammar.{ReadsConfig}
use Rattle.config_parse.specs.Viable.{Viable, IsFault}
use Rattle.config_parse.specs.Levels.{IsDeep, IsSyntax, level}
use Rattle.config_parse.specs.Machine.{Stack, Step, stuck, deep, goes, verdict_from, step, go}
use Rattle.config_parse.specs.Symbols as y
use Rattle.config_parse.specs.Verdicts as is
use Rattle.config_parse.proofs.Exact.{walk, onward, takes}
use Rattle.config_parse.proofs.Deep.{walked}
use Rattle.std.proofs.lemmas.List.{append-nil}

viable_front : (a b : List Token) → Viable (a ++ b) → Viable a
viable_front a b v = record { levels = v.levels; more = b ++ v.more; config = v.config; reads = subst (λ l. ReadsConfig v.levels l v.config) (append_assoc a b v.more) v.reads }

abbrev Cut : (a b c d : List Token) → Type 0
Cut a b c d = (w : List Token) × (c ≡ a ++ w) × (b ≡ w ++ d)

cuts : (a b c d : List Token) → a ++ b ≡ c ++ d → Cut a b c d ⊎ Cut c d a b
cuts [] b c d h = inl (c, refl, h)
cuts (x ∷ a) b [] d h = inr (x ∷ a, refl, sym h)
cuts (x ∷ a) b (z ∷ c) d h =
    let p : x ≡ z = cc in let q : a ++ b ≡ c ++ d = cc in
    elim (cuts a b c d q) [ inl r ↦ inl (r.0, ap (λ l. l ∷ c) (sym p) ∙ ap (λ l. x ∷ l) r.1, r.2) | inr r ↦ inr (r.0, ap (λ l. l ∷ a) p ∙ ap (λ l. z ∷ l) r.1, r.2) ]

past : (ts : List Token) (l : ℕ) (f : IsFault ts l) (used w rest : List Token) → Viable used → used ≡ f.used ++ w → f.rest ≡ w ++ rest → w ≡ []
past ts l f used [] rest v u r = refl
past ts l f used (z ∷ w) rest v u r =
    absurd (f.stops.wrong z (w ++ rest) r (viable_front (f.used ++ z ∷ []) w (subst Viable (u ∙ sym (append_assoc f.used (z ∷ []) w)) v)))

pub one_fault : (ts : List Token) (l k : ℕ) → IsFault ts l → IsFault ts k → l ≡ k
one_fault ts l k f g =
    elim (cuts f.used f.rest g.used g.rest (sym f.whole ∙ g.whole)) [
      | inl r ↦ (let p = past ts l f g.used r.0 g.rest g.stops.viable r.1 r.2 in f.place ∙ ap length (r.2 ∙ ap (λ w. w ++ g.rest) p) ∙ sym g.place)
      | inr r ↦ (let p = past ts k g f.used r.0 f.rest f.stops.viable r.1 r.2 in f.place ∙ sym (ap length (r.2 ∙ ap (λ w. w ++ f.rest) p)) ∙ sym g.place)
    ]

pub read_fault : (d : ℕ) (ts : List Token) (c : Config) (l : ℕ) → ReadsConfig d ts c → IsFault ts l → ⊥
read_fault d ts c l h f = at f.rest refl
  where
    at : (r : List Token) → f.rest ≡ r → ⊥
    at [] e = f.stops.early e d c (subst (λ z. ReadsConfig d z c) (f.whole ∙ ap (λ z. f.used ++ z) e ∙ append-nil f.used) h)
    at (z ∷ b) e = f.stops.wrong z b e (record { levels = d; more = b; config = c; reads = subst (λ z. ReadsConfig d z c) (f.whole ∙ ap (λ z. f.used ++ z) e ∙ sym (append_assoc f.used (z ∷ []) b)) h })

pub syntax_deep : (d : ℕ) (ts : List Token) (l k : ℕ) → IsSyntax d ts l → IsDeep d ts k → ⊥
syntax_deep d ts l k f g =
    let u = g.used ++ g.token ∷ [] in
    let q = g.deep in
    let e : u ++ g.behind ≡ f.fault.used ++ f.fault.rest = append_assoc g.used (g.token ∷ []) g.behind ∙ sym g.whole ∙ f.fault.whole in
    elim (cuts u g.behind f.fault.used f.fault.rest e) [
      | inl r ↦ (let p : level u ≤ d = f.within u r.0 r.1 in absurd (omega (arith, p, q)))
      | inr r ↦ (let n = past ts l f.fault u r.0 g.behind g.viable r.1 r.2 in
          let i : f.fault.used ≡ u ++ [] = sym (r.1 ∙ ap (λ w. f.fault.used ++ w) n ∙ append-nil f.fault.used) ∙ sym (append-nil u) in
          let p : level u ≤ d = f.within u [] i in absurd (omega (arith, p, q)))
    ]

fronts : (d : ℕ) (k : Stack) (a b : List Token) → verdict_from d k (a ++ b) ≡ is.Reads → (e : ℕ) × (j : Stack) × (walk d k a ≡ goes e j)
fronts d k [] b h = (d, k, refl)
fronts d k (z ∷ a) b h = at (step d k z) (λ e_ j_ g. fronts e_ j_ a b g) h
  where
    at : (s : Step) → ((e_ : ℕ) (j_ : Stack) → verdict_from e_ j_ (a ++ b) ≡ is.Reads → (e : ℕ) × (j : Stack) × (walk e_ j_ a ≡ goes e j)) → go s (suc (length (a ++ b))) (λ e_ j_. verdict_from e_ j_ (a ++ b)) ≡ is.Reads
        → (e : ℕ) × (j : Stack) × (onward s (λ e_ j_. walk e_ j_ a) ≡ goes e j)
    at stuck again f = absurd (cc)
    at deep again f = absurd (cc)
    at (goes e_ j_) again f = again e_ j_ f

pub read_deep : (d : ℕ) (ts : List Token) (c : Config) (k : ℕ) → ReadsConfig d ts c → IsDeep d ts k → ⊥
read_deep d ts c k h g =
    let u = g.used ++ g.token ∷ [] in
    let q = fronts d (y.Sections ∷ []) u g.behind (subst (λ l. verdict_from d (y.Sections ∷ []) l ≡ is.Reads) (g.whole ∙ sym (append_assoc g.used (g.token ∷ []) g.behind)) (takes d ts c h)) in
    let w = walked d (y.Sections ∷ []) u q.0 q.1 (refl, tt) q.2 in
    let wl = w.levels in let ws = ap length w.shape_is in let gd = g.deep in omega (arith, wl, ws, gd)

pub one_deep : (d : ℕ) (ts : List Token) (l k : ℕ) → IsDeep d ts l → IsDeep d ts k → l ≡ k
one_deep d ts l k f g =
    elim (cuts f.used (f.token ∷ f.behind) g.used (g.token ∷ g.behind) (sym f.whole ∙ g.whole)) [ inl r ↦ at f g r.0 r.1 r.2 | inr r ↦ sym (at g f r.0 r.1 r.2) ]
  where
    at : {a b : ℕ} (x : IsDeep d ts a) (v : IsDeep d ts b) (w : List Token) → v.used ≡ x.used ++ w → x.token ∷ x.behind ≡ w ++ v.token ∷ v.behind → a ≡ b
    at x v [] u r = x.place ∙ ap length r ∙ sym v.place
    at x v (i ∷ w) u r =
        let s : x.token ≡ i = cc in
        let q : v.used ≡ (x.used ++ x.token ∷ []) ++ w = u ∙ ap (λ i. x.used ++ i ∷ w) (sym s) ∙ sym (append_assoc x.used (x.token ∷ []) w) in
        let p : level (x.used ++ x.token ∷ []) ≤ d = v.within (x.used ++ x.token ∷ []) w q in
        let e = x.deep in absurd (omega (arith, p, e))
