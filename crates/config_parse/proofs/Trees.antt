-- The machine with trees and the one without take the same.
use Rattle.std.proofs.Common.{◌≡◌, ℕ, zero, suc, List, [], ◌∷◌, ◌++◌, length, Option, Some, None, Ok, Err, ◌&&◌, refl}
use Rattle.config_lex.specs.declared.token.Token.{Token}
use Rattle.config_parse.specs.Verdicts.{Verdict}
use Rattle.config_parse.specs.Verdicts as is
use Rattle.config_parse.specs.Machine.{Stack, Sem, Sems, Move, refuses, stays, opens, shuts, next, blank, rise, Step, act, step, is_blank, may_end, ends, go, verdict_from}
use Rattle.config_parse.specs.Trees.{Made, Going, front, back, act_with, step_with, end_blank, end_with, run_with}

abbrev pub outcome : {R : Type 0} → Made R → Verdict
outcome (Ok r) = is.Reads
outcome (Err v) = v

module _ {R : Type 0} where
  ends_told : (k : Stack) (f : Sems k → R) → ends (may_end k) ≡ outcome (end_with k f)
  ends_told [] f = refl
  ends_told (x ∷ k) f = at (blank x) (λ v. ends_told k (λ p. f (v, p)))
    where
      at : (b : Option (Sem x)) → ((v : Sem x) → ends (may_end k) ≡ outcome (end_with k (λ p. f (v, p)))) → ends (is_blank b && may_end k) ≡ outcome (end_blank b (λ v. end_with k (λ p. f (v, p))))
      at None again = refl
      at (Some v) again = again v

  act_told : {X : Type 0} (m : Move X) (b : Option X) (up : ℕ → ℕ) (left d : ℕ) (k : Stack) (f : X × Sems k → R) (on : Going R) (pass : ℕ → (Sems k → R) → Made R) (pass_ : ℕ → Step) (on_ : ℕ → Stack → Verdict)
      → ((e : ℕ) (j : Stack) (g : Sems j → R) → on_ e j ≡ outcome (on e j g))
      → ((e : ℕ) (g : Sems k → R) → go (pass_ e) left on_ ≡ outcome (pass e g))
      → go (act m b up d k pass_) left on_ ≡ outcome (act_with m b up left d k f on pass)
  act_told (stays now made) b up left d k f on pass pass_ on_ p q = p d (now ++ k) (λ s. f (made (front now k s), back now k s))
  act_told (opens now made) b up left zero k f on pass pass_ on_ p q = refl
  act_told (opens now made) b up left (suc d) k f on pass pass_ on_ p q = p d (now ++ k) (λ s. f (made (front now k s), back now k s))
  act_told (shuts v) b up left d k f on pass pass_ on_ p q = p (up d) k (λ s. f (v, s))
  act_told refuses None up left d k f on pass pass_ on_ p q = refl
  act_told refuses (Some v) up left d k f on pass pass_ on_ p q = q (up d) (λ s. f (v, s))

  step_told : (left d : ℕ) (k : Stack) (f : Sems k → R) (z : Token) (on : Going R) (on_ : ℕ → Stack → Verdict)
      → ((e : ℕ) (j : Stack) (g : Sems j → R) → on_ e j ≡ outcome (on e j g)) → go (step d k z) left on_ ≡ outcome (step_with left d k f z on)
  step_told left d [] f z on on_ p = refl
  step_told left d (x ∷ k) f z on on_ p =
      act_told (next x z) (blank x) (rise x) left d k f on (λ e g. step_with left e k g z on) (λ e. step e k z) on_ p (λ e g. step_told left e k g z on on_ p)

  pub run_told : (d : ℕ) (k : Stack) (f : Sems k → R) (ts : List Token) → verdict_from d k ts ≡ outcome (run_with d k f ts)
  run_told d k f [] = ends_told k f
  run_told d k f (z ∷ ts) = step_told (suc (length ts)) d k f z (λ e j g. run_with e j g ts) (λ e j. verdict_from e j ts) (λ e j g. run_told e j g ts)
